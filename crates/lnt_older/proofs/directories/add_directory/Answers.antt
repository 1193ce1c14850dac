use Rattle.std.proofs.Common.{refl}
use Rattle.lnt_older.proofs.DirectoryLemmas.{may_follow, must_follow}
use Rattle.lnt_older.proofs.directories.add_directory.Goals as goal

pub returns : goal.returns
returns c =
    let found = rw c.in-Some.is at c.in_ok-directory.ensures in
    let last = rw c.deref.ensures.value at c.last_unit-before.ensures in
    record {
      directory = c.in-Some.directory;
      is_record = found.0;
      follows = may_follow c.args.older.now c.args.directories.now.items c.last_unit-before.result c.in-Some.directory c.requires.rising
          last found.1;
      added = c.in_ok-push.ensures.items;
    }

pub returns-in_default : goal.returns-in_default
returns-in_default c =
    let none = rw c.in_default.is at c.in_ok-directory.ensures in
    let last = rw c.deref.ensures.value at c.last_unit-before.ensures in (
      refl,
      λ directory is may. none directory is
          (must_follow c.args.older.now c.args.directories.now.items c.last_unit-before.result directory last may),
    )
