use Rattle.std.proofs.Common.{◌≡◌, ℕ, List, rules, subst}
use Rattle.std.proofs.lemmas.Result.{IfErr-weaker, on_ok_weaker}
use Rattle.lnt_older.specs.Directories.{directory_at}
use Rattle.lnt_older.specs.Upgradable.{IsLargeNext}
use Rattle.lnt_older.proofs.UpgradedSections.{five_added, older_added, older_large}
use Rattle.lnt_older.proofs.section.append_unit.Goals as goal

pub returns-in_ok-extend_from_slice-in-Ok-Five-clause-ok : goal.returns-in_ok-extend_from_slice-in-Ok-Five-clause-ok
returns-in_ok-extend_from_slice-in-Ok-Five-clause-ok c = search (rules, five_added)

pub returns-in-Ok-Older-clause-ok : goal.returns-in-Ok-Older-clause-ok
returns-in-Ok-Older-clause-ok c =
    let read = rw c.in-Ok-Older.field-0-is at c.in-Ok-Older.ensures.ok in
    let place : c.directory_of-directory.result.now ≡ directory_at c.args.directories.now c.args.cursor.now.place =
    subst (λ (p : ℕ). c.directory_of-directory.result.now ≡ directory_at c.args.directories.now p) c.place-place.ensures.value
    c.directory_of-directory.ensures in
    on_ok_weaker c.append_upgraded_unit.result (λ added.
    older_added c.args.address_size c.args.directories.now c.directory_of-directory.result.now c.in-Ok-Older.unit c.args.cursor.now
    c.take_any_unit.new.cursor c.args.out.now.items c.append_upgraded_unit.new.out.items c.requires.size read place added)
    c.append_upgraded_unit.ensures.ok

pub returns-in-Ok-Older-clause-err : goal.returns-in-Ok-Older-clause-err
returns-in-Ok-Older-clause-err c =
    let read = rw c.in-Ok-Older.field-0-is at c.in-Ok-Older.ensures.ok in
    let place : c.directory_of-directory.result.now ≡ directory_at c.args.directories.now c.args.cursor.now.place =
    subst (λ (p : ℕ). c.directory_of-directory.result.now ≡ directory_at c.args.directories.now p) c.place-place.ensures.value
    c.directory_of-directory.ensures in
    IfErr-weaker c.append_upgraded_unit.result _ _ (λ fault is large.
    subst (λ (d : List ℕ). IsLargeNext c.args.address_size d c.args.cursor.now) place
    (older_large c.args.address_size c.directory_of-directory.result.now c.in-Ok-Older.unit c.args.cursor.now c.take_any_unit.new.cursor
    c.requires.size read (is large))) c.append_upgraded_unit.ensures.err
