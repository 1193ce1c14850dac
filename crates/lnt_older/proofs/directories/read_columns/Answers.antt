use Rattle.std.proofs.Common.{[]}
use Rattle.lnt_csv.proofs.ReadingLaws.{no_record}
use Rattle.lnt_older.specs.Directories.{directory_names}
use Rattle.lnt_older.proofs.DirectoryLemmas.{columns_found}
use Rattle.lnt_older.proofs.directories.read_columns.Goals as goal

pub returns-then-not-branch : goal.returns-then-not-branch
returns-then-not-branch c bytes none x =
    no_record bytes directory_names (rw c.if-not-branch.true at c.in_ok-read_next.ensures.read bytes [] none) x

pub returns : goal.returns
returns c bytes none = columns_found c.has_fields.result c.read_next.new.reader bytes _
    (rw c.if-not-branch.false at c.in_ok-read_next.ensures.read bytes [] none) (rw c.as_slice.ensures at c.has_fields.ensures)
