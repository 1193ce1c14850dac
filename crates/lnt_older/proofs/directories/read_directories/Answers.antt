use Rattle.std.proofs.Common.{◌≡◌, ◌∙◌, ℕ, ◌+◌, [], ◌∷◌, ◌++◌, length, ap, subst, sym}
use Rattle.csv.specs.Records.{fields_of}
use Rattle.lnt_older.specs.Directories.{IsBadRecord, directory_names}
use Rattle.lnt_older.proofs.DirectoryLemmas.{bad_record, none_yet, one_more, suc_is}
use Rattle.lnt_older.proofs.directories.read_directories.Goals as goal

pub returns-then-not-branch-clause-err : goal.returns-then-not-branch-clause-err
returns-then-not-branch-clause-err c = rw c.if-not-branch.true at c.in_ok-read_columns.ensures c.args.text.now c.reader_of-reader.ensures

pub loop-directories-init : goal.loop-directories-init
loop-directories-init c = (
  [],
  rw c.if-not-branch.false at c.in_ok-read_columns.ensures c.args.text.now c.reader_of-reader.ensures,
  rw c.new-directories.ensures.items (none_yet c.args.older.now),
)

pub loop-directories-preserved : goal.loop-directories-preserved
loop-directories-preserved c =
    let (records, read, so) = c.loop-directories.invariant in
    let next = rw c.if-branch.true at c.in_ok-read_next.ensures.read c.args.text.now (directory_names ∷ records) read in
    let added = rw c.if-not-branch-2.false at c.in_ok-add_directory.ensures in
    (records ++ fields_of c.read_next.new.row ∷ [], next, one_more c.args.older.now records (fields_of c.read_next.new.row) _ _ so added)

pub returns-then-not-branch-2-clause-err : goal.returns-then-not-branch-2-clause-err
returns-then-not-branch-2-clause-err c =
    let (records, read, so) = c.loop-directories.invariant in
    let next = rw c.if-branch.true at c.in_ok-read_next.ensures.read c.args.text.now (directory_names ∷ records) read in
    let bad = rw c.if-not-branch-2.true at c.in_ok-add_directory.ensures in
    let n : c.len.result ≡ length c.add_directory.new.directories.items = c.len.ensures ∙ c.add_directory.new.directories.ok.0 in
    let same : length c.loop-directories.directories.items ≡ c.len.result = sym (n ∙ ap length bad.0) in
    subst (λ (k : ℕ). IsBadRecord c.args.older.now c.args.text.now (k + 1)) same
    (subst (IsBadRecord c.args.older.now c.args.text.now) (suc_is (length c.loop-directories.directories.items))
    (bad_record c.args.older.now c.args.text.now records (fields_of c.read_next.new.row) c.loop-directories.directories.items
    c.read_next.new.reader so next bad.1))

pub returns-clause-ok : goal.returns-clause-ok
returns-clause-ok c =
    let (records, read, so) = c.loop-directories.invariant in
    let all = rw c.if-branch.false at c.in_ok-read_next.ensures.read c.args.text.now (directory_names ∷ records) read in
    record { records = records; all = all; so = so }
