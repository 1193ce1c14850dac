use Rattle.std.proofs.Common.{map}
use Rattle.csv.specs.Records.{fields_of}
use Rattle.lnt_records.specs.PathTables.{record_span}
use Rattle.lnt_records.proofs.PathLaws.{says_span}
use Rattle.lnt_compare.specs.Held.{held_span}
use Rattle.lnt_compare.specs.Outcomes.{tables_by_path}
use Rattle.lnt_compare.proofs.ComparisonLemmas.{order_refused}
use Rattle.lnt_compare.proofs.HeldLemmas.{record_held}
use Rattle.lnt_compare.proofs.KindLaws.{path_laws}
use Rattle.lnt_compare.proofs.path_tables.held.HolderTakesRecordsVecHeldSpan.take.Goals as goal

pub returns-then-not-comes-clause-taken : goal.returns-then-not-comes-clause-taken
returns-then-not-comes-clause-taken c section records table =
    let version = c.args.self.now.version in
    let items = c.args.spans.now.items in
    let said = c.in_ok-said.said in
    let fields = fields_of c.args.row.now in
    order_refused tables_by_path path_laws version c.end_of.result (map held_span items) records fields (record_span said)
    table (rw c.deref.ensures.value at c.end_of.ensures) (says_span version fields said c.in_ok-said.ensures.ok)
    (rw (c.whole.ensures, c.whole-2.ensures) at c.if-not-comes.ensures)

pub returns-clause-taken : goal.returns-clause-taken
returns-clause-taken c section records table =
    let end = rw c.deref.ensures.value at c.end_of.ensures in
    record_held c.args.self.now.version records (fields_of c.args.row.now) c.args.spans.now.items c.push.new.self.items c.in_ok-said.said
    c.in_ok-answer.answer table c.in_ok-said.ensures.ok (rw (end, c.whole.ensures, c.whole-2.ensures) at c.if-not-comes.ensures)
    c.in_ok-answer.ensures c.in_ok-push.ensures.items
