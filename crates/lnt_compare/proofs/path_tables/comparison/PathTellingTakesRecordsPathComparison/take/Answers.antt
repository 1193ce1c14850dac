use Rattle.csv.specs.Records.{fields_of}
use Rattle.lnt_spans.specs.Merged.{end_of_records}
use Rattle.lnt_records.specs.PathSpans.{path_answer}
use Rattle.lnt_records.specs.PathTables.{record_span}
use Rattle.lnt_records.proofs.PathLaws.{says_span}
use Rattle.lnt_compare.specs.Outcomes.{tables_by_path}
use Rattle.lnt_compare.proofs.ComparisonLemmas.{order_refused, record_taken}
use Rattle.lnt_compare.proofs.KindLaws.{path_laws}
use Rattle.lnt_compare.proofs.path_tables.comparison.PathTellingTakesRecordsPathComparison.take.Goals as goal

pub returns-then-not-branch-clause-taken : goal.returns-then-not-branch-clause-taken
returns-then-not-branch-clause-taken g c section records j =
    let said = c.in_ok-said.said in
    let fields = fields_of c.args.row.now in
    let known = rw c.if-not-branch.true at c.in_ok-push.ensures.pushed in
    order_refused tables_by_path path_laws c.args.self.now.version (end_of_records c.args.comparison.now.merge) j.table records fields
    (record_span said) j.is_table j.at (says_span c.args.self.now.version fields said c.in_ok-said.ensures.ok) known.1

pub returns-clause-taken : goal.returns-clause-taken
returns-clause-taken g c section records j =
    let version = c.args.self.now.version in
    let said = c.in_ok-said.said in
    let fields = fields_of c.args.row.now in
    let known = rw c.if-not-branch.false at c.in_ok-push.ensures.pushed in
    record_taken g.S.SpanSource.to_come tables_by_path path_laws
    (path_answer version (g.P.Paths.bytes_of c.args.self.now.paths.now)) version c.args.comparison.now c.push.new.comparison section
    records fields (record_span said) j (says_span version fields said c.in_ok-said.ensures.ok) known
