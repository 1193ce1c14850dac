use Rattle.csv.specs.Records.{fields_of}
use Rattle.lnt_spans.specs.Answers.{in_version}
use Rattle.lnt_spans.specs.Merged.{end_of_records}
use Rattle.lnt_compare.specs.Comparisons.{tables_by_number}
use Rattle.lnt_compare.proofs.ComparisonLemmas.{order_refused, record_taken}
use Rattle.lnt_compare.proofs.KindLaws.{number_laws}
use Rattle.lnt_compare.proofs.comparison.VersionTakesRecordsComparisonDifferenceUnit.take.Goals as goal

pub returns-in-Ok-true-clause-taken : goal.returns-in-Ok-true-clause-taken
returns-in-Ok-true-clause-taken g c section records j =
    let version = c.args.self.now in
    record_taken g.S.SpanSource.to_come tables_by_number number_laws (in_version version) version c.args.comparison.now c.push.new.self
    section records (fields_of c.args.row.now) c.in_ok-span.span j c.in_ok-span.ensures.ok
    (rw c.in-Ok-true.field-0-test at c.in-Ok-true.ensures.pushed)

pub returns-in-Ok-false-clause-taken : goal.returns-in-Ok-false-clause-taken
returns-in-Ok-false-clause-taken g c section records j =
    let known = rw c.in-Ok-false.field-0-test at c.in-Ok-false.ensures.pushed in
    order_refused tables_by_number number_laws c.args.self.now (end_of_records c.args.comparison.now.merge) j.table records
    (fields_of c.args.row.now) c.in_ok-span.span j.is_table j.at c.in_ok-span.ensures.ok known.1
