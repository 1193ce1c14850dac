use Rattle.std.proofs.Common.{[], ◌∷◌, refl}
use Rattle.std.proofs.lemmas.Result.{IfOk-weaker}
use Rattle.lnt_spans.specs.Answers.{in_version}
use Rattle.lnt_spans.specs.Spans.{span_answer, span_in_version}
use Rattle.lnt_records.specs.Table.{column_names}
use Rattle.lnt_records.proofs.NumberLaws.{numbered}
use Rattle.lnt_compare.specs.Comparisons.{in_versions, tables_by_number}
use Rattle.lnt_compare.proofs.ComparisonLemmas.{judges_none, outcome_told}
use Rattle.lnt_compare.proofs.KindLaws.{number_told}
use Rattle.lnt_compare.proofs.comparison.compare_records.Goals as goal

pub compare_after-requires-clause-first : goal.compare_after-requires-clause-first
compare_after-requires-clause-first g c =
    (column_names c.in-Some.version, numbered.narrow c.in-Some.version, rw c.in-Some.is at c.in_ok-version.ensures)

pub returns-in_default : goal.returns-in_default
returns-in_default g c list coming order = rw c.in_default.is at c.in_ok-version.ensures

pub returns : goal.returns
returns g c =
    let version = c.in-Some.version in
    let names = column_names version in
    IfOk-weaker c.compare_after.result _ _
    (λ outcome h list coming order.
    outcome_told _ g.S.SpanSource.to_come tables_by_number (in_version version) version list (names ∷ []) c.args.table.now
    (in_versions (span_answer list)) c.args.scope outcome (λ p. refl)
    (h names list (names ∷ []) c.args.table.now (numbered.narrow version) (rw c.in-Some.is at c.in_ok-version.ensures)
    (λ more after rest r. r)
    (judges_none g.S.SpanSource.to_come tables_by_number (in_version version) (span_in_version version) (number_told version) version
    c.args.spans c.past-comparison.result list c.past-comparison.ensures.past coming order) refl))
    c.compare_after.ensures
