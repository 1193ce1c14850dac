use Rattle.std.proofs.Common.{[], ◌∷◌, refl}
use Rattle.std.proofs.lemmas.Result.{IfOk-weaker}
use Rattle.lnt_records.specs.PathSpans.{path_answer, spans_by_path}
use Rattle.lnt_records.specs.PathTables.{path_column_names}
use Rattle.lnt_records.proofs.PathLaws.{pathed}
use Rattle.lnt_compare.specs.Joining.{tell_span}
use Rattle.lnt_compare.specs.Outcomes.{tables_by_path}
use Rattle.lnt_compare.proofs.ComparisonLemmas.{judges_none, outcome_told}
use Rattle.lnt_compare.proofs.KindLaws.{path_told}
use Rattle.lnt_compare.proofs.path_tables.comparison.compare_by_path.Goals as goal

pub compare_after-requires-clause-first : goal.compare_after-requires-clause-first
compare_after-requires-clause-first g c =
    (path_column_names c.in-Some.version, pathed.narrow c.in-Some.version, rw c.in-Some.is at c.in_ok-version.ensures)

pub compare_after-requires-clause-right : goal.compare_after-requires-clause-right
compare_after-requires-clause-right g c =
    rw c.past-comparison.ensures.memory (c.in_ok-memory.ensures (g.P.Paths.bytes_of c.args.paths.now))

pub returns-in_default : goal.returns-in_default
returns-in_default g c list come order = rw c.in_default.is at c.in_ok-version.ensures

pub returns : goal.returns
returns g c =
    let version = c.in-Some.version in
    let names = path_column_names version in
    let path = g.P.Paths.bytes_of c.args.paths.now in
    let tell = path_answer version path in
    IfOk-weaker c.compare_after.result _ _
    (λ outcome h list come order.
    outcome_told _ g.S.SpanSource.to_come tables_by_path tell version list (names ∷ []) c.args.table.now
    (λ version. spans_by_path version path list) c.args.scope outcome (λ p. refl)
    (h names list (names ∷ []) c.args.table.now (pathed.narrow version) (rw c.in-Some.is at c.in_ok-version.ensures)
    (λ more after rest r. r)
    (judges_none g.S.SpanSource.to_come tables_by_path tell (tell_span tell) (path_told tell) version c.args.spans
    c.past-comparison.result list (rw c.whole.ensures at c.past-comparison.ensures.past) come order) refl))
    c.compare_after.ensures
