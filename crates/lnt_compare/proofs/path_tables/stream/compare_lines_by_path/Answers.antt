use Rattle.std.proofs.Common.{◌++◌, ℕ, List, IfSome, refl, subst, sym}
use Rattle.std.proofs.lemmas.Result.{IfOk-weaker}
use Rattle.lnt_spans.specs.declared.answer.Answer.{Answer}
use Rattle.lnt_compare.specs.Joining.{tell_span}
use Rattle.lnt_compare.specs.Outcomes.{IsPathOutcome, tables_by_path}
use Rattle.lnt_records.specs.declared.path_records.version.PathVersion.{PathVersion}
use Rattle.lnt_records.specs.PathLines.{plain_by_path}
use Rattle.lnt_records.specs.PathSpans.{PathAnswer, path_answer, spans_by_path}
use Rattle.lnt_records.specs.PathTables.{by_path, path_column_names}
use Rattle.lnt_compare.proofs.KindLaws.{path_told}
use Rattle.lnt_compare.proofs.StreamLaws.{rest_compared}
use Rattle.lnt_records.proofs.LineLaws.{header_begins}
use Rattle.lnt_records.proofs.PathLaws.{pathed}
use Rattle.lnt_records.proofs.PathLineLaws.{header_text, plain_paths}
use Rattle.lnt_compare.proofs.path_tables.stream.compare_lines_by_path.Goals as goal

pub compare_coming-requires-clause-first : goal.compare_coming-requires-clause-first
compare_coming-requires-clause-first g c rest = (
  path_column_names c.args.version,
  pathed.narrow c.args.version,
  header_begins by_path plain_by_path plain_paths c.args.version rest,
)

pub returns-clause-ok : goal.returns-clause-ok
returns-clause-ok g c =
    let version = c.args.version in
    let path = g.P.Paths.bytes_of c.args.paths.now in
    let tell : Answer → PathAnswer = path_answer version path in
    IfOk-weaker c.compare_coming.result _ _
    (λ outcome compared list come order.
    let answers = λ (version : PathVersion). spans_by_path version path list in
    subst (λ (line : List ℕ). IfSome (g.T.Source.remaining c.args.table.now) (λ more.
    IsPathOutcome c.args.scope (line ++ (c.args.window ++ more)) answers outcome)) (sym (header_text version))
    (rest_compared _ _ tables_by_path plain_by_path plain_paths pathed tell (tell_span tell) (path_told tell) version _ list _ _
    c.args.window answers c.args.scope outcome compared come order (λ p. refl))) c.compare_coming.ensures.ok
