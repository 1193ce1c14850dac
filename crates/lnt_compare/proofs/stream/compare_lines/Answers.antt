use Rattle.std.proofs.Common.{refl}
use Rattle.std.proofs.lemmas.Result.{IfOk-weaker}
use Rattle.lnt_spans.specs.Answers.{in_version}
use Rattle.lnt_spans.specs.Spans.{span_answer, span_in_version}
use Rattle.lnt_compare.specs.Comparisons.{in_versions, tables_by_number}
use Rattle.lnt_records.specs.Table.{by_number, column_names}
use Rattle.lnt_records.specs.Written.{plain_by_number}
use Rattle.lnt_compare.proofs.KindLaws.{number_told}
use Rattle.lnt_compare.proofs.StreamLaws.{rest_compared}
use Rattle.lnt_records.proofs.LineLaws.{header_begins}
use Rattle.lnt_records.proofs.NumberLaws.{numbered}
use Rattle.lnt_records.proofs.WriteLaws.{plain_numbers}
use Rattle.lnt_compare.proofs.stream.compare_lines.Goals as goal

pub compare_coming-requires-clause-first : goal.compare_coming-requires-clause-first
compare_coming-requires-clause-first g c rest = (
  column_names c.args.version,
  numbered.narrow c.args.version,
  header_begins by_number plain_by_number plain_numbers c.args.version rest,
)

pub returns-clause-ok : goal.returns-clause-ok
returns-clause-ok g c =
    let version = c.args.version in
    IfOk-weaker c.compare_coming.result _ _
    (λ outcome compared list come order. rest_compared _ _ tables_by_number plain_by_number plain_numbers numbered
    (in_version version) (span_in_version version) (number_told version) version _ list _ _ c.args.window (in_versions (span_answer list))
    c.args.scope outcome compared come order (λ p. refl)) c.compare_coming.ensures.ok
