use Rattle.lnt_spans.specs.Answers.{in_version}
use Rattle.lnt_compare.specs.Comparisons.{tables_by_number}
use Rattle.lnt_records.proofs.LineLaws.{line_some}
use Rattle.lnt_compare.proofs.ComparisonLemmas.{record_taken}
use Rattle.lnt_compare.proofs.KindLaws.{number_laws}
use Rattle.lnt_compare.proofs.comparison.VersionTakesLinesComparisonDifferenceUnit.take_line.Goals as goal

pub returns-in-Ok-true-clause-taken : goal.returns-in-Ok-true-clause-taken
returns-in-Ok-true-clause-taken g c =
    let version = c.args.self.now in
    let line = c.in-Some.ensures in (
      c.in-Some.span,
      record { fields = line.fields; joined = line.joined; some = line_some line.fields; says = line.says },
      λ section records j. record_taken g.S.SpanSource.to_come tables_by_number number_laws (in_version version) version
          c.args.comparison.now c.push.new.self section records line.fields c.in-Some.span j line.says
          (rw c.in-Ok-true.field-0-test at c.in-Ok-true.ensures.pushed),
    )
