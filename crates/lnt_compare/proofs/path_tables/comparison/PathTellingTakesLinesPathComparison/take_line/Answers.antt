use Rattle.lnt_records.specs.PathSpans.{path_answer}
use Rattle.lnt_compare.proofs.LineLemmas.{path_taken}
use Rattle.lnt_compare.proofs.path_tables.comparison.PathTellingTakesLinesPathComparison.take_line.Goals as goal

pub returns-in_ok-extend_from_slice-clause-taken : goal.returns-in_ok-extend_from_slice-clause-taken
returns-in_ok-extend_from_slice-clause-taken g c =
    path_taken g.S.SpanSource.to_come (path_answer c.args.self.now.version (g.P.Paths.bytes_of c.args.self.now.paths.now))
    c.args.self.now.version _ _ c.in-Some.said _ _ c.in-Some.ensures.line (rw c.if-not-branch.false at c.in_ok-push.ensures.pushed)

pub returns-else-ne-clause-taken : goal.returns-else-ne-clause-taken
returns-else-ne-clause-taken g c =
    path_taken g.S.SpanSource.to_come (path_answer c.args.self.now.version (g.P.Paths.bytes_of c.args.self.now.paths.now))
    c.args.self.now.version _ _ c.in-Some.said _ _ c.in-Some.ensures.line (rw c.if-not-branch.false at c.in_ok-push.ensures.pushed)
