use Rattle.lnt_spans.proofs.DerivedOrder.{at_most_from_not_lt, below_from_lt}
use Rattle.lnt_spans.proofs.SideLemmas.{gap_run, none_run, span_run}
use Rattle.lnt_spans.proofs.runs.AheadRunsAnswer.run_at.Goals as goal

pub returns-in_default-clause-run : goal.returns-in_default-clause-run
returns-in_default-clause-run g c values h = none_run g.S.SpanSource.to_come c.args.self.now c.args.at values h c.in_default.is

pub returns-then-lt-clause-run : goal.returns-then-lt-clause-run
returns-then-lt-clause-run g c values h =
    gap_run g.S.SpanSource.to_come c.args.self.now c.args.at values h c.in-Some.span c.in-Some.is (below_from_lt c.if-lt.ensures)

pub returns-clause-run : goal.returns-clause-run
returns-clause-run g c values h =
    span_run g.S.SpanSource.to_come c.args.self.now c.args.at values h c.in-Some.span c.in-Some.is (at_most_from_not_lt c.if-lt.ensures)
