use Rattle.lnt_spans.proofs.DerivedOrder.{at_most_from_not_lt, below_from_lt}
use Rattle.lnt_compare.proofs.TableRunLemmas.{gap_run, held_run, nothing_run}
use Rattle.lnt_compare.proofs.path_tables.path_differences.HeldSpansRunsHeldPath.run_at.Goals as goal

pub returns-in_default-clause-run : goal.returns-in_default-clause-run
returns-in_default-clause-run c values t = nothing_run c.args.self.now.spans.now c.args.at values t c.in_default.ensures.cases

pub returns-then-lt-clause-run : goal.returns-then-lt-clause-run
returns-then-lt-clause-run c values t =
    gap_run c.args.self.now.spans.now c.args.at values t c.in-Some.span.now c.in-Some.field-0-1.now c.whole-low.result
    c.in-Some.ensures.cases.0 c.whole-low.ensures (below_from_lt c.if-lt.ensures)

pub returns-clause-run : goal.returns-clause-run
returns-clause-run c values t =
    held_run c.args.self.now.spans.now c.args.at values t c.in-Some.span.now c.in-Some.field-0-1.now c.whole-low.result c.whole.result _
    c.in-Some.ensures.cases.0 c.whole-low.ensures c.whole.ensures c.said_in.ensures (at_most_from_not_lt c.if-lt.ensures)
