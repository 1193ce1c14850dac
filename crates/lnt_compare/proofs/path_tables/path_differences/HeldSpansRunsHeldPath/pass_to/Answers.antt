use Rattle.lnt_spans.proofs.DerivedOrder.{at_most_from_ge, below_from_not_ge}
use Rattle.lnt_compare.proofs.TableRunLemmas.{kept_at, nothing_at, rest_at}
use Rattle.lnt_compare.proofs.path_tables.path_differences.HeldSpansRunsHeldPath.pass_to.Goals as goal

pub returns-in_default-clause-at : goal.returns-in_default-clause-at
returns-in_default-clause-at c at values t le up =
    nothing_at c.args.self.now.spans.now at values t c.args.to c.in_default.ensures.cases le

pub returns-then-ge-clause-at : goal.returns-then-ge-clause-at
returns-then-ge-clause-at c at values t le up =
    rest_at c.args.self.now.spans.now at values t c.in-Some.span.now c.in-Some.rest.now c.whole.result c.args.to c.in-Some.ensures.cases.0
    c.whole.ensures (at_most_from_ge c.if-ge.ensures) le up

pub returns-else-ge-clause-at : goal.returns-else-ge-clause-at
returns-else-ge-clause-at c at values t le up =
    kept_at c.args.self.now.spans.now at values t c.in-Some.span.now c.in-Some.rest.now c.whole.result c.args.to c.in-Some.ensures.cases.0
    c.whole.ensures (below_from_not_ge c.if-ge.ensures) le
