use Rattle.lnt_spans.proofs.DerivedOrder.{at_most_from_not_lt, below_from_lt}
use Rattle.lnt_spans.proofs.MergedLemmas.{counted_gap, counted_part, counted_span}
use Rattle.lnt_spans.proofs.PositionLaws.{at_most_trans}
use Rattle.lnt_spans.proofs.merge.pass_below.Goals as goal

pub loop-span-init : goal.loop-span-init
loop-span-init g c tell list by_table at le nothing counted = (at, le, nothing, counted)

pub returns-then-lt : goal.returns-then-lt
returns-then-lt g c tell list by_table at le nothing counted =
    let now = c.loop-span.invariant tell list by_table at le nothing counted in
    counted_part g.S.SpanSource.to_come tell list by_table c.loop-span.spans now.0 c.args.end c.loop-span.missed c.add_between.new.count
    c.in-Some.span c.in-Some.ensures.0 c.in-Some.ensures.1 (below_from_lt c.if-lt.ensures) now.2 c.add_between.ensures now.3

pub loop-span-preserved : goal.loop-span-preserved
loop-span-preserved g c tell list by_table at le nothing counted =
    let now = c.loop-span.invariant tell list by_table at le nothing counted in
    let next = counted_span g.S.SpanSource.to_come tell list by_table c.loop-span.spans c.pass.new.self now.0 c.args.end c.loop-span.missed
    c.add_between-in-Some.new.count c.in-Some.span c.in-Some.ensures.0
    (at_most_from_not_lt c.if-lt.ensures) c.pass.ensures.passed now.2 c.add_between-in-Some.ensures now.3 in
    (c.in-Some.span.high, at_most_from_not_lt c.if-lt.ensures, λ p h k. now.2 p (at_most_trans next.0 h) k, next.1)

pub returns : goal.returns
returns g c tell list by_table at le nothing counted =
    let now = c.loop-span.invariant tell list by_table at le nothing counted in
    counted_gap g.S.SpanSource.to_come tell list by_table c.loop-span.spans now.0 c.args.end c.loop-span.missed c.in_default.ensures now.1
    now.2 now.3
