use Rattle.lnt_spans.proofs.CountLemmas.{counts_end, counts_on}
use Rattle.lnt_spans.proofs.counts.count_rest.Goals as goal

pub loop-span-init : goal.loop-span-init
loop-span-init g c total list counts = (list, counts)

pub loop-span-preserved : goal.loop-span-preserved
loop-span-preserved g c total list counts =
    counts_on _ g.S.SpanSource.to_come total c.loop-span.spans c.next_span.new.self c.loop-span.count c.add_between.new.count c.in-Some.span
    (c.loop-span.invariant total list counts) c.in-Some.ensures.gives c.add_between.ensures

pub returns : goal.returns
returns g c total list counts =
    let left = c.loop-span.invariant total list counts in
    (counts_end _ g.S.SpanSource.to_come total c.loop-span.spans c.next_span.new.self c.loop-span.count left.0 left.1
    c.in_default.ensures.gives).1
