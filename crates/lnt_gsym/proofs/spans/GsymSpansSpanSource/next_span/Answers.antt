use Rattle.lnt_gsym.proofs.SourceLemmas.{all_given, one_moved}
use Rattle.lnt_gsym.proofs.spans.GsymSpansSpanSource.next_span.Goals as goal

pub loop-span-preserved : goal.loop-span-preserved
loop-span-preserved c = one_moved c.args.self.now c.loop-span.self c.open_next.new.functions c.open_next.new.above
    c.in-Some-open_next.opened.covered c.in-Some-open_next.opened.part c.loop-span.invariant c.in-None.ensures.gives
    c.in-Some-open_next.ensures.opens c.in-Some-open_next.ensures.fewer c.in-Some-open_next.ensures.bound

pub returns-in-None-open_next-clause-gives : goal.returns-in-None-open_next-clause-gives
returns-in-None-open_next-clause-gives c = all_given c.args.self.now c.loop-span.self _ c.loop-span.invariant c.in-None.ensures.gives
    c.in-None-open_next.ensures.opens
