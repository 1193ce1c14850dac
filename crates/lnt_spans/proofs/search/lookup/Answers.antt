use Rattle.std.proofs.Common.{arith}
use Rattle.lnt_spans.proofs.BisectionLaws.{bounded_half, bounded_next}
use Rattle.lnt_spans.proofs.BracketLaws.{bracket_above, bracket_below, found_inside, found_nowhere}
use Rattle.lnt_spans.proofs.search.lookup.Goals as goal

pub probe-requires : goal.probe-requires
probe-requires c =
    bounded_next _ _ _ _ c.loop-low.invariant.size c.requires.count (omega arith) c.loop-low.invariant.bounded

pub loop-low-preserved-in-Below : goal.loop-low-preserved-in-Below
loop-low-preserved-in-Below c = record {
  bracket = bracket_below _ _ _ _ _ c.requires.order c.loop-low.invariant.bracket (omega arith) (omega arith) _ c.in-Below.ensures.side;
  bounded = rw c.in-Below.ensures.counted (bounded_half _ _ _ _ _ (omega arith) (omega arith) c.loop-low.invariant.bounded);
  size = c.loop-low.invariant.size;
}

pub returns-in-Inside-clause-answer : goal.returns-in-Inside-clause-answer
returns-in-Inside-clause-answer c =
    let within = c.loop-low.invariant.bracket.within in
    found_inside _ _ _ _ c.requires.order (omega arith) c.in-Inside.ensures.side

pub loop-low-preserved : goal.loop-low-preserved
loop-low-preserved c = record {
  bracket = bracket_above _ _ _ _ _ c.requires.order c.loop-low.invariant.bracket (omega arith) (omega arith) _ c.in-Above.ensures.side;
  bounded = rw c.in-Above.ensures.counted (bounded_half _ _ _ _ _ (omega arith) (omega arith) c.loop-low.invariant.bounded);
  size = c.loop-low.invariant.size;
}

pub returns-clause-answer : goal.returns-clause-answer
returns-clause-answer c = found_nowhere _ _ _ _ c.loop-low.invariant.bracket (omega arith)
