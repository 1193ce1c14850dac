use Rattle.std.proofs.Common.{arith, rules}
use Rattle.lnt_spans.proofs.BisectionLaws.{bounded_half, bounded_next}
use Rattle.lnt_sequences.proofs.HolderLemmas.{bracket_above, bracket_below, found_inside, found_nowhere}
use Rattle.lnt_sequences.proofs.held.holder.Goals as goal

pub probe-requires : goal.probe-requires
probe-requires c = bounded_next _ _ _ _ c.loop-low.invariant.size c.requires.count (omega arith) c.loop-low.invariant.bounded

pub loop-low-preserved-in-Below : goal.loop-low-preserved-in-Below
loop-low-preserved-in-Below c = record {
  bracket = bracket_below _ _ _ _ _ c.requires.settled c.loop-low.invariant.bracket (omega arith) (omega arith) _ c.in-Below.ensures.side;
  bounded = rw c.in-Below.ensures.counted (bounded_half _ _ _ _ _ (omega arith) (omega arith) c.loop-low.invariant.bounded);
  size = c.loop-low.invariant.size;
}

pub returns-in-Inside-clause-found : goal.returns-in-Inside-clause-found
returns-in-Inside-clause-found c =
    let within = c.loop-low.invariant.bracket.within in
    found_inside _ _ _ _ (omega arith) c.in-Inside.ensures.side.0 c.in-Inside.ensures.side.1

pub loop-low-preserved : goal.loop-low-preserved
loop-low-preserved c = record {
  bracket = bracket_above _ _ _ _ _ c.requires.settled c.loop-low.invariant.bracket (omega arith) (omega arith) _ c.in-Above.ensures.side;
  bounded = rw c.in-Above.ensures.counted (bounded_half _ _ _ _ _ (omega arith) (omega arith) c.loop-low.invariant.bounded);
  size = c.loop-low.invariant.size;
}

pub returns-clause-found : goal.returns-clause-found
returns-clause-found c = found_nowhere _ _ _ _ c.loop-low.invariant.bracket (omega arith)

pub loop-low-init : goal.loop-low-init
loop-low-init c = search rules
