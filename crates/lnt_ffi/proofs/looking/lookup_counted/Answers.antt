use Rattle.std.proofs.Common.{arith}
use Rattle.lnt_spans.proofs.BisectionLaws.{bounded_half, bounded_next}
use Rattle.lnt_ffi.proofs.LookLemmas.{flat_below, flat_above, flat_inside, flat_nowhere}
use Rattle.lnt_ffi.proofs.looking.lookup_counted.Goals as goal

pub probe-requires : goal.probe-requires
probe-requires c = bounded_next _ _ _ _ c.loop-low.invariant.size c.requires (omega arith) c.loop-low.invariant.bounded

pub loop-low-preserved-in-Below : goal.loop-low-preserved-in-Below
loop-low-preserved-in-Below c = record {
  within = let w = c.loop-low.invariant.within in omega arith;
  bounded = rw c.in-Below.ensures.counted (bounded_half _ _ _ _ _ (omega arith) (omega arith) c.loop-low.invariant.bounded);
  size = c.loop-low.invariant.size;
  bracket = λ o. let w = c.loop-low.invariant.within in
      flat_below c.args.spans.now _ c.loop-low.low c.loop-low.high _ o (c.loop-low.invariant.bracket o) (omega arith) (omega arith) w _
      (rw c.low_end.ensures at c.in-Below.ensures.side);
}

pub returns-in-Inside-clause-answer : goal.returns-in-Inside-clause-answer
returns-in-Inside-clause-answer c = λ o.
    let w = c.loop-low.invariant.within in
    flat_inside c.args.spans.now _ _ _ o (omega arith)
    (rw c.low_end.ensures at c.in-Inside.ensures.side.0, rw c.high_end.ensures at c.in-Inside.ensures.side.1)

pub loop-low-preserved : goal.loop-low-preserved
loop-low-preserved c = record {
  within = c.loop-low.invariant.within;
  bounded = rw c.in-Above.ensures.counted (bounded_half _ _ _ _ _ (omega arith) (omega arith) c.loop-low.invariant.bounded);
  size = c.loop-low.invariant.size;
  bracket = λ o. let w = c.loop-low.invariant.within in
      flat_above c.args.spans.now _ c.loop-low.low c.loop-low.high _ o (c.loop-low.invariant.bracket o) (omega arith) (omega arith) w _
      (rw c.high_end.ensures at c.in-Above.ensures.side);
}

pub returns-clause-answer : goal.returns-clause-answer
returns-clause-answer c =
    λ o. flat_nowhere c.args.spans.now _ c.loop-low.low c.loop-low.high (c.loop-low.invariant.bracket o) (omega arith)
