use Rattle.std.proofs.Common.{arith, refl, subst, Some}
use Rattle.lnt_spans.specs.declared.position.Position.{Position}
use Rattle.lnt_spans.specs.Positions.{IsAtMost, IsBelow}
use Rattle.lnt_spans.proofs.DerivedOrder.{at_most_from_not_lt, below_from_lt}
use Rattle.lnt_sequences.specs.Sequences.{position_of}
use Rattle.lnt_sequences.proofs.SpanningLemmas.{spans_end, spans_here, spans_pass}
use Rattle.lnt_sequences.proofs.spanning.span_after.Goals as goal

pub returns-then-not-next_into-clause-gives : goal.returns-then-not-next_into-clause-gives
returns-then-not-next_into-clause-gives c spans has =
    spans_end c.args.unit spans c.loop-low.rows c.next_into.new.self (Some c.loop-low.row) (Some c.next_into.new.row)
    (c.loop-low.invariant.1 spans has) c.if-not-next_into.ensures.gives

pub returns-then-lt-clause-gives : goal.returns-then-lt-clause-gives
returns-then-lt-clause-gives c spans has = rw (c.position_of-low.ensures, c.position_of-high.ensures, c.answer_of-answer.ensures)
    (spans_here c.args.unit spans c.loop-low.rows c.next_into.new.self (Some c.loop-low.row) c.loop-low.row c.next_into.new.row
    (c.loop-low.invariant.1 spans has) c.if-not-next_into.ensures.gives refl
    (subst (λ (p : Position). IsBelow p (position_of c.next_into.new.row)) c.position_of-low.ensures
    (subst (λ (q : Position). IsBelow c.position_of-low.result q) c.position_of-high.ensures (below_from_lt c.if-lt.ensures))))

pub loop-low-preserved : goal.loop-low-preserved
loop-low-preserved c = (
  let less = c.if-not-next_into.ensures.fewer refl in omega (arith, less, c.loop-low.invariant.0),
  λ spans has. spans_pass c.args.unit spans c.loop-low.rows c.next_into.new.self (Some c.loop-low.row) c.loop-low.row c.next_into.new.row
      (c.loop-low.invariant.1 spans has) c.if-not-next_into.ensures.gives refl
      (subst (λ (p : Position). IsAtMost (position_of c.next_into.new.row) p) c.position_of-low.ensures
      (subst (λ (q : Position). IsAtMost q c.position_of-low.result) c.position_of-high.ensures (at_most_from_not_lt c.if-lt.ensures))),
)
