use Rattle.std.proofs.Common.{arith, subst}
use Rattle.lnt_spans.specs.declared.position.Position.{Position}
use Rattle.lnt_spans.proofs.DerivedOrder.{at_most_from_ge, below_from_not_ge}
use Rattle.lnt_spans.proofs.PositionLaws.{at_most_itself, at_most_trans, below_is_at_most, not_both, same_position}
use Rattle.lnt_table.specs.Said.{StillSay}
use Rattle.lnt_table.proofs.SaidLemmas.{none_said, said_on, still_itself, still_then}
use Rattle.lnt_table.proofs.said.first_unsaid.Goals as goal

pub loop-to-init : goal.loop-to-init
loop-to-init g c = record {
  past = at_most_itself c.args.low;
  below = c.requires;
  still = still_itself g.S.SpanSource.to_come _ _ c.args.sequences.now c.args.low c.args.high;
  said = λ p le lt. absurd (not_both lt le);
}

pub said_by_turns-requires : goal.said_by_turns-requires
said_by_turns-requires g c = c.loop-to.invariant.below

pub returns-then-ge-clause-past : goal.returns-then-ge-clause-past
returns-then-ge-clause-past g c = at_most_trans c.loop-to.invariant.past c.in_ok-to.ensures.past

pub returns-then-ge-clause-kept : goal.returns-then-ge-clause-kept
returns-then-ge-clause-kept g c =
    still_then g.S.SpanSource.to_come _ _ _ _ _ _ _ _ c.args.high c.loop-to.invariant.still c.in_ok-to.ensures.kept

pub returns-then-ge-clause-said : goal.returns-then-ge-clause-said
returns-then-ge-clause-said g c =
    let inv = c.loop-to.invariant in
    said_on g.S.SpanSource.to_come _ _ _ _ _ _ c.args.high inv.still c.in_ok-to.to inv.said c.in_ok-to.ensures.said

pub returns-then-ge-clause-unsaid : goal.returns-then-ge-clause-unsaid
returns-then-ge-clause-unsaid g c below = absurd (not_both below (at_most_from_ge c.if-ge.ensures))

pub returns-then-ge-2-clause-upto : goal.returns-then-ge-2-clause-upto
returns-then-ge-2-clause-upto g c = below_is_at_most c.loop-to.invariant.below

pub returns-then-ge-2-clause-kept : goal.returns-then-ge-2-clause-kept
returns-then-ge-2-clause-kept g c =
    subst (λ (q : Position). StillSay g.S.SpanSource.to_come (g.A.TableAnswer.tell c.args.answer.now)
    (g.A.TableAnswer.said c.args.answer.now) c.args.sequences.now c.said_by_turns.new.sequences c.args.low q c.args.high)
    (same_position c.in_ok-to.to c.loop-to.at c.in_ok-to.ensures.past (at_most_from_ge c.if-ge-2.ensures))
    (still_then g.S.SpanSource.to_come _ _ _ _ _ _ _ _ c.args.high c.loop-to.invariant.still c.in_ok-to.ensures.kept)

pub returns-then-ge-2-clause-unsaid : goal.returns-then-ge-2-clause-unsaid
returns-then-ge-2-clause-unsaid g c below =
    none_said g.S.SpanSource.to_come _ _ _ _ _ _ c.args.high c.loop-to.invariant.still
    (c.in_ok-to.ensures.unsaid (at_most_from_ge c.if-ge-2.ensures))

pub loop-to-preserved : goal.loop-to-preserved
loop-to-preserved g c =
    let inv = c.loop-to.invariant in
    let turn = c.in_ok-to.ensures in
    record {
      past = at_most_trans inv.past turn.past;
      below = below_from_not_ge c.if-ge.ensures;
      still = still_then g.S.SpanSource.to_come _ _ _ _ _ _ _ _ c.args.high inv.still turn.kept;
      said = said_on g.S.SpanSource.to_come _ _ _ _ _ _ c.args.high inv.still c.in_ok-to.to inv.said turn.said;
    }

pub loop-to-smaller : goal.loop-to-smaller
loop-to-smaller g c =
    let fewer = c.in_ok-to.ensures.fewer (below_from_not_ge c.if-ge-2.ensures) (below_from_not_ge c.if-ge.ensures) in
    omega (arith, fewer)
