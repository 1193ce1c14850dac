use Rattle.std.proofs.Common.{◌∙◌, Some, ap, arith, length, subst, sym}
use Rattle.lnt_spans.specs.declared.position.Position.{Position}
use Rattle.lnt_spans.specs.Positions.{IsAtMost}
use Rattle.lnt_spans.proofs.DerivedOrder.{at_most_from_ge, at_most_from_not_lt, below_from_lt, below_from_not_ge}
use Rattle.lnt_spans.proofs.PositionLaws.{at_most_itself, at_most_trans, below_at_most, below_is_at_most, not_both, same_position}
use Rattle.lnt_table.specs.Asked.{AreReady}
use Rattle.lnt_table.proofs.CopiesLemmas.{ready_again, so_on}
use Rattle.lnt_table.proofs.copies.Copies.first_turn.Goals as goal

pub loop-to-init : goal.loop-to-init
loop-to-init g c = record {
  copies = c.go_to.ensures.copies;
  held = c.in_ok-go_to.ensures.held;
  index = c.go_to.ensures.index;
  at = c.go_to.ensures.at;
  ahead = c.go_to.ensures.ahead;
  past = at_most_itself c.args.low;
  below = c.requires.some;
  so = λ selection is live ready. (
    λ p le lt. absurd (not_both lt le),
    ready_again (g.A.TableAnswer.tell c.args.answer.now) (g.A.TableAnswer.said c.args.answer.now) selection c.args.self.now c.go_to.new.self
        c.args.low c.args.high (below_is_at_most c.requires.some) c.go_to.ensures.index c.go_to.ensures.extents c.in_ok-go_to.ensures.ready
        is ready,
  );
}

pub turn_in_group-requires : goal.turn_in_group-requires
turn_in_group-requires g c =
    let inv = c.loop-to.invariant in
    record {
      copies = inv.copies;
      held = inv.held;
      at = inv.at;
      some = c.end-end.ensures.after c.loop-to.at inv.below inv.ahead;
      end = c.end-end.ensures.later;
    }

pub loop-to-preserved : goal.loop-to-preserved
loop-to-preserved g c =
    let inv = c.loop-to.invariant in
    let on = c.go_to-in-loop-to.ensures in
    let tell = g.A.TableAnswer.tell c.args.answer.now in
    let told = g.A.TableAnswer.said c.args.answer.now in
    let upto = at_most_from_not_lt c.if-lt.ensures in
    let below = below_from_not_ge c.if-ge.ensures in
    record {
      copies = on.copies;
      held = c.in_ok-go_to-2.ensures.held;
      index = on.index ∙ c.turn_in_group.ensures.index ∙ inv.index;
      at = on.at;
      ahead = on.ahead;
      past = at_most_trans inv.past (below_is_at_most (c.end-end.ensures.after c.loop-to.at inv.below inv.ahead));
      below = below;
      so = λ selection is live ready.
          (let so = inv.so selection is live ready in
          let turn = (rw inv.index at c.in_ok-to.ensures.turn) selection is live c.args.high c.end-end.ensures.upto so.1 in (
            so_on _ c.args.low c.loop-to.at c.end-end.result so.0 (λ p le lt. turn.0.passed p le (below_at_most lt upto)),
            ready_again tell told selection c.turn_in_group.new.self c.go_to-in-loop-to.new.self c.end-end.result c.args.high
                (below_is_at_most below) on.index on.extents c.in_ok-go_to-2.ensures.ready
                (rw (c.turn_in_group.ensures.index, inv.index) is)
                (subst (λ (q : Position). AreReady tell selection c.turn_in_group.new.self (Some told) q c.args.high)
                (same_position c.in_ok-to.to c.end-end.result upto c.in_ok-to.ensures.upto) turn.1),
          ));
    }

pub returns-then-lt-clause-found : goal.returns-then-lt-clause-found
returns-then-lt-clause-found g c selection is live ready =
    let inv = c.loop-to.invariant in
    let early = below_from_lt c.if-lt.ensures in
    let so = inv.so selection is live ready in
    let turn = (rw inv.index at c.in_ok-to.ensures.turn) selection is live c.args.high c.end-end.ensures.upto so.1 in (
      record {
        past = at_most_trans inv.past c.in_ok-to.ensures.past;
        below = below_at_most early c.end-end.ensures.upto;
        not_so = turn.0.found early;
        least = so_on _ c.args.low c.loop-to.at c.in_ok-to.to so.0 turn.0.passed;
      },
      turn.1,
    )

pub returns-then-ge-clause-found : goal.returns-then-ge-clause-found
returns-then-ge-clause-found g c selection is live ready =
    let inv = c.loop-to.invariant in
    let upto = at_most_trans (at_most_from_ge c.if-ge.ensures) (at_most_from_not_lt c.if-lt.ensures) in
    let so = inv.so selection is live ready in
    let turn = (rw inv.index at c.in_ok-to.ensures.turn) selection is live c.args.high c.end-end.ensures.upto so.1 in (
      so_on _ c.args.low c.loop-to.at c.args.high so.0 (λ p le lt. turn.0.passed p le (below_at_most lt upto)),
      subst (λ (q : Position). AreReady (g.A.TableAnswer.tell c.args.answer.now) selection c.turn_in_group.new.self
          (Some (g.A.TableAnswer.said c.args.answer.now)) q c.args.high)
          (same_position c.in_ok-to.to c.args.high upto (at_most_trans c.in_ok-to.ensures.upto c.end-end.ensures.upto)) turn.1,
    )

pub loop-to-smaller : goal.loop-to-smaller
loop-to-smaller g c =
    let inv = c.loop-to.invariant in
    let on = c.go_to-in-loop-to.ensures in
    let next = c.end-end.ensures.next (below_from_not_ge c.if-ge.ensures) in
    let later = below_is_at_most (c.end-end.ensures.after c.loop-to.at inv.below inv.ahead) in
    let reached = rw c.turn_in_group.ensures.group at on.reached in
    let rises = (reached (subst (λ (q : Position). IsAtMost q c.end-end.result) (sym inv.at) later)).1 next.0
    (λ d. subst (λ (q : Position). IsAtMost q c.end-end.result) (sym (next.1 d)) (at_most_itself c.end-end.result)) in
    omega (arith, rises, next.0, ap (λ e. length e.now) on.extents, ap (λ e. length e.extents.now) c.turn_in_group.ensures.group)

pub returns-then-lt-clause-range : goal.returns-then-lt-clause-range
returns-then-lt-clause-range g c = (
  at_most_trans c.loop-to.invariant.past c.in_ok-to.ensures.past,
  below_at_most (below_from_lt c.if-lt.ensures) c.end-end.ensures.upto,
)
