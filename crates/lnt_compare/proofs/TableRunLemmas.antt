-- The spans that a table by path has left, followed from one end of an answer to the next.
use Rattle.std.proofs.Common.{◌≡◌, ◌∙◌, inl, inr, List, [], ◌∷◌, Option, Some, None, ap, arith, length, map, refl, subst, sym}
use Rattle.lnt_spans.specs.declared.position.Position.{Position}
use Rattle.lnt_spans.specs.Positions.{IsBelow, IsAtMost}
use Rattle.lnt_spans.specs.Runs.{IsRun, IsUpTo}
use Rattle.lnt_spans.proofs.PositionLaws.{at_most_below, at_most_trans, below_is_at_most, order_cases, origin_first}
use Rattle.lnt_spans.proofs.PositionLaws.{test_below, test_not_below}
use Rattle.lnt_compare.specs.declared.path_tables.held.HeldSpan.{HeldSpan}
use Rattle.lnt_compare.specs.Held.{held_span, held_end, IsTableAt, PathsEndAfter}
use Rattle.lnt_records.specs.PathSpans.{PathAnswer, path_span_answer, PathSpan, StandInOrder, whole, path_spans}
use Rattle.lnt_compare.specs.PathStretches.{told_path_answer}
use Rattle.lnt_spans.proofs.AnsweringLaws as table

-- ---- spans in order

pub path_after : (span : PathSpan) (more : List PathSpan) (to : Position) → StandInOrder (span ∷ more) → IsAtMost to span.high
    → PathsEndAfter to more
path_after span [] to o le = tt
path_after span (next ∷ more) to o le = at_most_below (at_most_trans le o.1) (table.first_holds path_spans next more o.2)

pub path_begins : (spans : List PathSpan) → StandInOrder spans → PathsEndAfter (whole 0) spans
path_begins [] o = tt
path_begins (span ∷ spans) o = at_most_below (origin_first span.low) (table.first_holds path_spans span spans o)

-- what lasts no longer than the run of the first span ends in the span or before it
up_to_end : (held : HeldSpan) (rest : List HeldSpan) (at to : Position) → StandInOrder (map held_span (held ∷ rest))
    → IsUpTo to (held_end at (held ∷ rest)) → IsAtMost to (whole held.high)
up_to_end held rest at to o up = elim (order_cases at (whole held.low)) [
  | inl gap ↦ at_most_trans (rw (test_below at (whole held.low) gap) at up)
      (below_is_at_most (table.first_holds path_spans (held_span held) (map held_span rest) o))
  | inr inside ↦ rw (test_not_below at (whole held.low) inside) at up
]

nothing : (list : List HeldSpan) → length list ≡ 0 → list ≡ []
nothing [] e = refl
nothing (held ∷ list) e = absurd (omega (arith, e))

module _ (held_table : List HeldSpan) (at : Position) (answers : Position → Option PathAnswer) (t : IsTableAt held_table at answers) where
  -- ---- runs

  -- no span is left
  pub nothing_run : length held_table ≡ 0 → IsRun answers at None None
  nothing_run e = record {
    past = tt;
    says = λ p h k. sym (t.same p h) ∙ ap (λ (xs : List HeldSpan). path_span_answer (map held_span xs) p) (nothing held_table e);
  }

  pub order_of : (held : HeldSpan) (rest : List HeldSpan) → held_table ≡ held ∷ rest → StandInOrder (map held_span (held ∷ rest))
  order_of held rest e = subst (λ (xs : List HeldSpan). StandInOrder (map held_span xs)) e t.order

  -- the first span begins later
  pub gap_run : (held : HeldSpan) (rest : List HeldSpan) (low : Position) → held_table ≡ held ∷ rest → low ≡ whole held.low → IsBelow at low
      → IsRun answers at None (Some low)
  gap_run held rest low e is gap = record {
    past = gap;
    says = λ p h k. sym (t.same p h) ∙ ap (λ (xs : List HeldSpan). path_span_answer (map held_span xs) p) e
        ∙ table.none_before path_spans (held_span held) (map held_span rest) p (order_of held rest e) (subst (IsBelow p) is k);
  }

  -- the first span holds the position
  pub held_run : (held : HeldSpan) (rest : List HeldSpan) (low high : Position) (answer : PathAnswer) → held_table ≡ held ∷ rest
      → low ≡ whole held.low → high ≡ whole held.high → answer ≡ told_path_answer held.answer → IsAtMost low at
      → IsRun answers at (Some answer) (Some high)
  held_run held rest low high answer e is is' says le = record {
    past = subst (IsBelow at) (sym is') (subst (λ (xs : List HeldSpan). PathsEndAfter at (map held_span xs)) e t.past);
    says = λ p h k. sym (t.same p h) ∙ ap (λ (xs : List HeldSpan). path_span_answer (map held_span xs) p) e
        ∙ table.answer_in path_spans (held_span held) (map held_span rest) p
        (at_most_trans (subst (λ (q : Position). IsAtMost q at) is le) h)
        (subst (IsBelow p) is' k)
        ∙ ap Some (sym says);
  }

  -- ---- from one end to the next

  -- no span is left
  pub nothing_at : (to : Position) → length held_table ≡ 0 → IsAtMost at to → IsTableAt held_table to answers
  nothing_at to e le = record {
    order = t.order;
    past = subst (λ (xs : List HeldSpan). PathsEndAfter to (map held_span xs)) (sym (nothing held_table e)) tt;
    same = λ p h. t.same p (at_most_trans le h);
  }

  -- the first span ends after the position that was reached
  pub kept_at : (held : HeldSpan) (rest : List HeldSpan) (high to : Position) → held_table ≡ held ∷ rest → high ≡ whole held.high
      → IsBelow to high → IsAtMost at to → IsTableAt held_table to answers
  kept_at held rest high to e is later le = record {
    order = t.order;
    past = subst (λ (xs : List HeldSpan). PathsEndAfter to (map held_span xs)) (sym e) (subst (IsBelow to) is later);
    same = λ p h. t.same p (at_most_trans le h);
  }

  -- it is dropped
  pub rest_at : (held : HeldSpan) (rest : List HeldSpan) (high to : Position) → held_table ≡ held ∷ rest → high ≡ whole held.high
      → IsAtMost high to → IsAtMost at to → IsUpTo to (held_end at held_table) → IsTableAt rest to answers
  rest_at held rest high to e is past le up =
      let order = order_of held rest e in
      let ends : IsAtMost (whole held.high) to = subst (λ (q : Position). IsAtMost q to) is past in
      let up_to : IsUpTo to (held_end at (held ∷ rest)) = subst (λ (xs : List HeldSpan). IsUpTo to (held_end at xs)) e up in
      record {
        order = table.rest_in_order path_spans (held_span held) (map held_span rest) order;
        past = path_after (held_span held) (map held_span rest) to order (up_to_end held rest at to order up_to);
        same = λ p h.
            sym (table.answer_after path_spans (held_span held) (map held_span rest) p (at_most_trans ends h))
            ∙ ap (λ (xs : List HeldSpan). path_span_answer (map held_span xs) p) (sym e) ∙ t.same p (at_most_trans le h);
      }
