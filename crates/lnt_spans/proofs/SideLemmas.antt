-- One side's answers, followed from one end of an answer to the next.
use Rattle.std.proofs.Common.{◌≡◌, ◌∙◌, List, ◌∷◌, ap, sym, subst, Some, None, Option, arith, option_map}
use Rattle.lnt_spans.specs.Remaining.{IsAhead, Ahead, EndsAfter}
use Rattle.lnt_spans.specs.Positions.{IsBelow, IsAtMost, Position}
use Rattle.lnt_spans.specs.Runs.{IsAheadAt, IsRun, IsSideAt, IsUpTo, run_end}
use Rattle.lnt_spans.specs.Spans.{number_spans, AreInOrder, span_answer, Answer, Span}
use Rattle.lnt_spans.proofs.AheadLaws.{left_first, none_left}
use Rattle.lnt_spans.proofs.AnsweringLaws.{answer_after, answer_in, none_before, rest_in_order}
use Rattle.lnt_spans.proofs.PositionLaws.{at_most_trans}
use Rattle.lnt_spans.proofs.RunLaws.{after_high, up_to_high}
use Rattle.std.proofs.lemmas.Grind.{common_steps}

-- ---- any side

pub side_run : {N A V X : Type 0} (is_at : N → Position → (Position → Option V) → Type 0) (value_of : A → V) (said : A → X) (side : N)
    (at : Position) (answers : Position → Option X) (answer : Option A) (end : Option Position)
    → IsSideAt is_at value_of said side at answers
    → ((values : Position → Option V) → is_at side at values → IsRun values at (option_map value_of answer) end)
    → IsRun answers at (option_map said answer) end
side_run is_at value_of said side at answers answer end s runs = grind (arith, common_steps)

pub side_on : {N A V X : Type 0} (is_at : N → Position → (Position → Option V) → Type 0) (value_of : A → V) (said : A → X) (old new : N)
    (at end : Position) (answers : Position → Option X) → IsSideAt is_at value_of said old at answers → IsAtMost at end
    → ((values : Position → Option V) → is_at old at values → is_at new end values)
    → IsSideAt is_at value_of said new end answers
side_on is_at value_of said old new at end answers s le on = grind (arith, common_steps, at_most_trans)

-- ---- spans that come from a source

module _ {S : Type 0} (to_come : S → List Span → Type 0) (ahead : Ahead S) (at : Position) (answers : Position → Option Answer)
    (h : IsAheadAt to_come ahead at answers) where
  -- no span is next
  pub none_run : ahead.next ≡ None → IsRun answers at None None
  none_run none = grind (arith, common_steps, none_left)

  -- the next span begins later
  pub gap_run : (span : Span) → ahead.next ≡ Some span → IsBelow at span.low → IsRun answers at None (Some span.low)
  gap_run span some gap = grind (arith, common_steps, left_first, none_before number_spans)

  -- the next span holds the position
  pub span_run : (span : Span) → ahead.next ≡ Some span → IsAtMost span.low at → IsRun answers at (Some span.answer) (Some span.high)
  span_run span some low = grind (arith, common_steps, left_first, answer_in number_spans, at_most_trans)

  ends_later : (to : Position) (rest : List Span) → IsAhead to_come ahead rest
      → ((span : Span) → ahead.next ≡ Some span → IsBelow to span.high) → EndsAfter to rest
  ends_later to rest coming later = grind (arith, common_steps)

  -- the next span, if there is one, ends after the position that was reached
  pub kept_on : (to : Position) → IsAtMost at to → ((span : Span) → ahead.next ≡ Some span → IsBelow to span.high)
      → IsAheadAt to_come ahead to answers
  kept_on to le later = grind (arith, common_steps, ends_later, at_most_trans)

  -- it is dropped
  pub passed_on : (new : Ahead S) (span : Span) (to : Position) → ahead.next ≡ Some span → IsAtMost span.high to
      → ((first : Span) (more : List Span) → IsAhead to_come ahead (first ∷ more) → IsAhead to_come new more)
      → IsAtMost at to → IsUpTo to (run_end at ahead.next) → IsAheadAt to_come new to answers
  passed_on new span to some high passes le up =
      let one = left_first to_come ahead h.rest span some h.coming in
      let order : AreInOrder (span ∷ one.0) = subst AreInOrder one.1 h.order in
      let up_to : IsUpTo to (run_end at (Some span)) = subst (λ (o : Option Span). IsUpTo to (run_end at o)) some up in
      record {
        rest = one.0;
        coming = passes span one.0 (subst (IsAhead to_come ahead) one.1 h.coming);
        order = rest_in_order number_spans span one.0 order;
        past = after_high span one.0 to order (up_to_high span one.0 at to order up_to);
        same = λ p k. sym (answer_after number_spans span one.0 p (at_most_trans high k))
            ∙ ap (λ (xs : List Span). span_answer xs p) (sym one.1) ∙ h.same p (at_most_trans le k);
      }
