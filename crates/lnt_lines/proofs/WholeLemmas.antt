-- What rows answer tells everything, so the spans that answer as they do hold whole answers.
use Rattle.std.proofs.Common.{◌≡◌, ◌∙◌, ℕ, List, [], ◌∷◌, Option, Some, None, refl, sym, subst, find, option_map, option_and_then}
use Rattle.lnt_machine.specs.declared.row.Row.{Row}
use Rattle.lnt_spans.specs.declared.answer.Answer.{Answer}
use Rattle.lnt_spans.specs.declared.answer.More.{More}
use Rattle.lnt_spans.specs.declared.position.Position.{Position}
use Rattle.lnt_spans.specs.declared.span.Span.{Span}
use Rattle.lnt_spans.proofs.AnsweringLaws.{answer_after, answer_in, first_holds}
use Rattle.lnt_spans.proofs.PositionLaws.{at_most_itself, at_most_trans, below_is_at_most}
use Rattle.lnt_spans.specs.Positions.{IsAtMost}
use Rattle.lnt_spans.specs.Spans.{AreInOrder, span_answer, number_spans}
use Rattle.lnt_sequences.specs.Sequences.{answer_of, holds, kept_sequences, line_answer, Placed, row_at, Selection}
use Rattle.lnt_lines.specs.Contents.{AreWhole}

abbrev IsWhole : Answer → Type 0
IsWhole answer = (more : More) × (answer.more ≡ Some more)

abbrev IsWholeSpan : Span → Type 0
IsWholeSpan span = IsWhole span.answer

abbrev IsNoneOrWhole : Option Answer → Type 0
IsNoneOrWhole None = Unit {0}
IsNoneOrWhole (Some answer) = IsWhole answer

row_is_whole : (unit : ℕ) (row : Option Row) → IsNoneOrWhole (option_map (answer_of unit) row)
row_is_whole unit None = tt
row_is_whole unit (Some row) = (record { isa = row.isa; discriminator = row.discriminator }, refl)

found_is_whole : (p : Position) (found : Option Placed)
    → IsNoneOrWhole (option_and_then (λ (placed : Placed). option_map (answer_of placed.id.unit) (row_at p placed.rows)) found)
found_is_whole p None = tt
found_is_whole p (Some placed) = row_is_whole placed.id.unit (row_at p placed.rows)

first_is_whole : (span : Span) (spans : List Span) (answers : Position → Option Answer) → AreInOrder (span ∷ spans)
    → ((p : Position) → IsNoneOrWhole (answers p)) → span_answer (span ∷ spans) span.low ≡ answers span.low → IsWholeSpan span
first_is_whole span spans answers o h same =
    let here = answer_in number_spans span spans span.low (at_most_itself span.low) (first_holds number_spans span spans o) in
    subst IsNoneOrWhole (sym same ∙ here) (h span.low)

-- Each span's answer is that at its beginning.
each_is_whole : (span : Span) (spans : List Span) (answers : Position → Option Answer) → AreInOrder (span ∷ spans)
    → ((p : Position) → IsNoneOrWhole (answers p)) → ((p : Position) → IsAtMost span.low p → span_answer (span ∷ spans) p ≡ answers p)
    → AreWhole (span ∷ spans)
each_is_whole span [] answers o h same = (first_is_whole span [] answers o h (same span.low (at_most_itself span.low)), tt)
each_is_whole span (next ∷ spans) answers o h same = (
  first_is_whole span (next ∷ spans) answers o h (same span.low (at_most_itself span.low)),
  each_is_whole next spans answers o.2 h
      (λ p k.
      let past = at_most_trans o.1 k in
      sym (answer_after number_spans span (next ∷ spans) p past) ∙ same p (at_most_trans (below_is_at_most o.0) past)),
)

all_are_whole : (spans : List Span) (answers : Position → Option Answer) → AreInOrder spans
    → ((p : Position) → IsNoneOrWhole (answers p)) → ((p : Position) → span_answer spans p ≡ answers p) → AreWhole spans
all_are_whole [] answers o h same = tt
all_are_whole (span ∷ spans) answers o h same = each_is_whole span spans answers o h (λ p k. same p)

pub whole_spans : (selection : Selection) (spans : List Span) → AreInOrder spans
    → ((p : Position) → span_answer spans p ≡ line_answer selection p) → AreWhole spans
whole_spans selection spans o answers =
    all_are_whole spans (line_answer selection) o
    (λ p. found_is_whole p (find (λ (placed : Placed). holds p placed.rows) (kept_sequences selection))) answers
