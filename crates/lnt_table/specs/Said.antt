-- Several sequences that are asked, from a position on, for one answer. Of public contracts only that of `KeptStretches` speaks of it.
use Rattle.std.specs.Prelude.{◌≡◌, ℕ, ◌<◌, Bool, true, false, List, length, get_or, sum_by, Option, Some, option_map}
use Rattle.lnt_spans.specs.declared.answer.Answer.{Answer}
use Rattle.lnt_spans.specs.declared.position.Position.{Position}
use Rattle.lnt_spans.specs.declared.span.Span.{Span}
use Rattle.lnt_spans.specs.Positions.{IsAtMost, IsBelow}
use Rattle.lnt_spans.specs.Remaining.{count_ahead, SpansAreLeft}
use Rattle.lnt_spans.specs.Spans.{AreInOrder, span_answer}
use Rattle.lnt_table.specs.declared.said.SequenceSpans.{SequenceSpans}

-- The spans that are left answer from `at` on as the function does.
pub record AnswersFrom {S : Type 0} (to_come : S → List Span → Type 0) (sequence : SequenceSpans S) (at : Position)
    (answers : Position → Option Answer) : Type 0 where
  pub list : List Span
  pub left : SpansAreLeft to_come sequence.next sequence.spans list
  pub order : AreInOrder list
  pub same : (p : Position) → IsAtMost at p → span_answer list p ≡ answers p

-- The answer at p is this one, as far as a table contains it.
abbrev pub Says : {X : Type 0} → (Answer → X) → X → (Position → Option Answer) → Position → Type 0
Says tell told answers p = option_map tell (answers p) ≡ Some told

-- The spans that are left say this exactly where the function does, from `at` on; and from `whole` on they answer as it does.
pub record SaysFrom {S X : Type 0} (to_come : S → List Span → Type 0) (tell : Answer → X) (told : X) (sequence : SequenceSpans S)
    (at whole : Position) (answers : Position → Option Answer) : Type 0 where
  pub list : List Span
  pub left : SpansAreLeft to_come sequence.next sequence.spans list
  pub order : AreInOrder list
  pub says : (p : Position) → IsAtMost at p → Says tell told (span_answer list) p → Says tell told answers p
  pub said : (p : Position) → IsAtMost at p → Says tell told answers p → Says tell told (span_answer list) p
  pub same : (p : Position) → IsAtMost whole p → span_answer list p ≡ answers p

-- One of the sequences says it at p.
abbrev pub OneSays : {S X : Type 0} → (S → List Span → Type 0) → (Answer → X) → X → List (SequenceSpans S) → Position → Position → Type 0
OneSays {S} to_come tell told sequences at p = (k : ℕ) × (k < length sequences)
    × ((d : SequenceSpans S) (whole : Position) (answers : Position → Option Answer)
    → SaysFrom to_come tell told (get_or sequences k d) at whole answers → Says tell told answers p)

-- None of them does.
abbrev pub NoneSays : {S X : Type 0} → (S → List Span → Type 0) → (Answer → X) → X → List (SequenceSpans S) → Position → Position → Type 0
NoneSays {S} to_come tell told sequences at p = (k : ℕ) (d : SequenceSpans S) (whole : Position) (answers : Position → Option Answer)
    → k < length sequences → SaysFrom to_come tell told (get_or sequences k d) at whole answers → Says tell told answers p → ⊥

-- Each says this from `to` on as it did from `at` on, and answers as it did from each position on that isn't below `end`.
pub record StillSay {S X : Type 0} (to_come : S → List Span → Type 0) (tell : Answer → X) (told : X) (old new : List (SequenceSpans S))
    (at to end : Position) : Type 0 where
  pub count : length new ≡ length old
  pub each : (k : ℕ) (d : SequenceSpans S) (whole : Position) (answers : Position → Option Answer) → k < length old → IsAtMost end whole
      → SaysFrom to_come tell told (get_or old k d) at whole answers → SaysFrom to_come tell told (get_or new k d) to whole answers

-- From `low` up to `to` one of them says it at each position, and at `to`, if that is below `high`, none does; or, if it is to be found
-- where one says it, the other way round.
abbrev pub TurnsAt : Bool → (Position → Type 0) → (Position → Type 0) → Position → Position → Position → Type 0
TurnsAt false OneIs NoneIs low high to = ((p : Position) → IsAtMost low p → IsBelow p to → OneIs p) × (IsBelow to high → NoneIs to)
TurnsAt true OneIs NoneIs low high to = ((p : Position) → IsAtMost low p → IsBelow p to → NoneIs p) × (IsBelow to high → OneIs to)

-- an upper bound on the spans that are left, if the function bounds those of a source
abbrev pub left_of : {S : Type 0} → (S → ℕ) → SequenceSpans S → ℕ
left_of left sequence = count_ahead sequence.next (left sequence.spans)

abbrev pub all_left : {S : Type 0} → (S → ℕ) → List (SequenceSpans S) → ℕ
all_left left sequences = sum_by (left_of left) sequences
