-- Answers from a position on, run by run, whatever an answer is: each run holds for as long as the answer stays the same.
use Rattle.std.specs.Prelude.{◌≡◌, ℕ, ◌+◌, cond, List, Option, Some, None, option_map}
pub use Rattle.lnt_spans.specs.declared.answer.Answer.{Answer}
pub use Rattle.lnt_spans.specs.declared.span.Span.{Span}
use Rattle.lnt_spans.specs.Remaining.{count_ahead, gap_before, IsAhead, Ahead, EndsAfter}
use Rattle.lnt_spans.specs.Positions.{IsBelow, IsAtMost, is_below, Position}
use Rattle.lnt_spans.specs.Spans.{AreInOrder, span_answer}

-- ---- one run

-- The position isn't after the end, if there is one.
abbrev pub IsUpTo : Position → Option Position → Type 0
IsUpTo p None = Unit {0}
IsUpTo p (Some end) = IsAtMost p end

-- It is below the end, if there is one.
abbrev pub IsBefore : Position → Option Position → Type 0
IsBefore p None = Unit {0}
IsBefore p (Some end) = IsBelow p end

-- From a position on up to the end, which is after it, or at all of them, this is answered.
pub record IsRun {X : Type 0} (answers : Position → Option X) (at : Position) (answer : Option X) (end : Option Position) : Type 0 where
  pub past : IsBefore at end
  pub says : (p : Position) → IsAtMost at p → IsBefore p end → answers p ≡ answer

-- ---- what is still to come of one side

-- The side answers as the function does from `at` on, as far as a table contains it: `is_at` says what its values are, and `said` what
-- a table contains of an answer with a value.
pub record IsSideAt {N A V X : Type 0} (is_at : N → Position → (Position → Option V) → Type 0) (value_of : A → V) (said : A → X) (side : N)
    (at : Position) (answers : Position → Option X) : Type 0 where
  pub values : Position → Option V
  pub valued : is_at side at values
  pub same : (p : Position) → IsAtMost at p → (answer : Option A) → values p ≡ option_map value_of answer
      → answers p ≡ option_map said answer

-- ---- spans that come from a source

-- Spans are still to come that answer as the function does from `at` on.
pub record IsAheadAt {S : Type 0} (to_come : S → List Span → Type 0) (ahead : Ahead S) (at : Position) (answers : Position → Option Answer)
    : Type 0 where
  pub rest : List Span
  pub coming : IsAhead to_come ahead rest
  pub order : AreInOrder rest
  pub past : EndsAfter at rest
  pub same : (p : Position) → IsAtMost at p → span_answer rest p ≡ answers p

-- where the answer at a position may end, if this span is next
abbrev pub run_end : Position → Option Span → Option Position
run_end at None = None
run_end at (Some span) = Some (cond (is_below at span.low) span.low span.high)

-- an upper bound on the runs of one answer that are left, if the source has at most `left` spans
abbrev pub runs_left : Position → Option Span → ℕ → ℕ
runs_left at next left = count_ahead next left + count_ahead next left + gap_before at next
