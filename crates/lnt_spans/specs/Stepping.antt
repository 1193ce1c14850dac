-- What the bodies of this crate say of one step. No public contract speaks of it.
use Rattle.std.specs.Prelude.{ℕ, ◌<◌, ◌≤◌, List, get_or, length, ◌≡◌, ◌≢◌, ◌⊎◌, Bool, false, ◌&&◌, cond, is_some, is_none, [], ◌∷◌, ◌++◌}
use Rattle.std.specs.Prelude.{Option}
use Rattle.std.specs.Prelude.{Some, None, MatchBool, option_map}
use Rattle.lnt_spans.specs.Positions.{IsBelow, IsAtMost, Position}
use Rattle.lnt_spans.specs.declared.any_stretches.Step.{Step}
use Rattle.lnt_spans.specs.declared.runs.Run.{Run}
use Rattle.lnt_spans.specs.AnyStretches.{AreAllStretches, Stretch, stretch_at}
use Rattle.lnt_spans.specs.Partial.{addresses_answered, addresses_between, where_missed}
use Rattle.lnt_spans.specs.Runs.{IsBefore, IsUpTo, runs_left, Answer, Span}
use Rattle.lnt_spans.specs.Stretching.{IsGoing, HasGiven, Stretches}

-- ---- the state of a bisection over spans in order: which spans may still hold the position. Bodies here
-- and in lnt_ffi bisect so, and no public contract speaks of it.

-- The spans at indices below `low` end at or before p, and those from `high` on begin above it.
pub record IsBracket (spans : List Span) (p : Position) (low high : ℕ) : Type 0 where
  pub upto : low ≤ high
  pub within : high ≤ length spans
  pub before : (k : ℕ) (d : Span) → k < low → IsAtMost (get_or spans k d).high p
  pub past : (k : ℕ) (d : Span) → high ≤ k → k < length spans → IsBelow p (get_or spans k d).low

-- ---- runs

-- Within this run of a side, which began at `from`: the side still stands there, and up to the run's end it answers as the run does.
pub record IsInRun {N A V : Type 0} (is_at : N → Position → (Position → Option V) → Type 0) (value_of : A → V) (run : Run A)
    (from : Position) (side : N) (at : Position) (values : Position → Option V) : Type 0 where
  pub began : is_at side from values
  pub past : IsAtMost from at
  pub up_to : IsUpTo at run.end
  pub says : (p : Position) → IsAtMost at p → IsBefore p run.end → values p ≡ option_map value_of run.answer
  pub ended : run.end ≡ None → run.answer ≡ None

-- as `HasGiven`, while the table's side still stands where this run of it began
abbrev pub HasGivenIn : {S N A V X : Type 0} → (S → List Span → Type 0) → (N → Position → (Position → Option V) → Type 0) → (A → V)
    → Run A → Position → (Answer → X) → (A → X) → Stretches S N A → (Position → Option X) → (Position → Option X) → List (Stretch X)
    → Type 0
HasGivenIn to_come is_at value_of run from = HasGiven to_come (IsInRun is_at value_of run from) value_of

-- The section has fewer runs left than before, or no more and the table's run ends.
abbrev pub HasFewerOrEnds : {S N A : Type 0} → (S → ℕ) → Stretches S N A → Stretches S N A → Option Position → Type 0
HasFewerOrEnds left old new end =
    (runs_left new.at new.section.next (left new.section.spans) ≤ runs_left old.at old.section.next (left old.section.spans))
    × ((runs_left new.at new.section.next (left new.section.spans) < runs_left old.at old.section.next (left old.section.spans))
    ⊎ (end ≡ Some new.at))

-- from `at` on, this is answered up to `until`
abbrev pub StaysUntil : {X : Type 0} → (Position → Option X) → Position → Position → Option X → Type 0
StaysUntil answers at until answer = (p : Position) → IsAtMost at p → IsBelow p until → answers p ≡ answer

-- Whether no stretch begins with these two answers: they are alike, or each is as it was before.
abbrev pub IsKnown : {X : Type 0} → Bool → Option X → Option X → Option X → Option X → Type 0
IsKnown known section table section_before table_before = MatchBool known
    ((section ≡ table) ⊎ (section ≡ section_before) × (table ≡ table_before))
    ((table ≢ section) × (section ≡ section_before → table ≡ table_before → ⊥))

-- how many addresses are answered from `at` up to `end`, where a side has this answer
abbrev pub answered_between : {X : Type 0} → Option X → Position → Position → ℕ
answered_between answer at end = cond (is_some answer) (addresses_between at end) 0

-- how many addresses are missed from `at` up to `end`, where the two sides have these answers
abbrev pub missed_between : {X Y : Type 0} → Option X → Option Y → Position → Position → ℕ
missed_between of_section of_table at end = cond (is_some of_section && is_none of_table) (addresses_between at end) 0

-- the stretch that begins with this step, if one does
abbrev pub stretch_of_step : {A X : Type 0} → (Answer → X) → (A → X) → Step A → Stretch X
stretch_of_step tell said step = stretch_at step.at (option_map tell step.both.section) (option_map said step.both.table)

-- the stretches given, with the one that begins with this step, if one does
abbrev pub told_with : {A X : Type 0} → (Answer → X) → (A → X) → List (Stretch X) → Step A → List (Stretch X)
told_with tell said given step = cond step.is_known given
    (given ++ stretch_of_step tell said step ∷ [])

-- what holds after one step, by what it found
abbrev pub StretchStep : {S N A V X : Type 0} → (S → List Span → Type 0) → (N → Position → (Position → Option V) → Type 0) → (A → V)
    → (Answer → X) → (A → X) → Stretches S N A → (Position → Option X) → (Position → Option X) → List (Stretch X) → Option (Step A) → Type 0
StretchStep to_come is_at value_of tell said stretches by_section by_table given None = AreAllStretches by_section by_table given
    × (stretches.missed ≡ addresses_answered (where_missed by_table by_section)) × (stretches.all ≡ addresses_answered by_section)
StretchStep to_come is_at value_of tell said stretches by_section by_table given (Some step) =
    HasGiven to_come is_at value_of tell said stretches by_section by_table (told_with tell said given step)
    × (step.is_known ≡ false → IsGoing tell said stretches by_section by_table (stretch_of_step tell said step))
