-- How far the stretches of a section and a table were given, whatever a table contains of an answer: what contracts see of
-- `Stretches`.
use Rattle.std.specs.Prelude.{◌≡◌, ◌≢◌, ℕ, ◌+◌, List, Option, None, option_map}
pub use Rattle.lnt_spans.specs.declared.any_stretches.Stretches.{Stretches}
use Rattle.lnt_spans.specs.Remaining.{IsAhead}
use Rattle.lnt_spans.specs.AnyStretches.{Stretch, Position, AreToldBelow, LastsTo}
use Rattle.lnt_spans.specs.Partial.{addresses_answered, where_missed}
use Rattle.lnt_spans.specs.Merged.{until}
use Rattle.lnt_spans.specs.Runs.{IsAheadAt, IsSideAt, runs_left, Answer, Span}
use Rattle.lnt_spans.specs.declared.differences.Differences.{Differences}
use Rattle.lnt_spans.specs.Answers.{in_version}
use Rattle.lnt_spans.specs.Differences.{stretch_of, stretches_of, Difference}

-- These stretches were given, both sides answer so from there on, and below, the section answers at as many addresses at which the
-- table doesn't as were counted.
pub record HasGiven {S N A V X : Type 0} (to_come : S → List Span → Type 0) (is_at : N → Position → (Position → Option V) → Type 0)
    (value_of : A → V) (tell : Answer → X) (said : A → X) (stretches : Stretches S N A) (by_section by_table : Position → Option X)
    (given : List (Stretch X)) : Type 0 where
  pub section : IsSideAt (IsAheadAt to_come) (λ answer. answer) tell stretches.section stretches.at by_section
  pub table : IsSideAt is_at value_of said stretches.table stretches.at by_table
  pub below : AreToldBelow by_section by_table stretches.at (option_map tell stretches.before.section)
      (option_map said stretches.before.table) given
  pub counted : stretches.missed ≡ addresses_answered (until stretches.at (where_missed by_table by_section))
  pub all_counted : stretches.all ≡ addresses_answered (until stretches.at by_section)

-- This stretch was given last, and its two answers are the last ones.
pub record IsGoing {S N A X : Type 0} (tell : Answer → X) (said : A → X) (stretches : Stretches S N A)
    (by_section by_table : Position → Option X) (stretch : Stretch X) : Type 0 where
  pub section : option_map tell stretches.before.section ≡ stretch.by_section
  pub table : option_map said stretches.before.table ≡ stretch.by_table
  pub differ : stretch.by_table ≢ stretch.by_section
  pub lasts : LastsTo by_section by_table stretch stretches.at

-- No stretch was given yet, and so many addresses were counted.
pub record HasBegun {S N A : Type 0} (to_come : S → List Span → Type 0) (section : S) (table : N) (at : Position) (answered : ℕ)
    (stretches : Stretches S N A) : Type 0 where
  pub ahead : (list : List Span) → to_come section list → IsAhead to_come stretches.section list
  pub table_is : stretches.table ≡ table
  pub at_is : stretches.at ≡ at
  pub no_section : stretches.before.section ≡ None
  pub no_table : stretches.before.table ≡ None
  pub none_missed : stretches.missed ≡ 0
  pub all_is : stretches.all ≡ answered

-- An upper bound on the stretches that are left to give, if the two functions bound what is left of the sides. Each stretch begins
-- where a run of one side does, so the runs left on both sides are added up.
abbrev pub stretches_to_give : {S N A : Type 0} → (S → ℕ) → (N → Position → ℕ) → Stretches S N A → ℕ
stretches_to_give left runs stretches =
    runs_left stretches.at stretches.section.next (left stretches.section.spans) + runs stretches.table stretches.at

-- ---- how far the stretches of a section and a table by number were given: what contracts see of `Differences`

-- These stretches were given, and the sources have the spans from there on still to come.
abbrev pub HasFoundStretches : {S T : Type 0} → (S → List Span → Type 0) → (T → List Span → Type 0) → Differences S T
    → (Position → Option Answer)
    → (Position → Option Answer) → List Difference → Type 0
HasFoundStretches of_section of_table differences by_section by_table given = HasGiven of_section (IsAheadAt of_table) (λ answer. answer)
    (in_version differences.version) (λ answer. answer) differences.stretches by_section by_table (stretches_of given)

-- an upper bound on the stretches that are left to give, if the two functions bound the spans that are left in the sources
abbrev pub stretches_left : {S T : Type 0} → (S → ℕ) → (T → ℕ) → Differences S T → ℕ
stretches_left of_section of_table differences =
    stretches_to_give of_section (λ ahead at. runs_left at ahead.next (of_table ahead.spans)) differences.stretches

-- this stretch was given last, and its two answers are the last ones
abbrev pub IsGoingByNumber : {S T : Type 0} → Differences S T → (Position → Option Answer) → (Position → Option Answer) → Difference
    → Type 0
IsGoingByNumber differences by_section by_table last =
    IsGoing (in_version differences.version) (λ answer. answer) differences.stretches by_section by_table (stretch_of last)

-- the number of addresses, among those that were compared, at which the section answers and the table doesn't
abbrev pub missed_by : {S T : Type 0} → Differences S T → ℕ
missed_by differences = differences.stretches.missed

-- the number of those at which the section answers
abbrev pub all_by : {S T : Type 0} → Differences S T → ℕ
all_by differences = differences.stretches.all
