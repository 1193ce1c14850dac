-- A table compared with a section's spans at every position.
use Rattle.std.specs.Prelude.{ℕ, List, [], Option, IfSome}
use Rattle.lnt_spans.specs.declared.answer.Answer.{Answer}
use Rattle.lnt_spans.specs.declared.listed.SpanList.{SpanList}
use Rattle.lnt_spans.specs.declared.differences.Differences.{Differences}
use Rattle.lnt_spans.specs.declared.position.Position.{Position}
use Rattle.lnt_spans.specs.declared.span.Span.{Span}
use Rattle.lnt_spans.specs.Stretching.{HasFoundStretches, HasGiven, IsGoing, stretches_to_give}
use Rattle.lnt_spans.specs.Spans.{span_answer}
use Rattle.lnt_compare.specs.declared.outcome.TableRead.{TableRead}
use Rattle.lnt_compare.specs.declared.outcome.TableRead.TheVariants as differing
use Rattle.lnt_compare.specs.declared.remaining.Remaining.{Remaining}
use Rattle.lnt_compare.specs.Comparisons.{IsTableWhere, in_versions}
use Rattle.lnt_records.specs.Faults.{IsFault}
use Rattle.lnt_records.specs.Table.{by_number}
use Rattle.lnt_spans.specs.AnyStretches.{Stretch}
use Rattle.lnt_compare.specs.declared.path_tables.path_differences.DifferencesByPath.{DifferencesByPath}
use Rattle.lnt_compare.specs.Passing.{IsRemembered}
use Rattle.lnt_records.specs.PathSpans.{path_answer, PathAnswer}
use Rattle.lnt_records.specs.PathTables.{said_answer}
use Rattle.lnt_compare.specs.Held.{held_runs, IsTableAt}

-- what gives the stretches of a table, or its first fault
abbrev pub Differing : Type 0 → Type 0
Differing S = TableRead (Differences (Remaining S) SpanList)

-- The bytes are a table, and `differences` is about to give the first of the stretches at which it and the section answer differently,
-- in the fields of the table's version; or this is their first fault.
abbrev pub IsDiffering : {S : Type 0} → (Remaining S → List Span → Type 0) → (SpanList → List Span → Type 0) → List ℕ
    → (Position → Option Answer) → Differing S → Type 0
IsDiffering of_section of_table bytes section (differing.Fault told) = IsFault bytes told
IsDiffering of_section of_table bytes section (differing.Table differences) =
    IsTableWhere by_number span_answer (in_versions section) bytes
    (λ by_section by_table. HasFoundStretches of_section of_table differences by_section by_table [])

-- If the result is a table, no stretch was given yet.
abbrev pub IsStarted : {S : Type 0} → (Remaining S → List Span → Type 0) → (SpanList → List Span → Type 0) → Differing S → Type 0
IsStarted of_section of_table (differing.Fault told) = Unit {0}
IsStarted of_section of_table (differing.Table differences) =
    (by_section : Position → Option Answer) × (by_table : Position → Option Answer)
    × HasFoundStretches of_section of_table differences by_section by_table []

-- ---- how far the stretches of a section and a table by path were given: what contracts see of `DifferencesByPath`

-- These stretches were given, and the spans from there on are still to come, if these are the paths of the files of units.
-- What is remembered of paths is correct.
pub record HasFoundStretchesByPath {S : Type 0} (to_come : S → List Span → Type 0) (path : ℕ → ℕ → List ℕ)
    (differences : DifferencesByPath S)
    (by_section by_table : Position → Option PathAnswer) (told : List (Stretch PathAnswer)) : Type 0 where
  pub given : HasGiven to_come (λ held at answers. IsTableAt held.spans.now at answers) said_answer (path_answer differences.version path)
      said_answer differences.stretches by_section by_table told
  pub remembered : IfSome differences.memory (IsRemembered path)

-- an upper bound on the stretches that are left to give, if the function bounds the spans that are left in the section's source
abbrev pub path_stretches_left : {S : Type 0} → (S → ℕ) → DifferencesByPath S → ℕ
path_stretches_left of_section differences =
    stretches_to_give of_section (λ held at. held_runs at held.spans.now) differences.stretches

-- this stretch was given last, and its two answers are the last ones
abbrev pub IsGoingByPath : {S : Type 0} → (ℕ → ℕ → List ℕ) → DifferencesByPath S → (Position → Option PathAnswer)
    → (Position → Option PathAnswer) → Stretch PathAnswer → Type 0
IsGoingByPath path differences = IsGoing (path_answer differences.version path) said_answer differences.stretches

-- the number of addresses, among those that were compared, at which the section answers and the table doesn't
abbrev pub path_missed_by : {S : Type 0} → DifferencesByPath S → ℕ
path_missed_by differences = differences.stretches.missed

-- the number of those at which the section answers
abbrev pub path_all_by : {S : Type 0} → DifferencesByPath S → ℕ
path_all_by differences = differences.stretches.all
