-- Tables that answer a part of the positions, and are right there, whatever an answer is.
use Rattle.std.specs.Prelude.{◌≡◌, ℕ, zero, suc, ◌+◌, ◌-◌, ◌^◌, ◌≤◌, Bool, false, true, ◌&&◌, cond, is_some, List, [], ◌∷◌, Option, ◌≢◌}
use Rattle.std.specs.Prelude.{◌⊎◌, IsSome, None, Some}
use Rattle.lnt_spans.specs.declared.scope.Coverage.{Coverage}
use Rattle.lnt_spans.specs.declared.scope.Scope.{Scope}
use Rattle.lnt_spans.specs.declared.scope.Scope.TheVariants.{All, Answered}
use Rattle.lnt_spans.specs.declared.span.Span.{Span}
use Rattle.lnt_spans.specs.Positions.{is_below, is_at_most, Position, IsBelow}
use Rattle.std.specs.List.{AllByRecursion}
use Rattle.lnt_spans.specs.AnyStretches.{AreRising, BeginsStretch, IsInOne, Stretch}

-- ---- how many addresses answer. Of the positions at an address, the one with operation index 0 stands for it, and addresses have 64
-- bits.

-- how many of the numbers below n pass the test
unfoldable pub count_below : (ℕ → Bool) → ℕ → ℕ
count_below test zero = 0
count_below test (suc n) = count_below test n + cond (test n) 1 0

-- how many addresses, from 0 to 2^64 - 1, pass the test
abbrev pub count_addresses : (ℕ → Bool) → ℕ
count_addresses test = count_below test (2 ^ 64)

-- the position of a whole instruction
abbrev pub whole : ℕ → Position
whole address = record { address = address; op = 0 }

-- ---- what answers

-- whether there is an answer at the address
abbrev pub is_answered : {X : Type 0} → (Position → Option X) → ℕ → Bool
is_answered answers address = is_some (answers (whole address))

-- how many addresses have an answer
abbrev pub addresses_answered : {X : Type 0} → (Position → Option X) → ℕ
addresses_answered answers = count_addresses (is_answered answers)

-- ---- ranges of positions

-- whether the address lies in the half-open range from `low` up to `high`
abbrev pub is_between : Position → Position → ℕ → Bool
is_between low high address = is_at_most low (whole address) && is_below (whole address) high

-- how many addresses lie there
abbrev pub addresses_between : Position → Position → ℕ
addresses_between low high = count_addresses (is_between low high)

-- how many addresses the spans hold, added up span by span
abbrev pub addresses_of : List Span → ℕ
addresses_of [] = 0
addresses_of (span ∷ spans) = addresses_between span.low span.high + addresses_of spans

-- The source gives these spans, and with those that were counted they hold this many addresses.
pub record CountsTo {S : Type 0} (to_come : S → List Span → Type 0) (total : ℕ) (spans : S) (count : ℕ) (list : List Span) : Type 0 where
  pub coming : to_come spans list
  pub counted : count + addresses_of list ≡ total
  pub most : total ≤ 2 ^ 64

-- ---- what is right

-- At p the table has no answer, or that of the section.
abbrev pub IsRightAt : {X : Type 0} → (Position → Option X) → (Position → Option X) → Position → Type 0
IsRightAt by_table by_section p = (by_table p ≡ None) ⊎ (by_table p ≡ by_section p)

-- At every position at which the table answers, its answer is the section's.
abbrev pub IsRightWherever : {X : Type 0} → (Position → Option X) → (Position → Option X) → Type 0
IsRightWherever by_table by_section = (p : Position) → IsRightAt by_table by_section p

-- This is the least position at which the table answers, and the section answers otherwise or not at all. Both answers are those
-- given here.
pub record IsFirstMistake {X : Type 0} (by_table by_section : Position → Option X) (first : Stretch X) : Type 0 where
  pub table : first.by_table ≡ by_table first.position
  pub section : first.by_section ≡ by_section first.position
  pub answered : IsSome first.by_table
  pub differ : first.by_table ≢ first.by_section
  pub least : (p : Position) → IsBelow p first.position → IsRightAt by_table by_section p

-- These are all stretches, in ascending order, at which the table answers and the section answers otherwise or not at all: each
-- longest range of consecutive positions at which the two answers stay the same.
pub record AreAllMistakes {X : Type 0} (by_table by_section : Position → Option X) (stretches : List (Stretch X)) : Type 0 where
  pub each : AllByRecursion (λ stretch. IsSome stretch.by_table × BeginsStretch by_section by_table stretch) stretches
  pub rising : AreRising stretches
  pub all : (p : Position) → IsRightAt by_table by_section p ⊎ IsInOne by_section by_table stretches p

-- ---- the section's answers at the positions where the table answers

-- the second, where there is a first
abbrev pub where_some : {X : Type 0} → Option X → Option X → Option X
where_some None answer = None
where_some (Some _) answer = answer

-- The section's answers at the positions where the table answers, and None elsewhere. A table is right wherever it answers exactly if
-- it answers so at every position.
abbrev pub where_answered : {X : Type 0} → (Position → Option X) → (Position → Option X) → Position → Option X
where_answered by_table by_section p = where_some (by_table p) (by_section p)

-- ---- where a table doesn't answer

-- the second, where there is no first
abbrev pub where_none : {X : Type 0} → Option X → Option X → Option X
where_none None answer = answer
where_none (Some _) answer = None

-- the section's answers at the positions where the table doesn't answer, and None elsewhere
abbrev pub where_missed : {X : Type 0} → (Position → Option X) → (Position → Option X) → Position → Option X
where_missed by_table by_section p = where_none (by_table p) (by_section p)

-- ---- how much is answered

-- Of the `of_section` addresses at which the section answers, the table answers at `of_both`.
pub record AreCounts {X : Type 0} (by_table by_section : Position → Option X) (of_both of_section : ℕ) : Type 0 where
  pub both : of_both ≡ addresses_answered (where_answered by_table by_section)
  pub section : of_section ≡ addresses_answered by_section

-- how much of a section a table answers that misses so many of its addresses
abbrev pub coverage_but : ℕ → ℕ → Coverage
coverage_but missed all = record { answered = all - missed; all = all }

-- the positions at which a table is compared with the section: those at which it answers, if the check is partial
abbrev pub scope_in : Bool → Scope
scope_in false = All
scope_in true = Answered
