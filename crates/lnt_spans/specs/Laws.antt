-- What the laws of spans say.
use Rattle.std.specs.Prelude.{◌≡◌, ◌↔◌, ℕ, ◌+◌, ◌^◌, ◌≤◌, is_some, IsSome, List, [], ◌∷◌, Option, Some, None}
use Rattle.std.specs.List.{AllByRecursion}
use Rattle.lnt_spans.specs.AnyStretches.{AreAllStretches, Stretch}
use Rattle.lnt_spans.specs.Partial.{addresses_answered, addresses_between, addresses_of, whole, AreAllMistakes, AreCounts, IsFirstMistake}
use Rattle.lnt_spans.specs.Partial.{IsRightWherever, where_answered, where_missed}
use Rattle.lnt_spans.specs.Differences.{IsLeastDifference, stretch_of, Difference, AreStretches}
use Rattle.lnt_spans.specs.SpanKinds.{OneCanonicalOf}
use Rattle.lnt_spans.specs.Spans.{FitSpans, IsOfInstructions, AreInOrder, number_spans, span_answer, Answer, Span}
use Rattle.lnt_spans.specs.Positions.{IsBelow, IsAtMost, Position}

-- ---- what the laws of tables that answer a part say, and those of counts of addresses, for any type of answers

-- Both answer the same at every position.
abbrev pub AnswerAlike : {X : Type 0} → (Position → Option X) → (Position → Option X) → Type 0
AnswerAlike one other = (p : Position) → one p ≡ other p

-- ---- tables that are right wherever they answer

-- A table is right wherever it answers exactly if it answers as the section does where the table answers.
abbrev pub RightAsAnswered : Type 0 → Type 0
RightAsAnswered X = (by_table by_section : Position → Option X)
    → IsRightWherever by_table by_section ↔ AnswerAlike (where_answered by_table by_section) by_table

-- The first mistake of a table is its least difference from the section's answers where the table answers.
abbrev pub FirstMistake : Type 0
FirstMistake = (by_table by_section : Position → Option Answer) (difference : Difference)
    → IsFirstMistake by_table by_section (stretch_of difference)
    ↔ IsLeastDifference (where_answered by_table by_section) by_table difference

-- All stretches of mistakes of a table are those at which it differs from the section's answers where the table answers.
abbrev pub AllMistakes : Type 0 → Type 0
AllMistakes X = (by_table by_section : Position → Option X) (stretches : List (Stretch X))
    → AreAllMistakes by_table by_section stretches
    ↔ AreAllStretches (where_answered by_table by_section) by_table stretches

-- the list with the second first, if there is a first
abbrev pub if_some : {X Y : Type 0} → Option X → Y → List Y → List Y
if_some None one list = list
if_some (Some _) one list = one ∷ list

-- those at which the table answers
abbrev pub answered_stretches : {X : Type 0} → List (Stretch X) → List (Stretch X)
answered_stretches [] = []
answered_stretches (stretch ∷ stretches) = if_some stretch.by_table stretch (answered_stretches stretches)

-- Of all stretches at which a table and a section answer differently, those at which the table answers are all its mistakes.
abbrev pub MistakesAmong : Type 0 → Type 0
MistakesAmong X = (by_table by_section : Position → Option X) (stretches : List (Stretch X))
    → AreAllStretches by_section by_table stretches → AreAllMistakes by_table by_section (answered_stretches stretches)

-- ---- counts of addresses

-- There are at most 2^64.
abbrev pub MostAddresses : Type 0 → Type 0
MostAddresses X = (answers : Position → Option X) → addresses_answered answers ≤ 2 ^ 64

-- The number depends on where there are answers, and not on which they are.
abbrev pub SameAddresses : Type 0 → Type 0 → Type 0
SameAddresses X Y = (one : Position → Option X) (other : Position → Option Y)
    → ((p : Position) → is_some (one p) ≡ is_some (other p)) → addresses_answered one ≡ addresses_answered other

-- `more` answers in the half-open range from `low` up to `high`, and elsewhere where `answers` does, which doesn't answer in the range.
pub record AnswersMore {X : Type 0} (answers more : Position → Option X) (low high : Position) : Type 0 where
  pub added : (p : Position) → IsAtMost low p → IsBelow p high → IsSome (more p)
  pub unanswered : (p : Position) → IsAtMost low p → IsBelow p high → answers p ≡ None
  pub below : (p : Position) → IsBelow p low → is_some (more p) ≡ is_some (answers p)
  pub above : (p : Position) → IsAtMost high p → is_some (more p) ≡ is_some (answers p)

-- A range that is answered in addition adds its addresses.
abbrev pub AddedRange : Type 0 → Type 0
AddedRange X = (answers more : Position → Option X) (low high : Position) → AnswersMore answers more low high
    → addresses_answered more ≡ addresses_answered answers + addresses_between low high

-- The addresses that spans in order answer are those that they hold, added up.
abbrev pub AddressesOfSpans : Type 0
AddressesOfSpans = (spans : List Span) → AreInOrder spans → addresses_answered (span_answer spans) ≡ addresses_of spans

-- ---- how much a table answers

-- Of the section's addresses, the table answers at some and misses the others.
abbrev pub AnsweredAndMissed : Type 0 → Type 0
AnsweredAndMissed X = (by_table by_section : Position → Option X) → addresses_answered by_section
    ≡ addresses_answered (where_answered by_table by_section) + addresses_answered (where_missed by_table by_section)

-- A table that answers as the section does at every position is right wherever it answers, and answers at all of its addresses.
abbrev pub WholeTable : Type 0 → Type 0
WholeTable X = (by_table by_section : Position → Option X) (of_both of_section : ℕ) → AnswerAlike by_section by_table
    → AreCounts by_table by_section of_both of_section
    → IsRightWherever by_table by_section × (of_both ≡ of_section)

-- Of a table that is right wherever it answers, the addresses at which both answer are those at which the table does.
abbrev pub TableAddresses : Type 0 → Type 0
TableAddresses X = (by_table by_section : Position → Option X) (of_both of_section : ℕ) → IsRightWherever by_table by_section
    → AreCounts by_table by_section of_both of_section → of_both ≡ addresses_answered by_table

-- The answer changes at operation index 0 alone.
abbrev pub ChangesAtInstructions : {X : Type 0} → (Position → Option X) → Type 0
ChangesAtInstructions answers = (p : Position) → answers p ≡ answers (whole p.address)

-- So do the answers of spans that begin and end at operation index 0.
abbrev pub InstructionSpans : Type 0
InstructionSpans = (spans : List Span) → AllByRecursion IsOfInstructions spans → ChangesAtInstructions (span_answer spans)

-- Nothing is answered at addresses that don't have 64 bits.
abbrev pub AnswersAddresses : {X : Type 0} → (Position → Option X) → Type 0
AnswersAddresses answers = (p : Position) → 2 ^ 64 ≤ p.address → answers p ≡ None

-- Spans whose numbers have at most 64 bits answer nothing at other addresses.
abbrev pub FittingSpans : Type 0
FittingSpans = (spans : List Span) → FitSpans spans → AnswersAddresses (span_answer spans)

-- A table that is right wherever it answers, and answers at all addresses of the section, answers as the section does, if the answers
-- of both change at operation index 0 alone.
abbrev pub AllAnswered : Type 0 → Type 0
AllAnswered X = (by_table by_section : Position → Option X) (of_both of_section : ℕ) → IsRightWherever by_table by_section
    → AreCounts by_table by_section of_both of_section → of_both ≡ of_section
    → ChangesAtInstructions by_table → ChangesAtInstructions by_section → AnswersAddresses by_section → AnswerAlike by_section by_table

-- A table that never answers is right wherever it answers, and answers at no address.
abbrev pub EmptyTable : Type 0 → Type 0
EmptyTable X = (by_table by_section : Position → Option X) (of_both of_section : ℕ) → ((p : Position) → by_table p ≡ None)
    → AreCounts by_table by_section of_both of_section → IsRightWherever by_table by_section × (of_both ≡ 0)

-- ---- lists of spans

-- Both lists answer the same at p.
abbrev pub AgreeAt : List Span → List Span → Position → Type 0
AgreeAt xs ys p = span_answer xs p ≡ span_answer ys p

abbrev pub AgreeEverywhere : List Span → List Span → Type 0
AgreeEverywhere xs ys = AnswerAlike (span_answer xs) (span_answer ys)

-- all positions where a span begins or ends
abbrev pub borders : List Span → List Position
borders [] = []
borders (span ∷ spans) = span.low ∷ span.high ∷ borders spans

-- Lists in order that answer alike wherever a span of either begins or ends answer alike everywhere.
abbrev pub Borders : Type 0
Borders = (xs ys : List Span) → AreInOrder xs → AreInOrder ys
    → AllByRecursion (AgreeAt xs ys) (borders xs) → AllByRecursion (AgreeAt xs ys) (borders ys) → AgreeEverywhere xs ys

-- Canonical lists that answer alike everywhere are the same list.
abbrev pub OneCanonical : Type 0
OneCanonical = OneCanonicalOf number_spans

-- the first of the list is the least difference; if the list is empty, there is none
abbrev pub IsFirst : (Position → Option Answer) → (Position → Option Answer) → List Difference → Type 0
IsFirst by_section by_table [] = AnswerAlike by_section by_table
IsFirst by_section by_table (first ∷ differences) = IsLeastDifference by_section by_table first

-- The first stretch begins at the least difference; if there is no stretch, the two sides answer alike.
abbrev pub FirstStretch : Type 0
FirstStretch =
    (by_section by_table : Position → Option Answer) (differences : List Difference) → AreStretches by_section by_table differences
    → IsFirst by_section by_table differences
