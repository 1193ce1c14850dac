-- A section's spans compared with the records of a table so far, whatever a table contains of an answer, which `tell` gives: what
-- contracts see of a `Merge`. The table is a function from positions to answers.
use Rattle.std.specs.Prelude.{◌≡◌, ℕ, cond, List, [], ◌∷◌, Option, Some, None, Result, Ok, Err}
use Rattle.std.specs.Option.{option_map}
use Rattle.lnt_spans.specs.declared.merge.Merge.{Merge}
use Rattle.lnt_spans.specs.declared.scope.Coverage.{Coverage}
use Rattle.lnt_spans.specs.declared.scope.Scope.{Scope}
use Rattle.lnt_spans.specs.declared.scope.Scope.TheVariants.{All, Answered}
use Rattle.lnt_spans.specs.Remaining.{IsAhead}
use Rattle.lnt_spans.specs.AnyStretches.{Stretch}
use Rattle.lnt_spans.specs.Partial.{addresses_answered, AreCounts, IsFirstMistake, IsRightAt, IsRightWherever, where_missed}
use Rattle.lnt_spans.specs.Differences.{IsFirstDifference}
use Rattle.lnt_spans.specs.Positions.{IsBelow, IsAtMost, is_below, Position}
use Rattle.lnt_spans.specs.Spans.{AreInOrder, span_answer, Answer, Span}

-- what spans answer at a position, as a table contains it
abbrev pub answer_told : {X : Type 0} → (Answer → X) → List Span → Position → Option X
answer_told tell spans p = option_map tell (span_answer spans p)

-- The first span, if there is one, begins at or above p.
abbrev pub BeginFrom : Position → List Span → Type 0
BeginFrom p [] = Unit {0}
BeginFrom p (span ∷ spans) = IsAtMost p span.low

-- the answers below a position, and None from there on
abbrev pub until : {X : Type 0} → Position → (Position → Option X) → Position → Option X
until to answers p = cond (is_below p to) (answers p) None

-- ---- up to a position

-- Below `to` the table is right wherever it answers, and the spans that are left answer as all of them do from there on.
pub record ArePassed {X : Type 0} (tell : Answer → X) (spans : List Span) (by_table : Position → Option X) (to : Position)
    (AreLeft : List Span → Type 0) : Type 0 where
  pub rest : List Span
  pub left : AreLeft rest
  pub order : AreInOrder rest
  pub from : BeginFrom to rest
  pub right : (p : Position) → IsBelow p to → IsRightAt by_table (answer_told tell spans) p
  pub same : (p : Position) → IsAtMost to p → span_answer spans p ≡ span_answer rest p

-- The same, and below `to` the section answers at this many addresses at which the table doesn't.
pub record AreCounted {X : Type 0} (tell : Answer → X) (spans : List Span) (by_table : Position → Option X) (to : Position)
    (AreLeft : List Span → Type 0) (missed : ℕ) : Type 0 where
  pub passed : ArePassed tell spans by_table to AreLeft
  pub counted : missed ≡ addresses_answered (until to (where_missed by_table (answer_told tell spans)))

-- Either the table answers wherever the section does below `to`; or their first difference lies below `to`.
abbrev pub HasGap : {X : Type 0} → Option (Stretch X) → (Answer → X) → List Span → (Position → Option X) → Position → Type 0
HasGap None tell spans by_table to = (p : Position) → IsBelow p to → where_missed by_table (answer_told tell spans) p ≡ None
HasGap (Some first) tell spans by_table to =
    IsFirstDifference (answer_told tell spans) by_table first × IsBelow first.position to

-- The first mistake of the table lies from `from` up to `to`.
pub record IsMistakenIn {X : Type 0} (tell : Answer → X) (spans : List Span) (by_table : Position → Option X) (from to : Position)
    (mistake : Stretch X) : Type 0 where
  pub first : IsFirstMistake by_table (answer_told tell spans) mistake
  pub past : IsAtMost from mistake.position
  pub below : IsBelow mistake.position to

-- ---- a merge

-- what is known up to `to`, by whether a mistake was found
abbrev pub AreMergedBy : {X : Type 0} → Option (Stretch X) → Option (Stretch X) → (Answer → X) → List Span → (Position → Option X)
    → Position → (List Span → Type 0) → ℕ → Type 0
AreMergedBy None gap tell spans by_table to AreLeft missed =
    AreCounted tell spans by_table to AreLeft missed × HasGap gap tell spans by_table to
AreMergedBy (Some mistake) gap tell spans by_table to AreLeft missed =
    IsMistakenIn tell spans by_table (record { address = 0; op = 0 }) to mistake × HasGap gap tell spans by_table mistake.position

-- the end of the last record
abbrev pub end_of_records : {S D : Type 0} → Merge S D → Position
end_of_records merge = merge.at

-- The spans were compared with the records of a table that answers so, and nothing from the end of the last record on.
pub record HasMerged {S D X : Type 0} (to_come : S → List Span → Type 0) (tell : Answer → X) (value_of : D → Stretch X) (merge : Merge S D)
    (spans : List Span) (by_table : Position → Option X) : Type 0 where
  pub ended : (p : Position) → IsAtMost merge.at p → by_table p ≡ None
  pub answered : merge.answered ≡ addresses_answered by_table
  pub merged : AreMergedBy (option_map value_of merge.mistake) (option_map value_of merge.gap) tell spans by_table merge.at
      (IsAhead to_come merge.spans) merge.missed

-- The table answers nothing from `at` up to `low`.
abbrev pub AnswersNothing : {X : Type 0} → (Position → Option X) → Position → Position → Type 0
AnswersNothing by_table at low = (p : Position) → IsAtMost at p → IsBelow p low → by_table p ≡ None

-- The table answers `said` from `low` up to `high`.
abbrev pub Says : {X : Type 0} → (Position → Option X) → Position → Position → X → Type 0
Says by_table low high said = (p : Position) → IsAtMost low p → IsBelow p high → by_table p ≡ Some said

-- One table is the other with one more record, after those that end at `at`.
pub record HasOneMore {X : Type 0} (old new : Position → Option X) (at low high : Position) (said : X) : Type 0 where
  pub before : (p : Position) → IsBelow p at → new p ≡ old p
  pub gap : AnswersNothing new at low
  pub says : Says new low high said
  pub ended : (p : Position) → IsAtMost high p → new p ≡ None

-- ---- what a table is judged to be

-- This is the least position of the scope at which the table isn't right: of all positions, or of those at which it answers.
abbrev pub IsWrongFirst : {X : Type 0} → Scope → (Position → Option X) → (Position → Option X) → Stretch X → Type 0
IsWrongFirst All by_section by_table first = IsFirstDifference by_section by_table first
IsWrongFirst Answered by_section by_table first = IsFirstMistake by_table by_section first

-- The table answers as the section does at each position of the scope.
abbrev pub IsRightThroughout : {X : Type 0} → Scope → (Position → Option X) → (Position → Option X) → Type 0
IsRightThroughout All by_section by_table = (p : Position) → by_section p ≡ by_table p
IsRightThroughout Answered by_section by_table = IsRightWherever by_table by_section

-- The table is right in the scope, and answers so much of the section; or it is wrong at this position first.
abbrev pub IsJudged : {D X : Type 0} → Scope → (D → Stretch X) → (Position → Option X) → (Position → Option X) → Result Coverage D
    → Type 0
IsJudged scope value_of by_section by_table (Ok coverage) =
    IsRightThroughout scope by_section by_table × AreCounts by_table by_section coverage.answered coverage.all
IsJudged scope value_of by_section by_table (Err wrong) = IsWrongFirst scope by_section by_table (value_of wrong)
