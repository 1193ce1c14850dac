-- What the bodies of this crate say of their work. No public contract speaks of it.
use Rattle.std.specs.Prelude.{◌≡◌, ℕ, Bool, true, List, [], ◌∷◌, filter, map, Option, None, Some, flat_map}
use Rattle.std.specs.List.{AllByRecursion}
use Rattle.std.specs.Io.KnownBytes.{Appends}
use Rattle.lnt_spans.specs.declared.position.Position.{Position}
use Rattle.lnt_spans.specs.declared.answer.Answer.{Answer}
use Rattle.lnt_spans.specs.AnyStretches.{Stretch}
use Rattle.lnt_spans.specs.Partial.{addresses_answered, where_answered}
use Rattle.lnt_sequences.specs.Copies.{IsAnyAnswer}
use Rattle.lnt_sequences.specs.Sequences.{Selection}
use Rattle.lnt_io.specs.Prefixes.{AppendsPrefix}
use Rattle.lnt_io.specs.declared.status.Status.{Status}
use Rattle.lnt_io.specs.declared.status.Status.TheVariants.{No}
use Rattle.lnt_table.specs.declared.kinds.OfKind.TheVariants.{Numbered}
use Rattle.lnt_table.specs.declared.verdict.Verdict.TheVariants.{Yes}
use Rattle.lnt_spans.specs.declared.scope.Coverage.{Coverage}
use Rattle.lnt_spans.specs.declared.scope.Scope.{Scope}
use Rattle.lnt_spans.specs.declared.scope.Scope.TheVariants.{All, Answered}
use Rattle.lnt_table.specs.declared.wrong.WrongStretches.{WrongStretches}
use Rattle.lnt_table.specs.Judged.{told_right}
use Rattle.lnt_table.specs.WrongStretches.{HasFoundWrong}
use Rattle.lnt_answers.specs.declared.report.Report.{Report}
use Rattle.lnt_answers.specs.PrintedStretches.{IsEndTold}
use Rattle.lnt_answers.specs.Verdicts.{checked_line, checked_status}

-- ---- stretches in a scope

-- whether a stretch is in the scope, by whether the table answers there
abbrev pub counts_in : Scope → Bool → Bool
counts_in All is_answered = true
counts_in Answered is_answered = is_answered

-- this, if the list is empty
abbrev pub if_none : {X Y : Type 0} → List X → Y → Option Y
if_none [] value = Some value
if_none (first ∷ list) value = None

-- how much of the section the table answers
abbrev pub coverage_of : {X : Type 0} → (Position → Option X) → (Position → Option X) → Coverage
coverage_of by_section by_table = record {
  answered = addresses_answered (where_answered by_table by_section);
  all = addresses_answered by_section;
}

-- ---- differences with which stretches begin, given one after another
--     shown       the line of a difference, with the end of its stretch, if that is told
--     answered    whether the table answers there
--     IsEnd       which position is the end of its stretch

-- a difference, and the first position after its stretch, if that is told
pub record ToldDifference (D : Type 0) : Type 0 where
  pub difference : D
  pub end : Option Position

abbrev pub differences_of : {D : Type 0} → List (ToldDifference D) → List D
differences_of told = map (λ one. one.difference) told

-- those in the scope
abbrev pub told_in : {D : Type 0} → (D → Bool) → Scope → List (ToldDifference D) → List (ToldDifference D)
told_in answered scope told = filter (λ one. counts_in scope (answered one.difference)) told

-- their lines
abbrev pub told_lines : {D : Type 0} → (D → Option Position → List ℕ) → (D → Bool) → Scope → List (ToldDifference D) → List ℕ
told_lines shown answered scope told = flat_map (λ one. shown one.difference one.end) (told_in answered scope told)

-- Each is told with its end, if ends are told.
abbrev pub AreEndsTold : {D : Type 0} → Bool → (D → Position → Type 0) → List (ToldDifference D) → Type 0
AreEndsTold ends IsEnd told = AllByRecursion (λ one. IsEndTold ends (IsEnd one.difference) one.end) told

-- The lines of all in the scope were appended. If there is none, the table answers so much.
--     AreAll      which differences are all, and how much the table then answers
pub record ArePrinted {D : Type 0} (shown : D → Option Position → List ℕ) (answered : D → Bool) (AreAll : List D → Coverage → Type 0)
    (IsEnd : D → Position → Type 0) (ends : Bool) (scope : Scope) (old new : Option (List ℕ)) (found : Option Coverage) : Type 0 where
  pub told : List (ToldDifference D)
  pub coverage : Coverage
  pub are_all : AreAll (differences_of told) coverage
  pub ends_told : AreEndsTold ends IsEnd told
  pub text : Appends old new (told_lines shown answered scope told)
  pub found_is : found ≡ if_none (told_in answered scope told) coverage

-- A prefix of the lines of those in the scope was appended, and no more were given.
--     HasGiven    which differences were given, by what gives them
pub record AreBegun {G D : Type 0} (shown : D → Option Position → List ℕ) (answered : D → Bool) (HasGiven : G → List D → Type 0)
    (IsEnd : D → Position → Type 0) (ends : Bool) (scope : Scope) (old new : Option (List ℕ)) : Type 0 where
  pub told : List (ToldDifference D)
  pub given : G
  pub so : HasGiven given (differences_of told)
  pub ends_told : AreEndsTold ends IsEnd told
  pub prefix : AppendsPrefix old new (told_lines shown answered scope told)

-- ---- what gives them

-- A section and a table answer so.
pub record TwoAnswers (X : Type 0) : Type 0 where
  pub by_section : Position → Option X
  pub by_table : Position → Option X

-- The same of a section with these units, in the fields that are told, if any copy counts, and the table is judged in this scope.
pub record CopyCase (X : Type 0) : Type 0 where
  pub scope : Scope
  pub tell : Answer → X
  pub selection : Selection
  pub by_section : Position → Option X
  pub by_table : Position → Option X

-- what any of the live sequences answers
abbrev pub said_by : {X : Type 0} → CopyCase X → Position → Option X → Type 0
said_by case = IsAnyAnswer case.tell case.selection

-- In this case these wrong stretches were given.
pub record HasGivenWrong {K D X : Type 0} (tell : K → Answer → X) (value_of : D → Stretch X)
    (has_given : K → (Position → Option X) → (Position → Option X) → List D → Type 0) (wrong : WrongStretches K D) (case : CopyCase X)
    (given : List D) : Type 0 where
  pub scope_is : wrong.scope ≡ case.scope
  pub tell_is : tell wrong.kept ≡ case.tell
  pub so : HasFoundWrong tell value_of has_given wrong case.selection case.by_section case.by_table given

-- ---- where there is no stretch
--     coverage    how much the table answers, if there is no stretch

abbrev pub end_text : Report → Option Coverage → List ℕ
end_text report None = []
end_text report (Some coverage) = checked_line report.at_least (told_right report.scope coverage (Numbered Yes))

abbrev pub end_status : Report → Option Coverage → Status
end_status report None = No
end_status report (Some coverage) = checked_status report.at_least (told_right report.scope coverage (Numbered Yes))
