-- How far the stretches of wrong positions were given: what contracts see of `WrongStretches`.
use Rattle.std.specs.Prelude.{◌≡◌, ◌⊎◌, ℕ, ◌+◌, ◌-◌, ◌*◌, ◌^◌, List, map, Option, Some, None, IsSomeAnd, option_map}
use Rattle.std.specs.List.{AllByRecursion}
use Rattle.lnt_spans.specs.declared.answer.Answer.{Answer}
use Rattle.lnt_spans.specs.declared.position.Position.{Position}
use Rattle.lnt_spans.specs.AnyStretches.{BeginsStretch, EndsAt, IsInOne, IsInStretch, Stretch}
use Rattle.lnt_spans.specs.Positions.{IsAtMost, IsBelow}
use Rattle.lnt_sequences.specs.Copies.{AreExtentsOf, IsAnyAnswer}
use Rattle.lnt_sequences.specs.Sequences.{line_answer, live_sequences, Selection}
use Rattle.lnt_lines.specs.Indexed.{IsIndexOf}
use Rattle.lnt_spans.specs.declared.scope.Scope.{Scope}
use Rattle.lnt_table.specs.declared.wrong.WrongStretches.{WrongStretches}
use Rattle.lnt_table.specs.AnyCopy.{AreFirstWrong, IsRightIn, IsRightOrIn}
use Rattle.lnt_table.specs.Asked.{AreCopies, AreReady}

--     tell, value_of, has_given    of `KeptStretches`

-- What is left of a stretch of the table and the kept sequences, from `from` up to its end. It begins there, or there the table is right.
pub record IsRest {X : Type 0} (scope : Scope) (said : Position → Option X → Type 0) (by_section by_table : Position → Option X)
    (stretch : Stretch X) (from end : Position) : Type 0 where
  pub begins : BeginsStretch by_section by_table stretch
  pub ends : EndsAt by_section by_table stretch end
  pub past : IsAtMost stretch.position from
  pub fresh : (from ≡ stretch.position) ⊎ ((IsRightIn scope said by_table from → ⊥) → ⊥)

-- Of two functions some stretches were given.
pub record CanGoOn {K D X : Type 0} (has_given : K → (Position → Option X) → (Position → Option X) → List D → Type 0)
    (wrong : WrongStretches K D) : Type 0 where
  pub copies : AreCopies wrong.copies
  pub by_section : Position → Option X
  pub by_table : Position → Option X
  pub given : List D
  pub so : has_given wrong.kept by_section by_table given

-- These stretches were given, `given` of the table and the kept sequences, and all positions below `from` were judged.
pub record AreWrongBelow {X : Type 0} (scope : Scope) (said : Position → Option X → Type 0) (by_section by_table : Position → Option X)
    (given : List (Stretch X)) (hand : Option (Stretch X)) (from end : Position) (stretches : List (Stretch X)) : Type 0 where
  pub rest : IsBelow from end → IsSomeAnd hand (λ stretch. IsRest scope said by_section by_table stretch from end
      × ((p : Position) → IsInStretch by_section by_table stretch p → IsInOne by_section by_table given p))
  pub within : (p : Position) → IsInOne by_section by_table given p → IsBelow p end
  pub judged : (p : Position) → IsBelow p from → IsRightOrIn scope said by_section by_table stretches p
  pub first : AreFirstWrong scope said by_section by_table stretches
  pub below : AllByRecursion (λ stretch. IsBelow stretch.position from) stretches
  pub held : AllByRecursion (λ stretch. IsInOne by_section by_table given stretch.position) stretches

-- what the table answers in the stretch at hand
abbrev pub told_at : {D X : Type 0} → (D → Stretch X) → Option D → Option X
told_at value_of None = None
told_at value_of (Some difference) = (value_of difference).by_table

-- These stretches were given of the section with these units and of the table.
pub record HasFoundWrong {K D X : Type 0} (tell : K → Answer → X) (value_of : D → Stretch X)
    (has_given : K → (Position → Option X) → (Position → Option X) → List D → Type 0) (wrong : WrongStretches K D)
    (selection : Selection) (by_section by_table : Position → Option X) (stretches : List D) : Type 0 where
  pub is_index : IsIndexOf selection wrong.copies.index.now
  pub live : AreExtentsOf (live_sequences selection.dead selection.units) wrong.copies.index.now.live
  pub same : (p : Position) → by_section p ≡ option_map (tell wrong.kept) (line_answer selection p)
  pub given : List D
  pub so : has_given wrong.kept by_section by_table given
  pub are : AreWrongBelow wrong.scope (IsAnyAnswer (tell wrong.kept) selection) by_section by_table (map value_of given)
      (option_map value_of wrong.hand) wrong.from wrong.end (map value_of stretches)
  pub ready : AreReady (tell wrong.kept) selection wrong.copies (told_at value_of wrong.hand) wrong.from wrong.end

-- a position as a number, in the order of positions
abbrev pub rank : Position → ℕ
rank position = position.address * 2 ^ 64 + position.op

-- An upper bound on the stretches that are left to give, if the function bounds those at which the kept sequences answer otherwise.
abbrev pub wrong_left : {K D : Type 0} → (K → ℕ) → WrongStretches K D → ℕ
wrong_left left wrong = left wrong.kept * 2 ^ 128 + (rank wrong.end - rank wrong.from)
