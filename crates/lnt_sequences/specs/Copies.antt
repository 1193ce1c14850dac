-- What any of the live sequences answers. A linker that folds equal functions leaves several that hold the same positions, and each of
-- them is that of the code there.
use Rattle.std.specs.Prelude.{◌≡◌, List, Option, Some, None, IsPermutation, option_map}
use Rattle.std.specs.List.{Contains}
use Rattle.lnt_spans.specs.declared.answer.Answer.{Answer}
use Rattle.lnt_spans.specs.declared.position.Position.{Position}
use Rattle.lnt_sequences.specs.Extents.{AreSorted, Extent, extents_of, IsIn}
use Rattle.lnt_sequences.specs.Rules.{AreApart}
use Rattle.lnt_sequences.specs.Sequences.{answer_of, Holds, line_answer, live_sequences, Placed, row_at, Selection}

-- One of the sequences holds p, and the last of its rows at or before p says this.
pub record IsSaid (sequences : List Placed) (p : Position) (answer : Answer) : Type 0 where
  pub placed : Placed
  pub contained : Contains sequences placed
  pub holds : Holds placed.rows p
  pub answer_is : option_map (answer_of placed.id.unit) (row_at p placed.rows) ≡ Some answer

-- None of the sequences holds p.
abbrev pub IsUnheld : List Placed → Position → Type 0
IsUnheld sequences p = (placed : Placed) → Contains sequences placed → Holds placed.rows p → ⊥

-- One of the sequences that hold p says this, as `tell` tells it; or nothing is said, and none of them holds p.
abbrev pub IsSaidByAny : {X : Type 0} → (Answer → X) → List Placed → Position → Option X → Type 0
IsSaidByAny tell sequences p None = IsUnheld sequences p
IsSaidByAny tell sequences p (Some told) = (answer : Answer) × IsSaid sequences p answer × (tell answer ≡ told)

-- So it is with the live sequences of a section.
abbrev pub IsAnyAnswer : {X : Type 0} → (Answer → X) → Selection → Position → Option X → Type 0
IsAnyAnswer tell selection p said = IsSaidByAny tell (live_sequences selection.dead selection.units) p said

-- ---- what the laws say

-- What the kept sequences answer, one of the live ones says; and where they answer nothing, no live one holds the position. If no
-- position is held by two live sequences, they answer what any of them says.
pub record AnyAnswers : Type 0 where
  pub said : (selection : Selection) (p : Position) (answer : Answer) → line_answer selection p ≡ Some answer
      → IsSaid (live_sequences selection.dead selection.units) p answer
  pub unheld : (selection : Selection) (p : Position) → line_answer selection p ≡ None
      → IsUnheld (live_sequences selection.dead selection.units) p
  pub alone : (selection : Selection) (p : Position) (answer : Answer) → AreApart (live_sequences selection.dead selection.units)
      → IsSaid (live_sequences selection.dead selection.units) p answer → line_answer selection p ≡ Some answer
  pub none : (selection : Selection) (p : Position) → IsUnheld (live_sequences selection.dead selection.units) p
      → line_answer selection p ≡ None

-- ---- the extents of all live sequences, copies too

-- These are the extents of the sequences that hold positions, by first position, and then by place.
pub record AreExtentsOf (sequences : List Placed) (extents : List Extent) : Type 0 where
  pub sorted : AreSorted extents
  pub permuted : IsPermutation (extents_of sequences) extents

-- The sequence is one of these, and holds what its extent does.
pub record IsOfExtent (sequences : List Placed) (extent : Extent) (placed : Placed) : Type 0 where
  pub contained : Contains sequences placed
  pub id_is : placed.id ≡ extent.id
  pub into : (p : Position) → Holds placed.rows p → IsIn p extent
  pub back : (p : Position) → IsIn p extent → Holds placed.rows p

-- Each extent is that of a sequence; and if a sequence holds a position, one of the extents is its own.
pub record ExtentsOfSequences : Type 0 where
  pub one : (sequences : List Placed) (extents : List Extent) (extent : Extent) → AreExtentsOf sequences extents
      → Contains extents extent → (placed : Placed) × IsOfExtent sequences extent placed
  pub found : (sequences : List Placed) (extents : List Extent) (placed : Placed) (p : Position) → AreExtentsOf sequences extents
      → Contains sequences placed → Holds placed.rows p
      → (extent : Extent) × Contains extents extent × IsOfExtent sequences extent placed
