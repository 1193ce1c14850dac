-- The positions that sequences hold, each from its first position up to its last, and the first that two of them hold.
use Rattle.std.specs.Prelude.{◌≡◌, ◌≢◌, ◌⊎◌, ℕ, ◌+◌, ◌-◌, ◌<◌, ◌≤◌, cond, List, [], ◌∷◌, Option, Some, None, length, slice_index_or}
use Rattle.std.specs.Prelude.{flat_map, All, AllPairs, Contains, IsPermutation, option_map}
use Rattle.lnt_machine.specs.declared.row.Row.{Row}
use Rattle.lnt_spans.specs.declared.position.Position.{Position}
use Rattle.lnt_spans.specs.Positions.{IsBelow, IsAtMost, is_below}
pub use Rattle.lnt_sequences.specs.declared.extent.Extent.{Extent}
pub use Rattle.lnt_sequences.specs.declared.extent.Overlap.{Overlap}
use Rattle.lnt_sequences.specs.Rules.{AreApart}
use Rattle.lnt_sequences.specs.Sequences.{answer_in, answer_of, position_of, first_row, last_row, Holds, Placed, row_at, SeqId}

-- ---- which comes first

-- By first position, and then by place in the section, the one isn't after the other.
pub record IsNotLater (p : Position) (id : SeqId) (q : Position) (other : SeqId) : Type 0 where
  pub low : IsAtMost p q
  pub unit : p.address ≡ q.address → p.op ≡ q.op → id.unit ≤ other.unit
  pub index : p.address ≡ q.address → p.op ≡ q.op → id.unit ≡ other.unit → id.index ≤ other.index

-- the same of two sequences
pub record BeginsNoLater (one other : Placed) : Type 0 where
  pub first : Row
  pub other_first : Row
  pub first_is : first_row one.rows ≡ Some first
  pub other_is : first_row other.rows ≡ Some other_first
  pub order : IsNotLater (position_of first) one.id (position_of other_first) other.id

-- ---- the first overlap

-- Two different sequences hold the position, and no lower position is held by two. These are the first two that hold it, in
-- order by first position and then by place. So it is the position where the second begins.
pub record IsFirstOverlap (sequences : List Placed) (overlap : Overlap) : Type 0 where
  pub one : Placed
  pub other : Placed
  pub one_in : Contains sequences one
  pub other_in : Contains sequences other
  pub first_is : overlap.first ≡ one.id
  pub second_is : overlap.second ≡ other.id
  pub different : overlap.first ≢ overlap.second
  pub one_holds : Holds one.rows overlap.position
  pub other_holds : Holds other.rows overlap.position
  pub lower : AllPairs (λ a b. (p : Position) → IsBelow p overlap.position → Holds a.rows p → Holds b.rows p → ⊥) sequences
  pub in_turn : BeginsNoLater one other
  pub begins : overlap.position ≡ position_of in_turn.other_first
  pub first_two : All (λ placed. Holds placed.rows overlap.position
      → (placed.id ≡ overlap.first) ⊎ (placed.id ≡ overlap.second) ⊎ BeginsNoLater other placed) sequences

-- ---- the extents of sequences

-- the extent from a first position up to a last one, if it isn't empty
abbrev pub extent_between : SeqId → Position → Position → List Extent
extent_between id low high = cond (is_below low high) (record { low = low; high = high; id = id } ∷ []) []

-- the extent of a sequence, if it isn't empty
abbrev pub extent_of_rows : SeqId → Option Row → Option Row → List Extent
extent_of_rows id (Some first) (Some last) = extent_between id (position_of first) (position_of last)
extent_of_rows id _ _ = []

abbrev pub extent_of : Placed → List Extent
extent_of placed = extent_of_rows placed.id (first_row placed.rows) (last_row placed.rows)

-- the extents of the nonempty sequences
abbrev pub extents_of : List Placed → List Extent
extents_of sequences = flat_map extent_of sequences

-- ---- extents in order

-- p is held
pub record IsIn (p : Position) (extent : Extent) : Type 0 where
  pub from : IsAtMost extent.low p
  pub below : IsBelow p extent.high

abbrev pub ComesNoLater : Extent → Extent → Type 0
ComesNoLater one other = IsNotLater one.low one.id other.low other.id

-- by first position, and then by place
abbrev pub AreSorted : List Extent → Type 0
AreSorted extents =
    (k : ℕ) (d : Extent) → k + 1 < length extents → ComesNoLater (slice_index_or extents k d) (slice_index_or extents (k + 1) d)

-- of the first n and the next, none begins below the end of the one before it
abbrev pub AreApartUpTo : ℕ → List Extent → Type 0
AreApartUpTo n extents = (k : ℕ) (d : Extent) → k < n → IsAtMost (slice_index_or extents k d).high (slice_index_or extents (k + 1) d).low

-- ---- extents that are settled: sorted, and apart

pub record AreSettled (extents : List Extent) : Type 0 where
  pub some : All (λ (extent : Extent). IsBelow extent.low extent.high) extents
  pub sorted : AreSorted extents
  pub apart : AreApartUpTo (length extents - 1) extents

-- none of the extents holds the position
abbrev pub NoneHolds : List Extent → Position → Type 0
NoneHolds extents p = All (λ (extent : Extent). IsIn p extent → ⊥) extents

-- it is one of the extents, and holds the position
pub record IsHolder (extents : List Extent) (p : Position) (extent : Extent) : Type 0 where
  pub contained : Contains extents extent
  pub holds : IsIn p extent

-- so is the extent with this index
abbrev pub IsHolderAt : List Extent → Position → ℕ → Type 0
IsHolderAt extents p k = (k < length extents) × ((d : Extent) → IsHolder extents p (slice_index_or extents k d))

-- ---- what sequences answer, by their extents

-- The sequence has the extent's id, and the sequences answer what its rows say.
pub record AnswersFor (sequences : List Placed) (p : Position) (extent : Extent) : Type 0 where
  pub placed : Placed
  pub contained : Contains sequences placed
  pub id_is : placed.id ≡ extent.id
  pub answer_is : answer_in sequences p ≡ option_map (answer_of placed.id.unit) (row_at p placed.rows)

-- If no position is held by two sequences: no extent holds a position without an answer, and the one that holds a position
-- is that of the sequence that answers.
pub record HolderAnswers : Type 0 where
  pub none : (sequences : List Placed) (extents : List Extent) (p : Position) → IsPermutation (extents_of sequences) extents
      → NoneHolds extents p → answer_in sequences p ≡ None
  pub some : (sequences : List Placed) (extents : List Extent) (p : Position) (extent : Extent)
      → IsPermutation (extents_of sequences) extents → AreApart sequences → IsHolder extents p extent → AnswersFor sequences p extent
