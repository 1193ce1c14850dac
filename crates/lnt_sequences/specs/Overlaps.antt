-- Extents of which no two hold the same position, or the first two that do. No public contract speaks of it.
use Rattle.std.specs.Prelude.{◌≡◌, ℕ, ◌+◌, ◌<◌, Bool, true, false, not, ◌&&◌, List, length, slice_index_or, ◌≢◌, ◌⊎◌, All, AllPairs}
use Rattle.std.specs.Prelude.{Contains}
use Rattle.std.specs.List.{filter, list_any}
use Rattle.lnt_spans.specs.Positions.{IsAtMost, IsBelow}
use Rattle.lnt_sequences.specs.Extents.{IsNotLater, Extent, ComesNoLater, IsIn, Overlap}
use Rattle.lnt_sequences.specs.Sequences.{is_same, stands_before}
use Rattle.lnt_spans.specs.declared.position.Position.{Position}

-- ---- extents without copies, and an order in which copies are adjacent. No public contract speaks of it.

-- whether two begin and end at the same positions
abbrev pub end_alike : Extent → Extent → Bool
end_alike one other = is_same one.low other.low && is_same one.high other.high

-- whether it is a copy among these: an earlier one begins and ends at the same positions
abbrev pub is_copied : List Extent → Extent → Bool
is_copied extents extent = list_any (λ (earlier : Extent). stands_before earlier.id extent.id && end_alike extent earlier) extents

-- the extents of those that are kept
abbrev pub kept_extents : Bool → List Extent → List Extent
kept_extents false extents = extents
kept_extents true extents = filter (λ extent. not (is_copied extents extent)) extents

-- By first position, then by last position, and then by place, the one isn't after the other.
pub record EndsNoLater (one other : Extent) : Type 0 where
  pub low : IsAtMost one.low other.low
  pub rest : one.low.address ≡ other.low.address → one.low.op ≡ other.low.op → IsNotLater one.high one.id other.high other.id

-- in this order, in which copies come after their originals
abbrev pub AreGathered : List Extent → Type 0
AreGathered extents =
    (k : ℕ) (d : Extent) → k + 1 < length extents → EndsNoLater (slice_index_or extents k d) (slice_index_or extents (k + 1) d)

-- ---- extents that hold no position twice

-- no position is held by both
abbrev pub ExtentsDisjoint : Extent → Extent → Type 0
ExtentsDisjoint one other = (p : Position) → IsIn p one → IsIn p other → ⊥

-- Both hold the position where the second begins, no lower position is held by two, and they are the first two that
-- hold it.
pub record AreFirstToOverlap (extents : List Extent) (one other : Extent) : Type 0 where
  pub one_in : Contains extents one
  pub other_in : Contains extents other
  pub different : one.id ≢ other.id
  pub order : ComesNoLater one other
  pub one_holds : IsIn other.low one
  pub other_holds : IsIn other.low other
  pub lower : (p : Position) → IsBelow p other.low → AllPairs (λ a b. IsIn p a → IsIn p b → ⊥) extents
  pub first_two : All (λ extent. IsIn other.low extent → (extent ≡ one) ⊎ (extent ≡ other) ⊎ ComesNoLater other extent) extents

pub record ExtentsOverlap (extents : List Extent) (overlap : Overlap) : Type 0 where
  pub one : Extent
  pub other : Extent
  pub first_is : overlap.first ≡ one.id
  pub second_is : overlap.second ≡ other.id
  pub position_is : overlap.position ≡ other.low
  pub first : AreFirstToOverlap extents one other
