-- Which extents may hold positions, as positions rise. Of public contracts only that of `KeptStretches` speaks of it.
use Rattle.std.specs.Prelude.{ℕ, ◌<◌, ◌≤◌, List, length, get_or}
use Rattle.lnt_spans.specs.declared.position.Position.{Position}
use Rattle.lnt_spans.specs.Positions.{IsAtMost, IsBelow}
use Rattle.lnt_sequences.specs.declared.extent.Extent.{Extent}

-- The first extents, up to a place, end at or below the position.
abbrev pub HaveEnded : List Extent → ℕ → Position → Type 0
HaveEnded extents first at = (k : ℕ) (d : Extent) → k < first → IsAtMost (get_or extents k d).high at

-- From a place on, each extent begins at or after the position.
abbrev pub BeginFrom : List Extent → ℕ → Position → Type 0
BeginFrom extents begun at = (k : ℕ) (d : Extent) → begun ≤ k → k < length extents → IsAtMost at (get_or extents k d).low

-- Later ones begin no earlier.
abbrev pub BeginInTurn : List Extent → Type 0
BeginInTurn extents = (i j : ℕ) (d : Extent) → i ≤ j → j < length extents → IsAtMost (get_or extents i d).low (get_or extents j d).low

-- The extent at this place, if there is one, begins after the position.
abbrev pub NextIsAfter : List Extent → ℕ → Position → Type 0
NextIsAfter extents begun at = begun < length extents → (d : Extent) → IsBelow at (get_or extents begun d).low

-- The extents from place `first` up to `begun` are a group at a position: those before it have ended.
pub record IsGroup (extents : List Extent) (first begun : ℕ) (at : Position) : Type 0 where
  pub ordered : first ≤ begun
  pub within : begun ≤ length extents
  pub ended : HaveEnded extents first at
