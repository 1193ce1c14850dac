-- What bodies say of one step, of a program that is run, and of places. No public contract speaks of it.
use Rattle.std.specs.Prelude.{◌≡◌, ℕ, ◌<◌, List, [], ◌∷◌, ◌++◌, length, reverse, slice_index_or, Option, Some, None}
use Rattle.lnt_header.specs.declared.numbers.NumberParts.{NumberParts}
use Rattle.lnt_header.specs.declared.op.Op.{Op}
use Rattle.lnt_header.specs.Joins.{Each}
use Rattle.lnt_ops.specs.OpBytes.{OpBytes}
use Rattle.lnt_ops.specs.Walks.{Walk}
use Rattle.lnt_machine.specs.Cuts.{are_some, IsCut}
use Rattle.lnt_machine.specs.Matrix.{LinesFit, sequences_of, Row, Sequence}
use Rattle.lnt_machine.specs.Running.{AtStart, rows_of_ops, RunState}
use Rattle.lnt_machine.specs.State.{MachineState, StandsAfter}
use Rattle.lnt_machine.specs.Walking.{HasRows}

-- The first of the rows was appended, and the others are to come; or there is none.
abbrev pub GivesNext : NumberParts → List Row → Option Row → MachineState → Walk → Type 0
GivesNext h [] None machine walk = Unit {0}
GivesNext h (row ∷ rows) (Some made) machine walk = (made ≡ row) × HasRows h rows machine walk
GivesNext h _ _ machine walk = ⊥

-- The first of the rows was appended, and the others are to come; or none was appended yet.
abbrev pub ComesNext : NumberParts → List Row → Option Row → MachineState → Walk → Type 0
ComesNext h rows None machine walk = HasRows h rows machine walk
ComesNext h rows (Some made) machine walk = GivesNext h rows (Some made) machine walk

-- These operations were run, the oldest first, with no line out of range. Their rows are those of sequences, and those after the last
-- end row.
pub record HasRan (h : NumberParts) (ops : List Op) (run : RunState) : Type 0 where
  pub header_is : run.machine.numbers ≡ h
  pub stands : StandsAfter run.machine (reverse ops)
  pub count : run.machine.count ≡ length ops
  pub lines : LinesFit h ops (length ops)
  pub ended : List Sequence
  pub left : List Row
  pub cut : IsCut (rows_of_ops h ops) ended left
  pub open_is : run.is_open ≡ are_some left

-- A prefix of the program, of this many whole sequences, ends at this place.
pub record IsProgramPrefix (h : NumberParts) (program : List ℕ) (index place : ℕ) : Type 0 where
  pub earlier : List Op
  pub prefix : List ℕ
  pub rest : List ℕ
  pub split : program ≡ prefix ++ rest
  pub place_is : place ≡ length prefix
  pub spelled : Each (OpBytes h) earlier prefix
  pub start : AtStart (reverse earlier)
  pub index_is : index ≡ length (sequences_of (rows_of_ops h earlier))

-- This many sequences have ended; their places are known, and that where the next one begins.
pub record HasPlaces (h : NumberParts) (program : List ℕ) (count : ℕ) (places : List ℕ) (place : ℕ) : Type 0 where
  pub count_is : length places ≡ count
  pub each : (k d : ℕ) → k < length places → IsProgramPrefix h program k (slice_index_or places k d)
  pub next : IsProgramPrefix h program count place
