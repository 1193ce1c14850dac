-- Rows that a machine makes from the remaining operations of a walk, and the rows of one sequence.
use Rattle.std.specs.Prelude.{◌≡◌, ℕ, ◌<◌, Bool, true, false, List, [], ◌∷◌, ◌++◌, length, reverse, slice_index_or, Option, Some, None}
use Rattle.lnt_header.specs.declared.numbers.NumberParts.{NumberParts}
use Rattle.lnt_header.specs.Parts.{HeaderParts}
use Rattle.lnt_header.specs.declared.op.Op.{Op}
use Rattle.lnt_header.specs.HeaderRules.{AreHeaderNumbers}
use Rattle.lnt_ops.specs.Walks.{OperationsAreLeft, IsPlace, Walk}
use Rattle.lnt_header.specs.declared.unit_parts.UnitParts.{UnitParts}
use Rattle.lnt_machine.specs.Matrix.{rows_after, sequences, sequences_of, Row}
use Rattle.lnt_machine.specs.Running.{AtStart, first_sequence, rows_of_ops}
use Rattle.lnt_machine.specs.Registers.{IsLine, line}
use Rattle.lnt_machine.specs.State.{StandsAfter, MachineState}

-- the line is in range after each of the operations that come after `back`
abbrev pub LinesAfter : NumberParts → List Op → List Op → Type 0
LinesAfter h back [] = Unit {0}
LinesAfter h back (op ∷ ops) = IsLine (line h (op ∷ back)) × LinesAfter h (op ∷ back) ops

-- A machine and a walk stand between operations of a program, and these rows are still to come.
pub record HasRows (h : NumberParts) (rows : List Row) (machine : MachineState) (walk : Walk) : Type 0 where
  pub back : List Op
  pub later : List Op
  pub valid : AreHeaderNumbers h
  pub header_is : machine.numbers ≡ h
  pub stands : StandsAfter machine back
  pub left : OperationsAreLeft h later walk
  pub lines : LinesAfter h back later
  pub rows_are : rows ≡ rows_after h back later

-- ---- the rows of one sequence

-- a machine, a walk, and whether the sequence has ended
pub record SequenceWalk : Type 0 where
  pub machine : MachineState
  pub walk : Walk
  pub ended : Bool

-- These rows are still to come: those up to and including the next end row.
pub data WillGive (rows : List Row) (walk : SequenceWalk) : Type 0 where
  none : walk.ended ≡ true → rows ≡ [] → WillGive rows walk
  some : (h : NumberParts) (all : List Row) → walk.ended ≡ false → HasRows h all walk.machine walk.walk → rows ≡ first_sequence all
      → WillGive rows walk

abbrev pub GivesFirstRow : List Row → Option Row → SequenceWalk → Type 0
GivesFirstRow [] None new = WillGive [] new
GivesFirstRow (row ∷ rows) (Some made) new = (made ≡ row) × WillGive rows new
GivesFirstRow _ _ new = ⊥

-- Whatever rows were to come, the first of them was given; none only if there were none.
abbrev pub GivesRow : SequenceWalk → Option Row → SequenceWalk → Type 0
GivesRow old result new = (rows : List Row) → WillGive rows old → GivesFirstRow rows result new

-- A short operation was done, if one came next. The first of the rows was given, or the same rows are still to come.
abbrev pub ComesShort : SequenceWalk → Option (Option Row) → SequenceWalk → Type 0
ComesShort old (Some (Some row)) new = GivesRow old (Some row) new
ComesShort old _ new = (rows : List Row) → WillGive rows old → WillGive rows new

-- A sequence begins at this place of the program, after the earlier operations, and the lines of the later ones are in range.
pub record IsSequencePlace (h : NumberParts) (program : List ℕ) (earlier later : List Op) (place : ℕ) : Type 0 where
  pub place_is : IsPlace h program earlier later place
  pub start : AtStart (reverse earlier)
  pub lines : LinesAfter h (reverse earlier) later

-- ---- the places of all sequences

-- The sequence of the unit with this index begins at this place of the program.
pub record IsPlaceOf (unit : UnitParts) (program : List ℕ) (index place : ℕ) : Type 0 where
  pub earlier : List Op
  pub later : List Op
  pub ops_are : unit.ops ≡ earlier ++ later
  pub place_is : IsSequencePlace unit.header.numbers program earlier later place
  pub index_is : index ≡ length (sequences_of (rows_of_ops unit.header.numbers earlier))

-- a header, the bytes of a program, and places in it
pub record KeptProgram : Type 0 where
  pub header : HeaderParts
  pub program : List ℕ
  pub places : List ℕ

-- The header is the unit's, and the places are those of its sequences in this program, in order. So if the unit has a sequence,
-- the program encodes its operations.
pub record KeepsProgram (kept : KeptProgram) (unit : UnitParts) : Type 0 where
  pub header_is : kept.header ≡ unit.header
  pub count : length kept.places ≡ length (sequences unit)
  pub places : (k d : ℕ) → k < length kept.places → IsPlaceOf unit kept.program k (slice_index_or kept.places k d)

-- it is kept of some unit
pub record IsKeptProgram (kept : KeptProgram) : Type 0 where
  pub unit : UnitParts
  pub keeps : KeepsProgram kept unit
