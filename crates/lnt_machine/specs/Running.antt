-- A program while it is run: what contracts see of it, and what an operation does to it (DWARF 5, section 6.2.5).
use Rattle.std.specs.Prelude.{◌≡◌, cond, List, [], ◌∷◌, ◌++◌, reverse, Bool, not, Option, Some, None}
use Rattle.lnt_header.specs.declared.numbers.NumberParts.{NumberParts}
use Rattle.lnt_header.specs.declared.op.Op.{Op}
use Rattle.lnt_header.specs.declared.op.Op.TheVariants.{EndSequence}
use Rattle.lnt_machine.specs.Matrix.{rows_after, sequences_of, Row}
use Rattle.std.specs.List.{list_any}
use Rattle.lnt_header.specs.declared.op.OpView.{OpView}
use Rattle.lnt_header.specs.OpRules.{StandsFor}
use Rattle.lnt_machine.specs.Registers.{is_copy_or_special, part}
use Rattle.lnt_machine.specs.State.{StandsAfter, MachineState, Steps}

-- ---- programs in parts, each of whole sequences (DWARF 5, section 6.2.5): the effect of an operation depends on nothing before
-- the last EndSequence.

-- After the operations of `back`, the newest first, a sequence begins: there are none, or the newest is an EndSequence.
abbrev pub AtStart : List Op → Type 0
AtStart [] = Unit {0}
AtStart (EndSequence ∷ back) = Unit {0}
AtStart (op ∷ back) = ⊥

-- the operations of whole sequences: there are none, or the last is an EndSequence
abbrev pub AreWhole : List Op → Type 0
AreWhole ops = AtStart (reverse ops)

-- the rows of operations, by this header
abbrev pub rows_of_ops : NumberParts → List Op → List Row
rows_of_ops h ops = rows_after h [] ops

-- the rows of the first sequence of some rows: up to and including the first end row
abbrev pub first_sequence : List Row → List Row
first_sequence [] = []
first_sequence (row ∷ rows) = row ∷ cond row.end_sequence [] (first_sequence rows)

-- The rows of a program with a prefix of whole sequences are the rows of that prefix, followed by those of the rest run as
-- a program of its own. So are its sequences.
pub record RowsOfParts : Type 0 where
  pub rows : (h : NumberParts) (prefix rest : List Op) → AreWhole prefix
      → rows_of_ops h (prefix ++ rest) ≡ rows_of_ops h prefix ++ rows_of_ops h rest
  pub sequences : (h : NumberParts) (prefix rest : List Op) → AreWhole prefix
      → sequences_of (rows_of_ops h (prefix ++ rest)) ≡ sequences_of (rows_of_ops h prefix) ++ sequences_of (rows_of_ops h rest)

-- ---- a program that is run

-- the machine, and whether rows follow the last end row
pub record RunState : Type 0 where
  pub machine : MachineState
  pub is_open : Bool

-- Whether rows follow the last end row: an operation of the current sequence appended one.
abbrev pub leaves_open : List Op → Bool
leaves_open back = list_any is_copy_or_special (part back)

-- The operations of `back` were run, the newest first: the machine stands after them, and it is known whether they leave rows
-- open.
pub record HasDone (run : RunState) (back : List Op) : Type 0 where
  pub machine : StandsAfter run.machine back
  pub open_is : run.is_open ≡ leaves_open back

-- whether rows follow the last end row, after the row that an operation appends, if any
abbrev pub open_with : Bool → Option Row → Bool
open_with before None = before
open_with before (Some row) = not row.end_sequence

-- The operation was run: the machine stepped, and whatever operations were run before, these and this one are now run.
pub record RunsOn (view : OpView) (old new : RunState) (row : Option Row) : Type 0 where
  pub machine : Steps view old.machine new.machine row
  pub open_is : new.is_open ≡ open_with old.is_open row
  pub done : (back : List Op) (op : Op) → HasDone old back → StandsFor view op → HasDone new (op ∷ back)
