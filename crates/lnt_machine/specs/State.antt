-- What contracts see of a machine, and the lists of operations that it stands after.
use Rattle.std.specs.Prelude.{◌≡◌, ℕ, ◌*◌, ◌^◌, ◌<◌, List, ◌+◌, ◌-◌, min, ◌∷◌, Option}
use Rattle.lnt_header.specs.declared.numbers.NumberParts.{NumberParts}
use Rattle.lnt_header.specs.declared.op.Op.{Op}
use Rattle.lnt_machine.specs.Registers.{IsLine, line, registers_after}
use Rattle.lnt_header.specs.declared.op.OpView.{OpView}
use Rattle.lnt_header.specs.OpRules.{StandsFor}
use Rattle.lnt_machine.specs.Matrix.{row_made, Row}

-- the numbers of the header with which operations are read, the registers, and the number of operations done
pub record MachineState : Type 0 where
  pub numbers : NumberParts
  pub registers : Row
  pub count : ℕ

-- The machine stands after the operations of `back`, the newest first: its registers are those that these operations give,
-- and their line is in range.
pub record StandsAfter (machine : MachineState) (back : List Op) : Type 0 where
  pub registers : machine.registers ≡ registers_after machine.numbers back
  pub line : IsLine (line machine.numbers back)

-- the bounds of the registers of every machine
pub record IsBounded (h : NumberParts) (registers : Row) : Type 0 where
  pub address : registers.address < 2 ^ (8 * h.address_size)
  pub op_index : registers.op_index < h.max_ops
  pub line : registers.line < 2 ^ 32

-- ---- what a step of a machine does

-- The operation was done: for each list after which the machine stood, it now stands after that list with this operation
-- appended, and the row is the one that this operation appends after that list.
pub record Does (view : OpView) (old new : MachineState) (row : Option Row) : Type 0 where
  pub stands : (back : List Op) (op : Op) → StandsAfter old back → StandsFor view op → StandsAfter new (op ∷ back)
  pub row_is : (back : List Op) (op : Op) → StandsAfter old back → StandsFor view op → row ≡ row_made old.numbers back op
  pub numbers : new.numbers ≡ old.numbers

-- The operation was done and counted: the count increases by 1, up to the greatest number.
pub record Steps (view : OpView) (old new : MachineState) (row : Option Row) : Type 0 where
  pub done : Does view old new row
  pub count : new.count ≡ min (old.count + 1) (2 ^ 64 - 1)

-- For each list after which the machine stands, the line is out of range with this operation appended.
abbrev pub LeavesRange : OpView → MachineState → Type 0
LeavesRange view machine =
    (back : List Op) (op : Op) → StandsAfter machine back → StandsFor view op → IsLine (line machine.numbers (op ∷ back)) → ⊥
