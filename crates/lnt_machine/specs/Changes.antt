-- How an operation changes the registers (DWARF 5, section 6.2.5). No public contract speaks of it.
use Rattle.std.specs.Prelude.{◌≡◌, ℕ, ◌+◌, ◌*◌, ◌/◌, ◌%◌, ◌^◌, ◌==◌, ◌<◌, ◌≤◌, true, false, not, [], Option, Some, None}
use Rattle.std.specs.Prelude.{ℤ, pos, ◌+ℤ◌, unsigned_abs}
use Rattle.lnt_header.specs.declared.numbers.NumberParts.{NumberParts}
use Rattle.lnt_header.specs.declared.op.Op.{Op}
use Rattle.lnt_header.specs.declared.op.Op.TheVariants.{Special, Copy, AdvancePc, AdvanceLine, SetFile, SetColumn, NegateStmt}
use Rattle.lnt_header.specs.declared.op.Op.TheVariants.{SetBasicBlock, ConstAddPc, FixedAdvancePc, SetPrologueEnd, SetEpilogueBegin, SetIsa}
use Rattle.lnt_header.specs.declared.op.Op.TheVariants.{EndSequence, SetAddress, SetDiscriminator}
use Rattle.lnt_header.specs.declared.op.OpView.{OpView}
use Rattle.lnt_header.specs.OpRules.{op_of}
use Rattle.lnt_machine.specs.Registers.{IsLine, advance_of_special, line_increment, Row}

-- the operation that a view stands for, except the operands of an unknown standard one, which change nothing
abbrev pub plain : OpView → Op
plain view = op_of view []

-- The requirements of an operation: a special opcode isn't below the first one, and an address fits the address size.
abbrev pub IsAllowed : NumberParts → Op → Type 0
IsAllowed h (Special c) = h.opcode_base ≤ c
IsAllowed h (SetAddress a) = a < 256 ^ h.address_size
IsAllowed h _ = Unit {0}

-- the registers at the start of a sequence
abbrev pub initial_registers : NumberParts → Row
initial_registers h = record {
  address = 0;
  op_index = 0;
  file = 1;
  line = 1;
  column = 0;
  isa = 0;
  discriminator = 0;
  is_stmt = not (h.default_is_stmt == 0);
  basic_block = false;
  end_sequence = false;
  prologue_end = false;
  epilogue_begin = false;
}

-- the registers after an operation advance of n
abbrev pub advanced : NumberParts → Row → ℕ → Row
advanced h r n = record r {
  address = (r.address + h.minimum_instruction_length * ((r.op_index + n) / h.max_ops)) % 2 ^ (8 * h.address_size);
  op_index = (r.op_index + n) % h.max_ops;
}

-- the registers after a row
abbrev pub without_flags : Row → Row
without_flags r = record r { discriminator = 0; basic_block = false; prologue_end = false; epilogue_begin = false }

-- the line that an operation leads to
abbrev pub line_reached : NumberParts → Row → Op → ℤ
line_reached h r op = pos r.line +ℤ line_increment h op

-- the registers of the row of a special opcode
abbrev pub special_row : NumberParts → Row → ℕ → Row
special_row h r c = record (advanced h r (advance_of_special h c)) { line = unsigned_abs (line_reached h r (Special c)) }

-- the registers after an operation that neither appends a row nor changes the line
abbrev pub set_by : NumberParts → Row → Op → Row
set_by h r (AdvancePc n) = advanced h r n
set_by h r (SetFile n) = record r { file = n }
set_by h r (SetColumn n) = record r { column = n }
set_by h r NegateStmt = record r { is_stmt = not r.is_stmt }
set_by h r SetBasicBlock = record r { basic_block = true }
set_by h r ConstAddPc = advanced h r (advance_of_special h 255)
set_by h r (FixedAdvancePc n) = record r { address = (r.address + n) % 2 ^ (8 * h.address_size); op_index = 0 }
set_by h r SetPrologueEnd = record r { prologue_end = true }
set_by h r SetEpilogueBegin = record r { epilogue_begin = true }
set_by h r (SetIsa n) = record r { isa = n }
set_by h r (SetAddress a) = record r { address = a; op_index = 0 }
set_by h r (SetDiscriminator n) = record r { discriminator = n }
set_by h r _ = r

-- the registers after an operation
abbrev pub changed : NumberParts → Row → Op → Row
changed h r (Special c) = without_flags (special_row h r c)
changed h r Copy = without_flags r
changed h r EndSequence = initial_registers h
changed h r (AdvanceLine z) = record r { line = unsigned_abs (line_reached h r (AdvanceLine z)) }
changed h r op = set_by h r op

-- the row that an operation appends, if any
abbrev pub made : NumberParts → Row → Op → Option Row
made h r (Special c) = Some (special_row h r c)
made h r Copy = Some r
made h r EndSequence = Some (record r { end_sequence = true })
made h r _ = None

-- The operation was done: the line is in range, the registers changed, and the row was appended.
pub record Changes (h : NumberParts) (op : Op) (old new : Row) (row : Option Row) : Type 0 where
  pub line : IsLine (line_reached h old op)
  pub new_is : new ≡ changed h old op
  pub row_is : row ≡ made h old op
