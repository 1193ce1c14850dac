-- The registers after some operations (DWARF 5, sections 6.2.2 and 6.2.5). There is no machine here: each
-- register is a sum over operations, or a look back at the last one of a kind.
-- A list of operations that were done has the newest first: `back` is such a list, and `op ∷ back` is that list and one more.
use Rattle.std.specs.Prelude.{ℕ, ◌+◌, ◌-◌, ◌*◌, ◌/◌, ◌%◌, ◌^◌, ◌==◌, Bool, true, false, not, cond, List, [], ◌∷◌}
use Rattle.std.specs.Prelude.{Option, Some, None, unwrap_or, ℤ, pos, ◌+ℤ◌, ◌≤ℤ◌, ◌<ℤ◌, unsigned_abs}
use Rattle.std.specs.List.{list_any}
use Rattle.lnt_header.specs.declared.numbers.NumberParts.{NumberParts}
use Rattle.lnt_header.specs.declared.op.Op.{Op}
use Rattle.lnt_header.specs.declared.op.Op.TheVariants.{Special, Copy, AdvancePc, AdvanceLine, SetFile, SetColumn, NegateStmt}
use Rattle.lnt_header.specs.declared.op.Op.TheVariants.{SetBasicBlock, ConstAddPc, FixedAdvancePc, SetPrologueEnd, SetEpilogueBegin, SetIsa}
use Rattle.lnt_header.specs.declared.op.Op.TheVariants.{EndSequence, SetAddress, SetDiscriminator}
pub use Rattle.lnt_machine.specs.declared.row.Row.{Row}

-- ---- looking back

-- what was done since the last operation that the test passes, or all if there is none
abbrev pub since : (Op → Bool) → List Op → List Op
since test [] = []
since test (op ∷ back) = cond (test op) [] (op ∷ since test back)

-- what the newest operation gives of those for which `gives` has a value, or the default if it has none
abbrev pub newest : {X : Type 0} → (Op → Option X) → X → List Op → X
newest gives default [] = default
newest gives default (op ∷ back) = unwrap_or (gives op) (newest gives default back)

abbrev pub is_end : Op → Bool
is_end EndSequence = true
is_end _ = false

abbrev pub is_copy_or_special : Op → Bool
is_copy_or_special Copy = true
is_copy_or_special (Special c) = true
is_copy_or_special _ = false

-- what was done in the current sequence
abbrev pub part : List Op → List Op
part back = since is_end back

-- what was done in it after the last Copy or Special
abbrev pub after_row : List Op → List Op
after_row back = since is_copy_or_special (part back)

-- ---- the place

-- the operation advance of a special opcode
abbrev pub advance_of_special : NumberParts → ℕ → ℕ
advance_of_special h c = (c - h.opcode_base) / h.line_range

-- the operation advance of an operation
abbrev pub advance_of : NumberParts → Op → ℕ
advance_of h (AdvancePc n) = n
advance_of h (Special c) = advance_of_special h c
advance_of h ConstAddPc = advance_of_special h 255
advance_of h _ = 0

-- the sum of the advances after the last SetAddress or FixedAdvancePc of the current sequence, or in all of it
abbrev pub advances : NumberParts → List Op → ℕ
advances h [] = 0
advances h (EndSequence ∷ back) = 0
advances h (SetAddress a ∷ back) = 0
advances h (FixedAdvancePc n ∷ back) = 0
advances h (op ∷ back) = advance_of h op + advances h back

-- the address after an operation advance of n from operation 0 of the instruction at `from` (DWARF 5, section 6.2.5.1)
abbrev pub moved : NumberParts → ℕ → ℕ → ℕ
moved h from n = (from + h.minimum_instruction_length * (n / h.max_ops)) % 2 ^ (8 * h.address_size)

-- What the advances count from: the operand of the last SetAddress; or that of the last FixedAdvancePc, added to
-- the address before it; or 0, the address at the start of a sequence.
abbrev pub base : NumberParts → List Op → ℕ
base h [] = 0
base h (EndSequence ∷ back) = 0
base h (SetAddress a ∷ back) = a
base h (FixedAdvancePc n ∷ back) = moved h (base h back) (advances h back) + n
base h (op ∷ back) = base h back

abbrev pub address : NumberParts → List Op → ℕ
address h back = moved h (base h back) (advances h back)

abbrev pub op_index : NumberParts → List Op → ℕ
op_index h back = advances h back % h.max_ops

-- ---- the line

-- by how much an operation advances the line
abbrev pub line_increment : NumberParts → Op → ℤ
line_increment h (AdvanceLine z) = z
line_increment h (Special c) = h.line_base +ℤ pos ((c - h.opcode_base) % h.line_range)
line_increment h _ = pos 0

-- the sum of the increments
abbrev pub line_sum : NumberParts → List Op → ℤ
line_sum h [] = pos 0
line_sum h (op ∷ back) = line_increment h op +ℤ line_sum h back

abbrev pub line : NumberParts → List Op → ℤ
line h back = pos 1 +ℤ line_sum h (part back)

-- the lines that a program may reach
abbrev pub IsLine : ℤ → Type 0
IsLine z = (pos 0 ≤ℤ z) × (z <ℤ pos (2 ^ 32))

-- ---- registers that are set

abbrev pub file_set : Op → Option ℕ
file_set (SetFile n) = Some n
file_set _ = None

abbrev pub column_set : Op → Option ℕ
column_set (SetColumn n) = Some n
column_set _ = None

abbrev pub isa_set : Op → Option ℕ
isa_set (SetIsa n) = Some n
isa_set _ = None

abbrev pub discriminator_set : Op → Option ℕ
discriminator_set (SetDiscriminator n) = Some n
discriminator_set _ = None

abbrev pub file : List Op → ℕ
file back = newest file_set 1 (part back)

abbrev pub column : List Op → ℕ
column back = newest column_set 0 (part back)

abbrev pub isa : List Op → ℕ
isa back = newest isa_set 0 (part back)

abbrev pub discriminator : List Op → ℕ
discriminator back = newest discriminator_set 0 (after_row back)

-- ---- flags

-- b, inverted once for each NegateStmt in the list
abbrev pub inverted : Bool → List Op → Bool
inverted b [] = b
inverted b (NegateStmt ∷ back) = not (inverted b back)
inverted b (op ∷ back) = inverted b back

abbrev pub is_stmt : NumberParts → List Op → Bool
is_stmt h back = inverted (not (h.default_is_stmt == 0)) (part back)

abbrev pub is_set_basic_block : Op → Bool
is_set_basic_block SetBasicBlock = true
is_set_basic_block _ = false

abbrev pub is_set_prologue_end : Op → Bool
is_set_prologue_end SetPrologueEnd = true
is_set_prologue_end _ = false

abbrev pub is_set_epilogue_begin : Op → Bool
is_set_epilogue_begin SetEpilogueBegin = true
is_set_epilogue_begin _ = false

abbrev pub basic_block : List Op → Bool
basic_block back = list_any is_set_basic_block (after_row back)

abbrev pub prologue_end : List Op → Bool
prologue_end back = list_any is_set_prologue_end (after_row back)

abbrev pub epilogue_begin : List Op → Bool
epilogue_begin back = list_any is_set_epilogue_begin (after_row back)

-- ---- all of them

-- The registers between two operations. The line is the absolute value of `line`, which is the same if that isn't below 0.
abbrev pub registers_after : NumberParts → List Op → Row
registers_after h back = record {
  address = address h back;
  op_index = op_index h back;
  file = file back;
  line = unsigned_abs (line h back);
  column = column back;
  isa = isa back;
  discriminator = discriminator back;
  is_stmt = is_stmt h back;
  basic_block = basic_block back;
  end_sequence = false;
  prologue_end = prologue_end back;
  epilogue_begin = epilogue_begin back;
}
