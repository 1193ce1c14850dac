-- The rows of small units, computed from the definitions: nothing here is proved of the code.
use Rattle.std.proofs.Common.{◌≡◌, ℕ, zero, suc, ◌≤◌, Bool, true, false, List, [], ◌∷◌, refl, lit<, arith, pos, negsuc, map, length}
use Rattle.std.proofs.lemmas.Int.{ints}
use Rattle.lnt_wire.specs.declared.format.Order.TheVariants.{Little}
use Rattle.lnt_wire.specs.declared.format.Format.TheVariants.{D32}
use Rattle.lnt_header.specs.declared.unit_parts.UnitParts.{UnitParts}
use Rattle.lnt_header.specs.declared.op.Op.{Op}
use Rattle.lnt_header.specs.declared.op.Op.TheVariants.{Special, Copy, AdvancePc, AdvanceLine, SetFile, NegateStmt}
use Rattle.lnt_header.specs.declared.op.Op.TheVariants.{SetBasicBlock, ConstAddPc, FixedAdvancePc, SetPrologueEnd}
use Rattle.lnt_header.specs.declared.op.Op.TheVariants.{UnknownStandard, EndSequence, SetAddress, SetDiscriminator}
use Rattle.lnt_header.specs.OpRules.{known_lengths}
use Rattle.lnt_machine.specs.declared.fault.RunFault.TheVariants.{LineOutOfRange}
use Rattle.lnt_machine.specs.Registers.{line, IsLine}
use Rattle.lnt_machine.specs.Matrix.{done, IsRunFault, joined_rows, rows, sequences, Row}

-- A unit whose header has these numbers: minimum_instruction_length, max_ops, opcode_base and the standard lengths. Rows depend
-- on no table.
abbrev unit_of : ℕ → ℕ → ℕ → List ℕ → List Op → UnitParts
unit_of minimum max_ops opcode_base lengths ops = record {
  header = record {
    format = D32;
    numbers = record {
      order = Little;
      address_size = 8;
      minimum_instruction_length = minimum;
      max_ops = max_ops;
      default_is_stmt = 1;
      line_base = negsuc 4;
      line_range = 14;
      opcode_base = opcode_base;
      standard_lengths = lengths;
    };
    directory_format = [];
    directories = [];
    file_format = [];
    files = [];
    extra = [];
  };
  ops = ops;
}

-- one operation an instruction, which has one byte
abbrev simple : List Op → UnitParts
simple ops = unit_of 1 1 13 known_lengths ops

-- what most units show of a row: address, op_index, line, end_sequence
abbrev shown : Row → ℕ × ℕ × ℕ × Bool
shown row = (row.address, row.op_index, row.line, row.end_sequence)

abbrev plain : UnitParts
plain = simple (SetAddress 0x1000 ∷ Special 20 ∷ Special 75 ∷ AdvancePc 2 ∷ EndSequence ∷ [])

plain_rows : map shown (rows plain) ≡ (0x1000, 0, 3, false) ∷ (0x1004, 0, 4, false) ∷ (0x1006, 0, 4, true) ∷ []
plain_rows = refl

plain_sequences : sequences plain ≡ record { rows = rows plain } ∷ []
plain_sequences = refl

abbrev two_rows_at_one_address : UnitParts
two_rows_at_one_address = simple (SetAddress 0x1000 ∷ Special 20 ∷ AdvanceLine (pos 6) ∷ Copy ∷ AdvancePc 4 ∷ EndSequence ∷ [])

two_rows_at_one_address_rows : map shown (rows two_rows_at_one_address) ≡ (0x1000, 0, 3, false) ∷ (0x1000, 0, 9, false) ∷
    (0x1004, 0, 9, true) ∷ []
two_rows_at_one_address_rows = refl

-- instructions of 16 bytes
abbrev three_operations_per_instruction : UnitParts
three_operations_per_instruction = unit_of 16 3 13 known_lengths (
    SetAddress 0x2000 ∷ Special 20 ∷ AdvancePc 2 ∷ Copy ∷ AdvancePc 2 ∷ AdvanceLine (pos 1) ∷ Copy ∷ AdvancePc 2 ∷ EndSequence ∷ [])

three_operations_per_instruction_rows : map shown (rows three_operations_per_instruction) ≡ (0x2000, 0, 3, false) ∷ (0x2000, 2, 3, false) ∷
    (0x2010, 1, 4, false) ∷ (0x2020, 0, 4, true) ∷ []
three_operations_per_instruction_rows = refl

-- the advance of special opcode 255
abbrev const_add_pc : UnitParts
const_add_pc = simple (SetAddress 0x1000 ∷ Special 20 ∷ ConstAddPc ∷ Copy ∷ AdvancePc 1 ∷ EndSequence ∷ [])

const_add_pc_rows : map shown (rows const_add_pc) ≡ (0x1000, 0, 3, false) ∷ (0x1011, 0, 3, false) ∷ (0x1012, 0, 3, true) ∷ []
const_add_pc_rows = refl

-- an unscaled advance from within an instruction of 4 bytes
abbrev fixed_advance_pc : UnitParts
fixed_advance_pc =
    unit_of 4 2 13 known_lengths (SetAddress 0x1000 ∷ Special 20 ∷ AdvancePc 1 ∷ FixedAdvancePc 5 ∷ Copy ∷ AdvancePc 2 ∷ EndSequence ∷ [])

fixed_advance_pc_rows : map shown (rows fixed_advance_pc) ≡ (0x1000, 0, 3, false) ∷ (0x1005, 0, 3, false) ∷ (0x1009, 0, 3, true) ∷ []
fixed_advance_pc_rows = refl

-- special opcodes from 10 on
abbrev opcode_base_10 : UnitParts
opcode_base_10 =
    unit_of 1 1 10 (0 ∷ 1 ∷ 1 ∷ 1 ∷ 1 ∷ 0 ∷ 0 ∷ 0 ∷ 1 ∷ [])
    (SetAddress 0x1000 ∷ AdvanceLine (pos 9) ∷ Special 10 ∷ AdvancePc 2 ∷ EndSequence ∷ [])

opcode_base_10_rows : map shown (rows opcode_base_10) ≡ (0x1000, 0, 5, false) ∷ (0x1002, 0, 5, true) ∷ []
opcode_base_10_rows = refl

-- unknown standard opcodes, with operands and without
abbrev opcode_base_15 : UnitParts
opcode_base_15 = unit_of 1 1 15 (0 ∷ 1 ∷ 1 ∷ 1 ∷ 1 ∷ 0 ∷ 0 ∷ 0 ∷ 1 ∷ 0 ∷ 0 ∷ 1 ∷ 2 ∷ 0 ∷ []) (
    SetAddress 0x1000 ∷ UnknownStandard 13 (128 ∷ 5 ∷ []) ∷ UnknownStandard 14 [] ∷ Special 22 ∷ AdvancePc 2 ∷ EndSequence ∷ [])

opcode_base_15_rows : map shown (rows opcode_base_15) ≡ (0x1000, 0, 3, false) ∷ (0x1002, 0, 3, true) ∷ []
opcode_base_15_rows = refl

-- the line goes from 1 to -1 by the second operation
abbrev line_below_zero : UnitParts
line_below_zero = simple (SetAddress 0x1000 ∷ AdvanceLine (negsuc 1) ∷ Copy ∷ AdvancePc 2 ∷ EndSequence ∷ [])

-- what holds of 0 and of 1
up_to_one : (P : ℕ → Type 0) → P 0 → P 1 → (j : ℕ) → j ≤ 1 → P j
up_to_one P none one zero le = none
up_to_one P none one (suc zero) le = one
up_to_one P none one (suc (suc j)) le = absurd (omega arith)

line_below_zero_fault : IsRunFault line_below_zero (LineOutOfRange 1)
line_below_zero_fault =
    let first : IsLine (pos 1) = (omega (arith, ints), omega (arith, ints)) in (
      lit< tt,
      up_to_one (λ j. IsLine (line line_below_zero.header.numbers (done line_below_zero.ops j))) first first,
      λ fits. omega (arith, ints, fits.0),
    )

abbrev file_zero : UnitParts
file_zero = simple (SetAddress 0x1000 ∷ SetFile 0 ∷ Special 20 ∷ Special 75 ∷ AdvancePc 2 ∷ EndSequence ∷ [])

file_zero_rows : map (λ row. row.file) (rows file_zero) ≡ 0 ∷ 0 ∷ 0 ∷ []
file_zero_rows = refl

-- the address goes past the last one of 8 bytes
abbrev address_wraps : UnitParts
address_wraps = simple (SetAddress 0xffff_ffff_ffff_fff0 ∷ Special 20 ∷ AdvancePc 16 ∷ EndSequence ∷ [])

address_wraps_rows : map shown (rows address_wraps) ≡ (0xffff_ffff_ffff_fff0, 0, 3, false) ∷ (0, 0, 3, true) ∷ []
address_wraps_rows = refl

-- the flags and the discriminator of the first row are gone in the second
abbrev flags_and_discriminator : UnitParts
flags_and_discriminator =
    simple (SetAddress 0x1000 ∷ SetDiscriminator 7 ∷ SetBasicBlock ∷ SetPrologueEnd ∷ Special 20 ∷ Special 75 ∷ AdvancePc 2 ∷ EndSequence ∷
    [])

-- basic_block, prologue_end, epilogue_begin, discriminator
abbrev flags : Row → Bool × Bool × Bool × ℕ
flags row = (row.basic_block, row.prologue_end, row.epilogue_begin, row.discriminator)

flags_and_discriminator_rows : map flags (rows flags_and_discriminator)
    ≡ (true, true, false, 7) ∷ (false, false, false, 0) ∷ (false, false, false, 0) ∷ []
flags_and_discriminator_rows = refl

-- is_stmt is inverted in the first sequence alone
abbrev two_sequences : UnitParts
two_sequences = simple (
    SetAddress 0x1000 ∷ NegateStmt ∷ Special 20 ∷ AdvancePc 1 ∷ EndSequence ∷ SetAddress 0x2000 ∷ Special 20 ∷ AdvancePc 1 ∷ EndSequence ∷
    [])

-- address, is_stmt, end_sequence
abbrev statements : Row → ℕ × Bool × Bool
statements row = (row.address, row.is_stmt, row.end_sequence)

two_sequences_rows : map statements (rows two_sequences)
    ≡ (0x1000, false, false) ∷ (0x1001, false, true) ∷ (0x2000, true, false) ∷ (0x2001, true, true) ∷ []
two_sequences_rows = refl

two_sequences_sizes : map (λ sequence. length sequence.rows) (sequences two_sequences) ≡ 2 ∷ 2 ∷ []
two_sequences_sizes = refl

-- the plain unit without its end: rows that stand in no sequence
abbrev open_sequence : UnitParts
open_sequence = simple (SetAddress 0x1000 ∷ Special 20 ∷ Special 75 ∷ AdvancePc 2 ∷ [])

open_sequence_rows : map shown (rows open_sequence) ≡ (0x1000, 0, 3, false) ∷ (0x1004, 0, 4, false) ∷ []
open_sequence_rows = refl

open_sequence_joined : joined_rows (sequences open_sequence) ≡ []
open_sequence_joined = refl

-- a unit without operations has no sequence
without_program : sequences (simple []) ≡ []
without_program = refl
