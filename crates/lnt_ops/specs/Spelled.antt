-- Which operations have bytes (DWARF 5, section 6.2.5).
use Rattle.std.specs.Prelude.{◌+◌, ◌^◌, ◌<◌, length, FitsSigned}
use Rattle.std.specs.Int.{w64}
use Rattle.std.specs.List.{AllByRecursion}
use Rattle.lnt_header.specs.declared.op.Op.{Op}
use Rattle.lnt_header.specs.OpRules.{Coding, coding, Operand}
use Rattle.lnt_header.specs.OpRules.Coding.{special, standard, unknown_standard, extended, extended_number, extended_address}
use Rattle.lnt_header.specs.OpRules.Coding.{unknown_extended}
use Rattle.lnt_header.specs.OpRules.Operand.{bare, unsigned, signed, half}

-- a number that the operand of a standard operation can encode
abbrev pub FitsOperand : Operand → Type 0
FitsOperand bare = Unit {0}
FitsOperand (unsigned n) = n < 2 ^ 64
FitsOperand (signed z) = FitsSigned w64 z
FitsOperand (half n) = n < 2 ^ 16

-- numbers that an opcode and its operand can encode; that an address fits the address size is the header's rule
abbrev pub FitsCoding : Coding → Type 0
FitsCoding (special c) = c < 2 ^ 8
FitsCoding (standard k operand) = FitsOperand operand
FitsCoding (unknown_standard k operands) = AllByRecursion (λ n. n < 2 ^ 64) operands
FitsCoding (extended code) = Unit {0}
FitsCoding (extended_number code n) = n < 2 ^ 64
FitsCoding (extended_address code address) = Unit {0}
FitsCoding (unknown_extended code operand) = (code < 2 ^ 8) × (length operand + 1 < 2 ^ 64)

-- The numbers of an operation are ones that its opcode and its operands can encode. An `Op` holds no others.
abbrev pub FitsOp : Op → Type 0
FitsOp op = FitsCoding (coding op)
