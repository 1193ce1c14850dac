-- The operations of a line number program (DWARF 5, sections 6.2.5 and 7.22).
use Rattle.std.specs.Prelude.{◌≡◌, ℕ, ◌<◌, ◌≤◌, List, [], ◌∷◌, length}
use Rattle.lnt_wire.specs.Bytes.{Exactly, ◌⨾◌}
use Rattle.lnt_wire.specs.Leb128.{UnsignedLeb, SignedLeb}
use Rattle.lnt_wire.specs.Numbers.{NumberBytes}
use Rattle.lnt_header.specs.declared.numbers.NumberParts.{NumberParts}
use Rattle.lnt_header.specs.declared.op.Op.{Op}
use Rattle.lnt_header.specs.Joins.{Each}
use Rattle.lnt_header.specs.OpRules.{Coding, coding, IsUnknownCode, last_known, Operand, standard_length, AreOperands}
use Rattle.lnt_header.specs.OpRules.Coding.{special, standard, unknown_standard, extended, extended_number, extended_address}
use Rattle.lnt_header.specs.OpRules.Coding.{unknown_extended}
use Rattle.lnt_header.specs.OpRules.Operand.{bare, unsigned, signed, half}
use Rattle.lnt_header.specs.declared.op.Operands.{Operands}

-- a standard opcode and its operand
abbrev pub Standard : NumberParts → ℕ → (List ℕ → Type 0) → List ℕ → Type 0
Standard h k Operand bytes = (k < h.opcode_base) × (Exactly (k ∷ []) ⨾ Operand) bytes

-- A zero byte, the length of what follows, and that: a code and its operand.
abbrev pub Extended : ℕ → (List ℕ → Type 0) → List ℕ → Type 0
Extended code Operand bytes =
    (rest : List ℕ) × (Exactly (code ∷ []) ⨾ Operand) rest × (Exactly (0 ∷ []) ⨾ UnsignedLeb (length rest) ⨾ Exactly rest) bytes

-- the bytes of the operand of a standard operation
abbrev pub OperandBytes : NumberParts → Operand → List ℕ → Type 0
OperandBytes h bare = Exactly []
OperandBytes h (unsigned n) = UnsignedLeb n
OperandBytes h (signed z) = SignedLeb z
OperandBytes h (half n) = NumberBytes h.order 2 n

-- the bytes of an opcode and its operand in a unit with this header
abbrev pub CodingBytes : NumberParts → Coding → List ℕ → Type 0
CodingBytes h (special c) bytes = (h.opcode_base ≤ c) × (c < 256) × (bytes ≡ c ∷ [])
CodingBytes h (standard k operand) bytes = Standard h k (OperandBytes h operand) bytes
CodingBytes h (unknown_standard k operands) bytes =
    (last_known < k) × (length operands ≡ standard_length h k) × Standard h k (Each UnsignedLeb operands) bytes
CodingBytes h (extended code) bytes = Extended code (Exactly []) bytes
CodingBytes h (extended_number code n) bytes = Extended code (UnsignedLeb n) bytes
CodingBytes h (extended_address code address) bytes = Extended code (NumberBytes h.order h.address_size address) bytes
CodingBytes h (unknown_extended code operand) bytes = IsUnknownCode code × (code < 256) × Extended code (Exactly operand) bytes

-- The bytes of an operation in a unit with this header.
abbrev pub OpBytes : NumberParts → Op → List ℕ → Type 0
OpBytes h op bytes = CodingBytes h (coding op) bytes

-- ---- the operands of unknown standard operations as lists. No public contract speaks of these.

-- the operands are some numbers
pub record IsOperands (operands : Operands) : Type 0 where
  pub numbers : List ℕ
  pub are : AreOperands operands numbers

-- the bytes encode some numbers
pub record SpellsNumbers (bytes : List ℕ) : Type 0 where
  pub numbers : List ℕ
  pub spelled : Each UnsignedLeb numbers bytes
