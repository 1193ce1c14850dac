-- What is wrong with bytes that don't begin with an operation (DWARF 5, section 6.2.5).
--     before   the bytes up to the place of the fault
--     left     the bytes from the place on, up to the end of the program
use Rattle.std.specs.Prelude.{◌≡◌, ℕ, ◌+◌, ◌<◌, List, [], ◌∷◌, ◌++◌, length}
use Rattle.lnt_wire.specs.declared.fault.Reason.{Reason}
use Rattle.lnt_wire.specs.declared.fault.Reason.TheVariants.{Truncated, LebTooLarge, ExtendedLength}
use Rattle.lnt_wire.specs.Leb128.{IsLeb, UnsignedLeb, IsLargeUnsigned, IsLargeSigned, IsLebFault}
use Rattle.lnt_header.specs.declared.numbers.NumberParts.{NumberParts}
use Rattle.lnt_header.specs.FieldFaults.{IsCutField, IsLargeLeb, IsWrongLength}
use Rattle.lnt_header.specs.Joins.{Each}
use Rattle.lnt_header.specs.OpRules.{following, last_known, standard_length, taken_by}
use Rattle.lnt_header.specs.OpRules.Following.{one_signed, one_unsigned, two_bytes}
use Rattle.lnt_header.specs.OpRules.Taken.{takes_number}

-- A field is truncated, a number is out of range, or a length after a zero byte isn't that of its operation.
pub data IsOpFault (address_size : ℕ) (reason : Reason) (before left : List ℕ) : Type 0 where
  cut_field : reason ≡ Truncated → IsCutField before left → IsOpFault address_size reason before left
  large_number : reason ≡ LebTooLarge → IsLargeLeb left → IsOpFault address_size reason before left
  wrong_length : (earlier : List ℕ) → reason ≡ ExtendedLength → before ≡ earlier ++ 0 ∷ [] → IsWrongLength address_size left
      → IsOpFault address_size reason before left

-- A zero byte, the length, and a code that takes a number precede the number of an extended operation.
abbrev pub IsBeforeNumber : List ℕ → List ℕ → Type 0
IsBeforeNumber spelling before = (code : ℕ) × (taken_by code ≡ takes_number) × (before ≡ 0 ∷ (spelling ++ code ∷ []))

-- The first field of an operation that isn't valid, by the fields of the operation before it. If all bytes that a length
-- counts are there, they are judged together.
pub data IsFirstFault (h : NumberParts) (reason : Reason) (before left : List ℕ) : Type 0 where
  no_opcode : reason ≡ Truncated → before ≡ [] → left ≡ [] → IsFirstFault h reason before left
  unsigned_operand : (k : ℕ) → following k ≡ one_unsigned → k < h.opcode_base → before ≡ k ∷ [] → IsLebFault IsLargeUnsigned reason left
      → IsFirstFault h reason before left
  signed_operand : (k : ℕ) → following k ≡ one_signed → k < h.opcode_base → before ≡ k ∷ [] → IsLebFault IsLargeSigned reason left
      → IsFirstFault h reason before left
  fixed_operand : (k : ℕ) → reason ≡ Truncated → following k ≡ two_bytes → k < h.opcode_base → before ≡ k ∷ [] → length left < 2
      → IsFirstFault h reason before left
  unknown_operand : (k : ℕ) (operands spelling : List ℕ) → last_known < k → k < h.opcode_base → Each UnsignedLeb operands spelling
      → length operands < standard_length h k → before ≡ k ∷ spelling
      → IsLebFault IsLargeUnsigned reason left → IsFirstFault h reason before left
  no_length : before ≡ 0 ∷ [] → IsLebFault IsLargeUnsigned reason left → IsFirstFault h reason before left
  cut_counted : (n : ℕ) (spelling : List ℕ) → reason ≡ Truncated → UnsignedLeb n spelling → before ≡ 0 ∷ spelling → length left < n
      → IsFirstFault h reason before left
  wrong_counted : reason ≡ ExtendedLength → before ≡ 0 ∷ [] → IsWrongLength h.address_size left → IsFirstFault h reason before left
  large_counted : (spelling operand rest : List ℕ) → reason ≡ LebTooLarge → UnsignedLeb (length operand + 1) spelling
      → IsBeforeNumber spelling before → left ≡ operand ++ rest → IsLeb operand
      → IsLargeUnsigned operand → IsFirstFault h reason before left
