-- What the steps of reading an operation have found. Public contracts speak of `GivesOp` alone.
use Rattle.lnt_wire.specs.Reading.{At, Reads}
use Rattle.lnt_header.specs.declared.numbers.NumberParts.{NumberParts}
use Rattle.lnt_header.specs.declared.op.Op.{Op}
use Rattle.lnt_header.specs.declared.op.OpView.{OpView}
use Rattle.lnt_header.specs.OpRules.{Admits, StandsFor, Coding, coding, FitsTaken, IsUnknownCode, taken_by}
use Rattle.lnt_ops.specs.OpBytes.{OpBytes}
use Rattle.std.specs.Prelude.{◌≡◌, ℕ, ◌+◌, ◌<◌, List, [], ◌∷◌, ◌++◌, length}
use Rattle.lnt_wire.specs.Bytes.{Exactly, ◌⨾◌}
use Rattle.lnt_wire.specs.declared.fault.Fault.{Fault}
use Rattle.lnt_wire.specs.declared.fault.Reason.TheVariants.{LebTooLarge, ExtendedLength}
use Rattle.lnt_wire.specs.Leb128.{IsLeb, UnsignedLeb, IsLargeUnsigned, IsLebFault}
use Rattle.lnt_wire.specs.Numbers.{NumberBytes}
use Rattle.lnt_header.specs.FieldFaults.{IsWrongOperand}
use Rattle.lnt_header.specs.Joins.{Each}
use Rattle.lnt_header.specs.OpRules.Coding.{extended, extended_number, extended_address, unknown_extended}
use Rattle.lnt_header.specs.OpRules.Taken.{takes_number}
use Rattle.lnt_ops.specs.OpFaults.{IsFirstFault}

-- ---- what a read of an operation gives

-- The view stands for an operation that the header admits, and the read moved past the bytes that encode it.
pub record GivesOp (h : NumberParts) (view : OpView) (old new : At) : Type 0 where
  pub op : Op
  pub stands : StandsFor view op
  pub admitted : Admits h op
  pub reads : Reads (OpBytes h) op old new

-- ---- after the first byte

-- the bytes of an operation after its first byte
pub record BytesAfter (h : NumberParts) (opcode : ℕ) (op : Op) (bytes : List ℕ) : Type 0 where
  pub whole : OpBytes h op (opcode ∷ bytes)

-- No operation can be read after its first byte: the fault is the first one, after the bytes `before`.
pub record RefusesAfter (h : NumberParts) (opcode : ℕ) (old : At) (fault : Fault) : Type 0 where
  pub before : List ℕ
  pub left : List ℕ
  pub split : old.rest ≡ before ++ left
  pub place : fault.place ≡ old.place + length before
  pub reason : IsFirstFault h fault.reason (opcode ∷ before) left

-- a read of an operation after its first byte
pub record GivesAfter (h : NumberParts) (opcode : ℕ) (view : OpView) (old new : At) : Type 0 where
  pub op : Op
  pub stands : StandsFor view op
  pub admitted : Admits h op
  pub reads : Reads (BytesAfter h opcode) op old new

-- the numbers that a standard operation has, as many as the count says, were passed
pub record PassesOperands (count : ℕ) (old new : At) : Type 0 where
  pub operands : List ℕ
  pub count_is : length operands ≡ count
  pub reads : Reads (Each UnsignedLeb) operands old new

-- there are fewer operands than the count says, and the next one can't be read
pub record RefusesOperands (count : ℕ) (old : At) (fault : Fault) : Type 0 where
  pub operands : List ℕ
  pub next : At
  pub reads : Reads (Each UnsignedLeb) operands old next
  pub fewer : length operands < count
  pub place : fault.place ≡ next.place
  pub reason : IsLebFault IsLargeUnsigned fault.reason next.rest

-- ---- extended operations

-- the bytes that the length of an extended operation counts: a code and its operand
abbrev pub ExtendedBody : NumberParts → Coding → List ℕ → Type 0
ExtendedBody h (extended code) bytes = (Exactly (code ∷ []) ⨾ Exactly []) bytes
ExtendedBody h (extended_number code n) bytes = (Exactly (code ∷ []) ⨾ UnsignedLeb n) bytes
ExtendedBody h (extended_address code address) bytes = (Exactly (code ∷ []) ⨾ NumberBytes h.order h.address_size address) bytes
ExtendedBody h (unknown_extended code operand) bytes = IsUnknownCode code × (code < 256) × (Exactly (code ∷ []) ⨾ Exactly operand) bytes
ExtendedBody h c bytes = ⊥

-- a code, and an operand of the length and encoding that it requires
abbrev pub IsRightOperand : ℕ → List ℕ → Type 0
IsRightOperand address_size [] = ⊥
IsRightOperand address_size (code ∷ operand) = FitsTaken address_size (taken_by code) operand

-- an operation by the bytes that its length counts
pub record GivesCounted (h : NumberParts) (view : OpView) (bytes : List ℕ) : Type 0 where
  pub op : Op
  pub stands : StandsFor view op
  pub admitted : Admits h op
  pub spelled : ExtendedBody h (coding op) bytes

-- The bytes, at the place `start`, are a code that takes a number, and a complete number that is out of range.
pub record IsLargeNumber (start : ℕ) (fault : Fault) (bytes : List ℕ) : Type 0 where
  pub code : ℕ
  pub operand : List ℕ
  pub reason_is : fault.reason ≡ LebTooLarge
  pub place_is : fault.place ≡ start + 1
  pub takes : taken_by code ≡ takes_number
  pub joined : bytes ≡ code ∷ operand
  pub whole : IsLeb operand
  pub large : IsLargeUnsigned operand

-- The bytes that a length counts, from the place `start` on, aren't an operation: they don't fit the length, which is at its own
-- place, or their number is out of range.
pub data IsCountedOpFault (address_size length_place start : ℕ) (fault : Fault) (bytes : List ℕ) : Type 0 where
  wrong_operand : fault.reason ≡ ExtendedLength → fault.place ≡ length_place → IsWrongOperand address_size bytes
      → IsCountedOpFault address_size length_place start fault bytes
  large_number : IsLargeNumber start fault bytes → IsCountedOpFault address_size length_place start fault bytes
