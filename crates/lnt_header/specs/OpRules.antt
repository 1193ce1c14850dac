-- The opcode and the operand of each operation; which operations a header admits; and views of operations, in which the
-- operands of unknown ones are borrowed (DWARF 5, sections 6.2.5 and 7.22).
use Rattle.std.specs.Prelude.{◌≡◌, ◌≢◌, ℕ, ◌-◌, ◌^◌, ◌<◌, ◌≤◌, ℤ, List, [], ◌∷◌, get_or, length, slice_index}
use Rattle.lnt_wire.specs.Leb128.{IsLeb, UnsignedLeb}
use Rattle.lnt_header.specs.declared.numbers.NumberParts.{NumberParts}
use Rattle.lnt_header.specs.declared.op.CodedOp.{CodedOp}
use Rattle.lnt_header.specs.declared.op.CodedOp.TheVariants as codes
use Rattle.lnt_header.specs.declared.op.Op.{Op}
use Rattle.lnt_header.specs.declared.op.Op.TheVariants.{Special, Copy, AdvancePc, AdvanceLine, SetFile, SetColumn, NegateStmt}
use Rattle.lnt_header.specs.declared.op.Op.TheVariants.{SetBasicBlock, ConstAddPc, FixedAdvancePc, SetPrologueEnd, SetEpilogueBegin, SetIsa}
use Rattle.lnt_header.specs.declared.op.Op.TheVariants.{UnknownStandard, EndSequence, SetAddress, SetDiscriminator, UnknownExtended}
use Rattle.lnt_header.specs.declared.op.OpView.{OpView}
use Rattle.lnt_header.specs.declared.op.OpView.TheVariants as views
use Rattle.lnt_header.specs.declared.op.Operands.{Operands}
use Rattle.lnt_header.specs.declared.op.Operands.TheVariants.{Spelled, Listed}
use Rattle.lnt_header.specs.Joins.{Each}

-- ---- opcodes and operands

-- the operand of a standard operation: none, an unsigned or a signed LEB128 number, or a number of 2 bytes
pub data Operand : Type 0 where
  bare : Operand
  unsigned : ℕ → Operand
  signed : ℤ → Operand
  half : ℕ → Operand

-- A special opcode; a standard one with its operand, or an unknown one with its numbers; an extended one without operands, with a
-- number, or with an address, or an unknown one with its bytes.
pub data Coding : Type 0 where
  special : ℕ → Coding
  standard : ℕ → Operand → Coding
  unknown_standard : ℕ → List ℕ → Coding
  extended : ℕ → Coding
  extended_number : ℕ → ℕ → Coding
  extended_address : ℕ → ℕ → Coding
  unknown_extended : ℕ → List ℕ → Coding

-- how each operation is encoded
abbrev pub coding : Op → Coding
coding (Special c) = special c
coding Copy = standard 1 bare
coding (AdvancePc n) = standard 2 (unsigned n)
coding (AdvanceLine z) = standard 3 (signed z)
coding (SetFile n) = standard 4 (unsigned n)
coding (SetColumn n) = standard 5 (unsigned n)
coding NegateStmt = standard 6 bare
coding SetBasicBlock = standard 7 bare
coding ConstAddPc = standard 8 bare
coding (FixedAdvancePc n) = standard 9 (half n)
coding SetPrologueEnd = standard 10 bare
coding SetEpilogueBegin = standard 11 bare
coding (SetIsa n) = standard 12 (unsigned n)
coding (UnknownStandard k operands) = unknown_standard k operands
coding EndSequence = extended 1
coding (SetAddress address) = extended_address 2 address
coding (SetDiscriminator n) = extended_number 4 n
coding (UnknownExtended code bytes) = unknown_extended code bytes

-- ---- the known opcodes

-- the last standard opcode that is known
abbrev pub last_known : ℕ
last_known = 12

-- how many operands each of the standard opcodes from 1 up to it has
abbrev pub known_lengths : List ℕ
known_lengths = 0 ∷ 1 ∷ 1 ∷ 1 ∷ 1 ∷ 0 ∷ 0 ∷ 0 ∷ 1 ∷ 0 ∷ 0 ∷ 1 ∷ []

-- What follows an opcode that isn't special: a length and as many bytes, an unsigned or a signed LEB128 number, 2 bytes, nothing,
-- or as many numbers as the header lists.
pub data Following : Type 0 where
  by_length : Following
  one_unsigned : Following
  one_signed : Following
  two_bytes : Following
  nothing_more : Following
  as_listed : Following

-- after the opcodes from 0 up to the last known one
abbrev pub known_followings : List Following
known_followings =
    by_length ∷ nothing_more ∷ one_unsigned ∷ one_signed ∷ one_unsigned ∷ one_unsigned ∷ nothing_more ∷ nothing_more ∷ nothing_more
    ∷ two_bytes ∷ nothing_more ∷ nothing_more ∷ one_unsigned ∷ []

abbrev pub following : ℕ → Following
following k = get_or known_followings k as_listed

-- ---- the known codes of extended operations

-- the code isn't one of theirs
abbrev pub IsUnknownCode : ℕ → Type 0
IsUnknownCode code = (code ≢ 1) × (code ≢ 2) × (code ≢ 4)

-- what follows the code of an extended operation: nothing, an unsigned LEB128 number, an address, or any bytes
pub data Taken : Type 0 where
  takes_nothing : Taken
  takes_number : Taken
  takes_address : Taken
  takes_any : Taken

-- after the codes from 0 on
abbrev pub taken_by : ℕ → Taken
taken_by code = get_or (takes_any ∷ takes_nothing ∷ takes_address ∷ takes_any ∷ takes_number ∷ []) code takes_any

-- The bytes are such an operand by their length and encoding.
abbrev pub FitsTaken : ℕ → Taken → List ℕ → Type 0
FitsTaken address_size takes_nothing operand = operand ≡ []
FitsTaken address_size takes_number operand = IsLeb operand
FitsTaken address_size takes_address operand = length operand ≡ address_size
FitsTaken address_size takes_any operand = Unit {0}

-- ---- what a header admits

-- how many operands the header gives standard opcode k
abbrev pub standard_length : NumberParts → ℕ → ℕ
standard_length h k = slice_index h.standard_lengths (k - 1)

-- an unknown standard opcode, with as many operands as the header gives it
abbrev pub IsUnknownOf : NumberParts → ℕ → ℕ → Type 0
IsUnknownOf h k count = (last_known < k) × (k < h.opcode_base) × (count ≡ standard_length h k)

-- The header admits the opcode, and the operand fits.
abbrev pub AdmitsCoding : NumberParts → Coding → Type 0
AdmitsCoding h (special c) = h.opcode_base ≤ c
AdmitsCoding h (standard k operand) = k < h.opcode_base
AdmitsCoding h (unknown_standard k operands) = IsUnknownOf h k (length operands)
AdmitsCoding h (extended code) = Unit {0}
AdmitsCoding h (extended_number code n) = Unit {0}
AdmitsCoding h (extended_address code address) = address < 256 ^ h.address_size
AdmitsCoding h (unknown_extended code bytes) = IsUnknownCode code

-- The header admits the operation: its number belongs to its kind, and its operands fit.
abbrev pub Admits : NumberParts → Op → Type 0
Admits h op = AdmitsCoding h (coding op)

-- ---- operations whose unknown operands are borrowed

-- the numbers that borrowed operands stand for
abbrev pub AreOperands : Operands → List ℕ → Type 0
AreOperands (Spelled bytes) numbers = Each UnsignedLeb numbers bytes.now
AreOperands (Listed listed) numbers = listed.now ≡ numbers

-- The view stands for the operation: it is of the same kind and has the same operands.
abbrev pub StandsFor : OpView → Op → Type 0
StandsFor (views.Special c) (Special d) = c ≡ d
StandsFor views.Copy Copy = Unit {0}
StandsFor (views.AdvancePc m) (AdvancePc n) = m ≡ n
StandsFor (views.AdvanceLine y) (AdvanceLine z) = y ≡ z
StandsFor (views.SetFile m) (SetFile n) = m ≡ n
StandsFor (views.SetColumn m) (SetColumn n) = m ≡ n
StandsFor views.NegateStmt NegateStmt = Unit {0}
StandsFor views.SetBasicBlock SetBasicBlock = Unit {0}
StandsFor views.ConstAddPc ConstAddPc = Unit {0}
StandsFor (views.FixedAdvancePc m) (FixedAdvancePc n) = m ≡ n
StandsFor views.SetPrologueEnd SetPrologueEnd = Unit {0}
StandsFor views.SetEpilogueBegin SetEpilogueBegin = Unit {0}
StandsFor (views.SetIsa m) (SetIsa n) = m ≡ n
StandsFor (views.UnknownStandard j operands) (UnknownStandard k numbers) = (j ≡ k) × AreOperands operands numbers
StandsFor views.EndSequence EndSequence = Unit {0}
StandsFor (views.SetAddress m) (SetAddress n) = m ≡ n
StandsFor (views.SetDiscriminator m) (SetDiscriminator n) = m ≡ n
StandsFor (views.UnknownExtended c bytes) (UnknownExtended d operand) = (c ≡ d) × (bytes.now ≡ operand)
StandsFor view op = ⊥

-- the operation of a view, with these operands if it is an unknown standard one
abbrev pub op_of : OpView → List ℕ → Op
op_of (views.Special c) operands = Special c
op_of views.Copy operands = Copy
op_of (views.AdvancePc n) operands = AdvancePc n
op_of (views.AdvanceLine z) operands = AdvanceLine z
op_of (views.SetFile n) operands = SetFile n
op_of (views.SetColumn n) operands = SetColumn n
op_of views.NegateStmt operands = NegateStmt
op_of views.SetBasicBlock operands = SetBasicBlock
op_of views.ConstAddPc operands = ConstAddPc
op_of (views.FixedAdvancePc n) operands = FixedAdvancePc n
op_of views.SetPrologueEnd operands = SetPrologueEnd
op_of views.SetEpilogueBegin operands = SetEpilogueBegin
op_of (views.SetIsa n) operands = SetIsa n
op_of (views.UnknownStandard k spelled) operands = UnknownStandard k operands
op_of views.EndSequence operands = EndSequence
op_of (views.SetAddress n) operands = SetAddress n
op_of (views.SetDiscriminator n) operands = SetDiscriminator n
op_of (views.UnknownExtended c bytes) operands = UnknownExtended c bytes.now

-- how the operations that a view stands for are encoded, except the operands of an unknown standard one
abbrev pub coding_of : OpView → Coding
coding_of view = coding (op_of view [])

-- The view is encoded so.
abbrev pub IsCodedAs : OpView → CodedOp → Type 0
IsCodedAs view (codes.Special c) = coding_of view ≡ special c
IsCodedAs view (codes.Bare k) = coding_of view ≡ standard k bare
IsCodedAs view (codes.Unsigned k n) = coding_of view ≡ standard k (unsigned n)
IsCodedAs view (codes.Signed k z) = coding_of view ≡ standard k (signed z)
IsCodedAs view (codes.Half k n) = coding_of view ≡ standard k (half n)
IsCodedAs view (codes.UnknownStandard k operands) = view ≡ views.UnknownStandard k operands
IsCodedAs view (codes.Extended code) = coding_of view ≡ extended code
IsCodedAs view (codes.ExtendedNumber code n) = coding_of view ≡ extended_number code n
IsCodedAs view (codes.ExtendedAddress code address) = coding_of view ≡ extended_address code address
IsCodedAs view (codes.UnknownExtended code bytes) = view ≡ views.UnknownExtended code bytes
