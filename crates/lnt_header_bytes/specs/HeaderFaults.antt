-- What is wrong with the fields that header_length counts: the first of them that is truncated, or has an invalid value (DWARF
-- 5, section 6.2.4).
--     before   the bytes from the first field up to the place of the fault
--     left     the bytes from the place on, up to the end of the header
use Rattle.std.specs.Prelude.{◌≡◌, ℕ, ◌^◌, ◌<◌, List, [], ◌∷◌, ◌++◌, length, ◌≢◌, ◌+◌, ◌≤◌, slice_index, Bool, true, false}
use Rattle.std.specs.Prelude.{Option, Some, None, FitsSigned}
use Rattle.std.specs.Int.{w8, cast_unsigned}
use Rattle.lnt_wire.specs.declared.format.Format.{Format}
use Rattle.lnt_wire.specs.declared.format.Order.{Order}
use Rattle.lnt_wire.specs.declared.fault.Reason.{Reason}
use Rattle.lnt_wire.specs.declared.fault.Reason.TheVariants.{Truncated, AddressSize, SegmentSelector, HeaderLength, MaxOpsZero}
use Rattle.lnt_wire.specs.declared.fault.Reason.TheVariants.{LineRangeZero, OpcodeBaseZero, StandardLength}
use Rattle.lnt_wire.specs.Numbers.{number_bytes, offset_size}
use Rattle.lnt_header.specs.HeaderRules.{IsAddressSize, AreStandardLengths}
pub use Rattle.lnt_header_bytes.specs.declared.numbers.Singles.{Singles}
use Rattle.lnt_header.specs.OpRules.{known_lengths, last_known}
use Rattle.lnt_header.specs.FieldFaults.{FirstOf}
use Rattle.lnt_header_bytes.specs.TableBytes.{TableOf}
use Rattle.lnt_header_bytes.specs.TableFaults.{IsTableFault}

-- ---- what is wrong with the fields of a header after its version up to header_length, if one of them is truncated or has an invalid
-- value (DWARF 5, section 6.2.4).

-- Why the bytes don't begin with an address size.
abbrev pub IsAddressSizeFault : Reason → List ℕ → Type 0
IsAddressSizeFault Truncated bytes = length bytes < 1
IsAddressSizeFault (AddressSize size) bytes = (more : List ℕ) × (IsAddressSize size → ⊥) × (bytes ≡ size ∷ more)
IsAddressSizeFault _ bytes = ⊥

-- Why they don't begin with a segment selector size.
abbrev pub IsSelectorFault : Reason → List ℕ → Type 0
IsSelectorFault Truncated bytes = length bytes < 1
IsSelectorFault (SegmentSelector size) bytes = (more : List ℕ) × (0 < size) × (bytes ≡ size ∷ more)
IsSelectorFault _ bytes = ⊥

-- Why they don't begin with a header_length and the bytes that it counts: it is truncated, or counts more than are left.
abbrev pub IsCountedFault : Format → Order → Reason → List ℕ → Type 0
IsCountedFault format order Truncated bytes = length bytes < offset_size format
IsCountedFault format order HeaderLength bytes = (n : ℕ) × (more : List ℕ) × (n < 256 ^ offset_size format) × (length more < n)
    × (bytes ≡ number_bytes order (offset_size format) n ++ more)
IsCountedFault format order _ bytes = ⊥

-- The field at fault, after the valid ones before it.
--     before   the bytes from the address size up to the place of the fault
--     left     the bytes from the place on, up to the end of the unit
pub data IsStartFault (format : Format) (order : Order) (reason : Reason) (before left : List ℕ) : Type 0 where
  address_size : before ≡ [] → IsAddressSizeFault reason left → IsStartFault format order reason before left
  selector : (size : ℕ) → IsAddressSize size → before ≡ size ∷ [] → IsSelectorFault reason left
      → IsStartFault format order reason before left
  header_length : (size : ℕ) → IsAddressSize size → before ≡ size ∷ 0 ∷ [] → IsCountedFault format order reason left
      → IsStartFault format order reason before left

-- ---- fields of one byte

-- the six fields before the standard opcode lengths, in order: why each may not be 0, where it may not. Before version 4 there is no
-- max_ops among them.
abbrev pub zero_reasons : Bool → List (Option Reason)
zero_reasons true = None ∷ Some MaxOpsZero ∷ None ∷ None ∷ Some LineRangeZero ∷ Some OpcodeBaseZero ∷ []
zero_reasons false = None ∷ None ∷ None ∷ Some LineRangeZero ∷ Some OpcodeBaseZero ∷ []

abbrev pub MayBe : Option Reason → ℕ → Type 0
MayBe None byte = Unit {0}
MayBe (Some reason) byte = 0 < byte

-- a byte for each field, and none is 0 that may not be
abbrev pub AreFieldBytes : List (Option Reason) → List ℕ → Type 0
AreFieldBytes [] [] = Unit {0}
AreFieldBytes (zero_reason ∷ zero_reasons) (byte ∷ bytes) = MayBe zero_reason byte × AreFieldBytes zero_reasons bytes
AreFieldBytes [] (byte ∷ bytes) = ⊥
AreFieldBytes (zero_reason ∷ zero_reasons) [] = ⊥

abbrev pub SoundBytes : List (Option Reason) → List ℕ → List ℕ → Type 0
SoundBytes zero_reasons values bytes = AreFieldBytes zero_reasons bytes × (values ≡ bytes)

-- The first field that isn't there, or is 0 and may not be, after sound ones.
--     before   the bytes up to the place of the fault
--     left     the bytes from the place on
pub data IsSoundFault (zero_reasons : List (Option Reason)) (reason : Reason) (before left : List ℕ) : Type 0 where
  missing : (done : List (Option Reason)) (zero_reason : Option Reason) (past : List (Option Reason))
      → zero_reasons ≡ done ++ zero_reason ∷ past → AreFieldBytes done before → reason ≡ Truncated → left ≡ []
      → IsSoundFault zero_reasons reason before left
  zero_byte : (done past : List (Option Reason)) (more : List ℕ) → zero_reasons ≡ done ++ Some reason ∷ past → AreFieldBytes done before
      → left ≡ 0 ∷ more → IsSoundFault zero_reasons reason before left

-- the reasons why the six can't be read
abbrev pub IsSinglesFault : Bool → Reason → List ℕ → List ℕ → Type 0
IsSinglesFault has_max_ops = IsSoundFault (zero_reasons has_max_ops)

-- their bytes
abbrev pub single_fields : Bool → Singles → List ℕ
single_fields true s =
    s.minimum_instruction_length ∷ s.max_ops ∷ s.default_is_stmt ∷ cast_unsigned w8 s.line_base ∷ s.line_range ∷ s.opcode_base ∷ []
single_fields false s = s.minimum_instruction_length ∷ s.default_is_stmt ∷ cast_unsigned w8 s.line_base ∷ s.line_range ∷ s.opcode_base ∷ []

-- where max_ops isn't among them, it is 1
abbrev pub SaysMaxOps : Bool → ℕ → Type 0
SaysMaxOps true max_ops = Unit {0}
SaysMaxOps false max_ops = max_ops ≡ 1

-- The bytes of the numbers.
pub record SinglesBytes (has_max_ops : Bool) (s : Singles) (bytes : List ℕ) : Type 0 where
  pub spelled : bytes ≡ single_fields has_max_ops s
  pub says : SaysMaxOps has_max_ops s.max_ops
  pub line_base : FitsSigned w8 s.line_base
  pub max_ops : 0 < s.max_ops
  pub line_range : 0 < s.line_range
  pub opcode_base : 0 < s.opcode_base

-- The bytes of the standard opcode lengths.
abbrev pub LengthsBytes : ℕ → List ℕ → List ℕ → Type 0
LengthsBytes opcode_base lengths bytes = (opcode_base ≡ length lengths + 1) × AreStandardLengths lengths × (bytes ≡ lengths)

-- Fewer are left than there should be, and those are as the standard states.
pub record AreCutLengths (opcode_base : ℕ) (before left : List ℕ) : Type 0 where
  pub ends : left ≡ []
  pub few : length before + 1 < opcode_base
  pub standard : AreStandardLengths before

-- the reasons why these can't be read
abbrev pub IsLengthsFault : ℕ → Reason → List ℕ → List ℕ → Type 0
IsLengthsFault opcode_base Truncated before left = AreCutLengths opcode_base before left
IsLengthsFault opcode_base (StandardLength opcode given) before left =
    (more : List ℕ) × AreStandardLengths before × (opcode ≡ length before + 1) × (opcode < opcode_base) × (opcode ≤ last_known)
    × (given ≢ slice_index known_lengths (length before)) × (left ≡ given ∷ more)
IsLengthsFault opcode_base _ before left = ⊥

-- ---- the first part that isn't valid

-- the directories, or the files after them
abbrev pub TwoTablesFault : Format → Order → Reason → List ℕ → List ℕ → Type 0
TwoTablesFault format order = FirstOf (TableOf format order) (IsTableFault format order) (λ _. IsTableFault format order)

-- after the six fields: the standard opcode lengths, or the tables after them
abbrev pub AfterSinglesFault : Format → Order → Singles → Reason → List ℕ → List ℕ → Type 0
AfterSinglesFault format order s = FirstOf (LengthsBytes s.opcode_base) (IsLengthsFault s.opcode_base) (λ _. TwoTablesFault format order)

-- the six fields, or what comes after them
abbrev pub IsHeaderFault : Format → Order → Reason → List ℕ → List ℕ → Type 0
IsHeaderFault format order = FirstOf (SinglesBytes true) (IsSinglesFault true) (AfterSinglesFault format order)
