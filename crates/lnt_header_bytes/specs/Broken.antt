-- What a fault says of the bytes in which it was found. A fault names a place and a reason.
--     before   the bytes from the unit's offset up to the place
--     from     the bytes from the place on
use Rattle.std.specs.Prelude.{◌≡◌, ◌≢◌, ℕ, ◌+◌, ◌^◌, ◌<◌, ◌≤◌, ◌⊎◌, List, [], ◌∷◌, ◌++◌, length, slice_index}
use Rattle.lnt_wire.specs.declared.format.Order.{Order}
use Rattle.lnt_wire.specs.declared.format.Format.{Format}
use Rattle.lnt_wire.specs.declared.fault.Fault.{Fault}
use Rattle.lnt_wire.specs.declared.fault.Reason.{Reason}
use Rattle.lnt_wire.specs.declared.fault.Reason.TheVariants.{Truncated, ReservedLength, VersionNotFive, AddressSize, SegmentSelector}
use Rattle.lnt_wire.specs.declared.fault.Reason.TheVariants.{HeaderLength, MaxOpsZero, LineRangeZero, OpcodeBaseZero, StandardLength}
use Rattle.lnt_wire.specs.declared.fault.Reason.TheVariants.{UnknownForm, EmptyFormat, LebTooLarge, ExtendedLength, Memory}
use Rattle.lnt_wire.specs.Bytes.{NoneSpelled}
use Rattle.lnt_wire.specs.Leb128.{UnsignedLeb}
use Rattle.lnt_wire.specs.Numbers.{number_bytes, offset_size}
use Rattle.lnt_wire.specs.FormBytes.{IsUnknownForm}
use Rattle.lnt_wire.specs.FrameBytes.{version_five}
use Rattle.lnt_wire.specs.FrameFaults.{InFrame, IsCutFrame, IsReserved, IsOtherVersion, IsFrameFault}
use Rattle.lnt_header.specs.FieldFaults.{IsCutField, IsLargeLeb, IsWrongLength}
use Rattle.lnt_header.specs.HeaderRules.{IsAddressSize, AreStandardLengths}
use Rattle.lnt_header.specs.OpRules.{known_lengths, last_known}
use Rattle.lnt_header_bytes.specs.HeaderFaults.{IsHeaderFault, IsStartFault}
use Rattle.lnt_header_bytes.specs.HeaderBytes.{HeaderBytesIn}

-- ---- the place of a fault

-- the fields of a valid unit up to header_length, at this address size
abbrev pub sound_start : Order → ℕ → List ℕ
sound_start order address_size = version_five order ++ address_size ∷ 0 ∷ []

-- The place is in the header that header_length counts: it has the fields `fields` up to the place, and `left` after them.
pub record InHeader (order : Order) (fields left before from : List ℕ) : Type 0 where
  pub format : Format
  pub address_size : ℕ
  pub program : List ℕ
  pub address_size_is : IsAddressSize address_size
  pub in_frame : InFrame order format
      (sound_start order address_size ++ number_bytes order (offset_size format) (length (fields ++ left)) ++ fields)
      (left ++ program) before from

-- The bytes from the place on end, with `left`, at the end of the unit or of the header.
abbrev pub InFrameAt : Order → List ℕ → List ℕ → List ℕ → Type 0
InFrameAt order left before from = (format : Format) × (fields : List ℕ) × InFrame order format fields left before from

abbrev pub InHeaderAt : Order → List ℕ → List ℕ → List ℕ → Type 0
InHeaderAt order left before from = (fields : List ℕ) × InHeader order fields left before from

abbrev pub UpToLimit : Order → List ℕ → List ℕ → List ℕ → Type 0
UpToLimit order left before from = InFrameAt order left before from ⊎ InHeaderAt order left before from

-- ---- the reasons

-- The table of places, by reasons.
abbrev pub IsAt : Order → Reason → List ℕ → List ℕ → Type 0
IsAt order Truncated [] from = IsCutFrame order from
IsAt order Truncated (b ∷ before) from = (left : List ℕ) × UpToLimit order left (b ∷ before) from × IsCutField (b ∷ before) left
IsAt order ReservedLength before from = (before ≡ []) × IsReserved order from
IsAt order (VersionNotFive version) before from = IsOtherVersion order version before from
IsAt order (AddressSize size) before from =
    (format : Format) × (left : List ℕ) × (IsAddressSize size → ⊥) × InFrame order format (version_five order) (size ∷ left) before from
IsAt order (SegmentSelector size) before from =
    (format : Format) × (address_size : ℕ) × (left : List ℕ) × IsAddressSize address_size × (0 < size)
    × InFrame order format (version_five order ++ address_size ∷ []) (size ∷ left) before from
IsAt order HeaderLength before from = (format : Format) × (address_size n : ℕ) × (left : List ℕ) × IsAddressSize address_size
    × (n < 256 ^ offset_size format) × (length left < n)
    × InFrame order format (sound_start order address_size) (number_bytes order (offset_size format) n ++ left) before from
IsAt order MaxOpsZero before from = (minimum : ℕ) × (left : List ℕ) × InHeader order (minimum ∷ []) (0 ∷ left) before from
IsAt order LineRangeZero before from = (minimum max_ops default_is_stmt line_base : ℕ) × (left : List ℕ) × (0 < max_ops)
    × InHeader order (minimum ∷ max_ops ∷ default_is_stmt ∷ line_base ∷ []) (0 ∷ left) before from
IsAt order OpcodeBaseZero before from =
    (minimum max_ops default_is_stmt line_base line_range : ℕ) × (left : List ℕ) × (0 < max_ops) × (0 < line_range)
    × InHeader order (minimum ∷ max_ops ∷ default_is_stmt ∷ line_base ∷ line_range ∷ []) (0 ∷ left) before from
IsAt order (StandardLength opcode given) before from =
    (minimum max_ops default_is_stmt line_base line_range opcode_base : ℕ) × (lengths left : List ℕ) × (0 < max_ops) × (0 < line_range)
    × AreStandardLengths lengths × (opcode ≡ length lengths + 1) × (opcode < opcode_base) × (opcode ≤ last_known)
    × (given ≢ slice_index known_lengths (length lengths))
    × InHeader order (minimum ∷ max_ops ∷ default_is_stmt ∷ line_base ∷ line_range ∷ opcode_base ∷ lengths) (given ∷ left) before from
IsAt order (UnknownForm code) before from = (left : List ℕ) × (spelling : List ℕ) × (rest : List ℕ) × InHeaderAt order left before from
    × (left ≡ spelling ++ rest) × UnsignedLeb code spelling × IsUnknownForm code
IsAt order EmptyFormat before from =
    (left : List ℕ) × (n : ℕ) × (spelling : List ℕ) × (rest : List ℕ) × (earlier : List ℕ) × InHeaderAt order left before from
    × (left ≡ spelling ++ rest) × UnsignedLeb n spelling × (0 < n) × (before ≡ earlier ++ 0 ∷ [])
IsAt order LebTooLarge before from = (left : List ℕ) × UpToLimit order left before from × IsLargeLeb left
IsAt order ExtendedLength before from =
    (format : Format) × (fields : List ℕ) × (left : List ℕ) × (earlier : List ℕ) × InFrame order format fields left before from
    × (fields ≡ earlier ++ 0 ∷ []) × IsWrongLength (slice_index fields 2) left
IsAt order Memory before from = ⊥

-- ---- faults

-- The bytes from the offset on don't begin with a value of a kind, and the fault says why.
pub record Broken {X : Type 0} (Spells : X → List ℕ → Type 0) (order : Order) (fault : Fault) (offset : ℕ) (bytes : List ℕ) : Type 0 where
  pub none : NoneSpelled Spells bytes
  pub before : List ℕ
  pub from : List ℕ
  pub split : bytes ≡ before ++ from
  pub place : fault.place ≡ offset + length before
  pub reason : IsAt order fault.reason before from

-- ---- headers

-- The first field of a header that isn't there, after the fields before it: the initial length or the version, a field up to
-- header_length, or one of those that this counts.
pub data IsFirstField (order : Order) (reason : Reason) (before from : List ℕ) : Type 0 where
  frame : IsFrameFault order reason before from → IsFirstField order reason before from
  start : (format : Format) (fields left : List ℕ) → InFrame order format (version_five order ++ fields) left before from
      → IsStartFault format order reason fields left → IsFirstField order reason before from
  counted : (fields left : List ℕ) → (place : InHeader order fields left before from) → IsHeaderFault place.format order reason fields left
      → IsFirstField order reason before from

-- The bytes don't begin with a header with a program, and the fault is that of its first field that isn't valid.
pub record BrokenHeader (order : Order) (fault : Fault) (offset : ℕ) (bytes : List ℕ) : Type 0 where
  pub broken : Broken (HeaderBytesIn order) order fault offset bytes
  pub first : IsFirstField order fault.reason broken.before broken.from
