-- Units of versions 2 to 5 that are read where they lie, and why none is.
use Rattle.std.specs.Prelude.{◌≡◌, ◌≢◌, ℕ, List, ◌++◌, length}
use Rattle.lnt_wire.specs.Reading.{At, Reads}
use Rattle.lnt_wire.specs.FrameBytes.{FrameBytes, frame_bytes}
use Rattle.lnt_wire.specs.FrameFaults.{InFrame, IsFrameFault}
use Rattle.lnt_wire.specs.Numbers.{number_bytes, offset_size}
use Rattle.lnt_wire.specs.declared.fault.Reason.{Reason}
use Rattle.lnt_wire.specs.declared.fault.Reason.TheVariants.{VersionNotFive}
use Rattle.lnt_wire.specs.declared.format.Format.{Format}
use Rattle.lnt_wire.specs.declared.format.Order.{Order}
use Rattle.lnt_header.specs.HeaderRules.{AreHeaderNumbers, IsAddressSize}
use Rattle.lnt_header.specs.declared.header.Entry.{Entry}
use Rattle.lnt_header.specs.Parts.{HeaderParts}
use Rattle.lnt_header_bytes.specs.HeaderFaults.{IsCountedFault}
use Rattle.lnt_older.specs.OlderBytes.{body_bytes, OlderBytes, OlderBytesIn, version_number, OlderVersion}
use Rattle.lnt_older.specs.OlderFields.{header_of, header_spelling, IsFieldsFault, ListsLie}
use Rattle.lnt_older.specs.declared.unit.AnyUnit.{AnyUnit}
use Rattle.lnt_older.specs.declared.unit.AnyUnit.TheVariants.{Five, Older}
pub use Rattle.lnt_older.specs.declared.unit.OlderUnit.{OlderUnit}

-- the header of the unit, at this address size and with these directories and files
abbrev pub unit_header : OlderUnit → ℕ → List Entry → List Entry → HeaderParts
unit_header unit address_size directories files =
    header_of unit.format unit.order address_size unit.header.numbers unit.header.standard_lengths.now directories files
    unit.header.extra.now

-- the bytes of the unit, joined from its parts
abbrev pub older_spelling : OlderVersion → OlderUnit → List ℕ
older_spelling version unit =
    frame_bytes unit.order unit.format (body_bytes unit.format unit.order version (header_spelling version unit.header) unit.program.now)

-- The unit was read from bytes that spell it, whatever size addresses have. Its directories and files lie where it says. The bytes are
-- those of its parts.
pub record ReadsOlder (unit : OlderUnit) (old new : At) : Type 0 where
  pub directories : List Entry
  pub files : List Entry
  pub order_is : unit.order ≡ old.order
  pub lie : ListsLie unit.format unit.order unit.header directories files
  pub read : (address_size : ℕ) → IsAddressSize address_size
      → Reads (OlderBytesIn old.order address_size) (unit_header unit address_size directories files, unit.program.now) old new
  pub version : OlderVersion
  pub joined : old.rest ≡ older_spelling version unit ++ new.rest

-- The bytes are those of a unit that begins with version 5, of which no more is known.
pub record ReadsFive (bytes : List ℕ) (old new : At) : Type 0 where
  pub format : Format
  pub body : List ℕ
  pub read : Reads (FrameBytes old.order) (format, body) old new
  pub bytes_are : bytes ≡ read.spelling

abbrev pub ReadsAny : AnyUnit → At → At → Type 0
ReadsAny (Five bytes) old new = ReadsFive bytes.now old new
ReadsAny (Older unit) old new = ReadsOlder unit old new

-- The unit has the numbers of a header, and directories and files in its lists, as each that is read has.
pub record IsOlderUnit (unit : OlderUnit) : Type 0 where
  pub directories : List Entry
  pub files : List Entry
  pub lie : ListsLie unit.format unit.order unit.header directories files
  pub numbers : (address_size : ℕ) → IsAddressSize address_size → AreHeaderNumbers (unit_header unit address_size directories files).numbers

abbrev pub IsSoundUnit : AnyUnit → Type 0
IsSoundUnit (Five bytes) = Unit {0}
IsSoundUnit (Older unit) = IsOlderUnit unit

-- ---- faults

-- What a unit says: one of version 5 its format and its body, of which only the version is judged; an older one its header and its
-- program.
pub data AnyParts : Type 0 where
  five_parts : (format : Format) (body : List ℕ) → AnyParts
  older_parts : (h : HeaderParts) (program : List ℕ) → AnyParts

-- the bytes of a unit of version 2 to 5
abbrev pub AnyBytes : Order → AnyParts → List ℕ → Type 0
AnyBytes order (five_parts format body) bytes = FrameBytes order (format, body) bytes
AnyBytes order (older_parts h program) bytes = (h.numbers.order ≡ order) × OlderBytes h program bytes

-- What is wrong: the initial length or the version, which is none of 2 to 5; the length of the header of an older unit; or one of the
-- fields that this counts.
--     before   the bytes from the unit's offset up to the place of the fault
--     from     the bytes from the place on
pub data IsAnyFault (order : Order) (reason : Reason) (before from : List ℕ) : Type 0 where
  frame : ((version : OlderVersion) → reason ≢ VersionNotFive (version_number version)) → IsFrameFault order reason before from
      → IsAnyFault order reason before from
  header_length : (format : Format) (version : OlderVersion) (left : List ℕ)
      → InFrame order format (number_bytes order 2 (version_number version)) left before from → IsCountedFault format order reason left
      → IsAnyFault order reason before from
  of_fields : (format : Format) (version : OlderVersion) (fields left program : List ℕ) → InFrame order format
      (number_bytes order 2 (version_number version) ++ number_bytes order (offset_size format) (length (fields ++ left)) ++ fields)
      (left ++ program) before from → IsFieldsFault version format order reason fields left → IsAnyFault order reason before from
