-- What the reads of the parts of a unit give. No public contract speaks of it.
use Rattle.std.specs.Prelude.{◌≡◌, ℕ, List, [], ◌≢◌, ◌+◌, ◌^◌, ◌<◌, ◌++◌, length}
use Rattle.lnt_wire.specs.Reading.{At, Reads, Refuses}
use Rattle.lnt_wire.specs.declared.fault.Reason.{Reason}
use Rattle.lnt_wire.specs.declared.fault.Reason.TheVariants.{VersionNotFive}
use Rattle.lnt_wire.specs.declared.format.Format.{Format}
use Rattle.lnt_header.specs.declared.header.Entry.{Entry}
use Rattle.lnt_older.specs.OlderFields.{FieldsOf, header_spelling, ListsLie, IsFieldsFault, IsReadHeader}
use Rattle.lnt_older.specs.declared.header.OlderHeader.{OlderHeader}
use Rattle.lnt_wire.specs.Numbers.{number_bytes, offset_size}
use Rattle.lnt_wire.specs.declared.fault.Fault.{Fault}
use Rattle.lnt_wire.specs.declared.format.Order.{Order}
use Rattle.lnt_header.specs.Parts.{HeaderParts}
use Rattle.lnt_header_bytes.specs.HeaderReading.{standing}
use Rattle.lnt_header_bytes.specs.HeaderFaults.{IsCountedFault}
use Rattle.lnt_older.specs.OlderBytes.{OlderFieldsBytes, version_number, OlderVersion}
use Rattle.lnt_wire.specs.declared.prefix.Prefix.{Prefix}
use Rattle.lnt_older.specs.declared.unit.AnyUnit.{AnyUnit}
use Rattle.lnt_older.specs.declared.unit.AnyUnit.TheVariants as units
use Rattle.lnt_older.specs.declared.unit.OlderUnit.{OlderUnit}

-- ---- what the read of the fields of an older header gives. No public contract speaks of it.

-- The read gave the parts of a header, moved past the fields that spell them, and left the last bytes. All bytes are those of its parts.
pub record ReadsParts (version : OlderVersion) (format : Format) (o : OlderHeader) (old new : At) : Type 0 where
  pub directories : List Entry
  pub files : List Entry
  pub lie : ListsLie format old.order o directories files
  pub read : Reads (FieldsOf version format old.order) (o.numbers, (o.standard_lengths.now, (directories, files))) old new
  pub extra_is : o.extra.now ≡ new.rest
  pub joined : old.rest ≡ header_spelling version o

-- ---- a unit, by its prefix

-- What stands after the version spells an older unit's header and program.
pub record IsOlderOf (prefix : Prefix) (version : OlderVersion) (order : Order) (unit : OlderUnit) : Type 0 where
  pub format_is : unit.format ≡ prefix.format
  pub order_is : unit.order ≡ order
  pub counted : List ℕ
  pub header : IsReadHeader version prefix.format order counted unit.header
  pub small : length counted < 256 ^ offset_size prefix.format
  pub joined : prefix.past.now ≡ number_bytes order (offset_size prefix.format) (length counted) ++ (counted ++ unit.program.now)

-- What stands after the version of an older unit: header_length, the fields that it counts, and the program.
pub record PastBytes (format : Format) (version : OlderVersion) (order : Order) (unit : HeaderParts × List ℕ) (bytes : List ℕ) : Type 0
  where
    pub fields : List ℕ
    pub format_is : unit.0.format ≡ format
    pub order_is : unit.0.numbers.order ≡ order
    pub counted : OlderFieldsBytes version unit.0 fields
    pub small : length fields < 256 ^ offset_size format
    pub joined : bytes ≡ number_bytes order (offset_size format) (length fields) ++ (fields ++ unit.1)

-- Why nothing such stands there: the length of the header, or one of the fields that this counts.
pub data IsPastFault (format : Format) (version : OlderVersion) (order : Order) (reason : Reason) (before from : List ℕ) : Type 0 where
  of_length : before ≡ [] → IsCountedFault format order reason from → IsPastFault format version order reason before from
  of_field : (fields left program : List ℕ)
      → before ≡ number_bytes order (offset_size format) (length (fields ++ left)) ++ fields → from ≡ left ++ program
      → IsFieldsFault version format order reason fields left → IsPastFault format version order reason before from

-- a fault of what stands after the version, which has 2 bytes
abbrev pub IsBodyFault : Prefix → OlderVersion → Order → Fault → Type 0
IsBodyFault prefix version order fault = Refuses (IsPastFault prefix.format version order) (PastBytes prefix.format version order)
    (standing (prefix.place + 2) prefix.past.now order) fault

-- the unit of a prefix and of these bytes: one of version 5, or an older one
abbrev pub IsAnyOf : Prefix → List ℕ → Order → AnyUnit → Type 0
IsAnyOf prefix bytes order (units.Five five) = (prefix.version ≡ 5) × (five.now ≡ bytes)
IsAnyOf prefix bytes order (units.Older unit) =
    (version : OlderVersion) × (prefix.version ≡ version_number version) × IsOlderOf prefix version order unit

-- a fault of the version, which is none of 2 to 5, or of an older one
pub data IsAnyBodyFault (prefix : Prefix) (order : Order) (fault : Fault) : Type 0 where
  of_version : prefix.version < 2 ^ 16 → prefix.version ≢ 5 → ((version : OlderVersion) → version_number version ≢ prefix.version)
      → fault.place ≡ prefix.place → fault.reason ≡ VersionNotFive prefix.version → IsAnyBodyFault prefix order fault
  of_body : (version : OlderVersion) → prefix.version ≡ version_number version → IsBodyFault prefix version order fault
      → IsAnyBodyFault prefix order fault
