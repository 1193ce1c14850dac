-- Sections whose units are of versions 2 to 5, and the sections of version 5 that say the same (DWARF 2 to 5, section 6.2.4).
use Rattle.std.specs.Prelude.{◌≡◌, ℕ, ◌<◌, List, [], ◌∷◌, ◌++◌, length, Option, Some, None}
use Rattle.std.specs.List.{AllByRecursion}
use Rattle.lnt_wire.specs.FrameBytes.{FrameBytes}
use Rattle.lnt_wire.specs.Reading.{At, Refuses}
use Rattle.lnt_wire.specs.declared.fault.Fault.{Fault}
use Rattle.lnt_wire.specs.declared.format.Order.{Order}
use Rattle.lnt_header.specs.Joins.{Each, PlacedFrom}
use Rattle.lnt_header.specs.Parts.{HeaderParts}
use Rattle.lnt_header_bytes.specs.HeaderBytes.{HeaderBytesIn}
use Rattle.lnt_header_bytes.specs.HeaderReading.{standing}
use Rattle.lnt_older.specs.OlderBytes.{OlderBytesIn, OlderVersion}
use Rattle.lnt_older.specs.OlderUnits.{AnyBytes, AnyParts, IsAnyFault, five_parts, older_parts, older_spelling, OlderUnit, ReadsOlder}
use Rattle.lnt_older.specs.Upgraded.{IsTooLong, upgraded}
use Rattle.lnt_older.specs.Directories.{directory_at, Directory, IsBadRecord, IsDirectoryFile}
use Rattle.lnt_older.specs.declared.section.UpgradeFault.{UpgradeFault}
use Rattle.lnt_older.specs.declared.section.UpgradeFault.TheVariants.{Malformed, Directories, TooLarge, FileZero, Memory}
use Rattle.lnt_older.specs.FileZero.{IsZeroRowAt}

-- ---- what a section says

-- A section is the bytes of its units, one after another, and nothing else.
abbrev pub AnySection : Order → List (ℕ × AnyParts) → List ℕ → Type 0
AnySection order units bytes = PlacedFrom (λ unit. AnyBytes order unit.1) 0 units bytes

-- the offsets of the older units
abbrev pub older_offsets : List (ℕ × AnyParts) → List ℕ
older_offsets [] = []
older_offsets ((offset, five_parts format body) ∷ units) = older_offsets units
older_offsets ((offset, older_parts header program) ∷ units) = offset ∷ older_offsets units

-- The section has its older units at these offsets.
pub record HasOlder (order : Order) (section older : List ℕ) : Type 0 where
  pub units : List (ℕ × AnyParts)
  pub sound : AnySection order units section
  pub older_are : older ≡ older_offsets units

-- ---- what the section of version 5 says

-- An older unit doesn't say how many bytes an address has. Here it has so many.
abbrev pub HasAddressSize : ℕ → ℕ × AnyParts → Type 0
HasAddressSize address_size (offset, five_parts format body) = Unit {0}
HasAddressSize address_size (offset, older_parts header program) = header.numbers.address_size ≡ address_size

-- The bytes of the unit of version 5 for a unit at its offset: the unit itself, or the one that says what an older unit says, which was
-- compiled in the directory that is listed for it.
abbrev pub UpgradedBytes : Order → List Directory → ℕ × AnyParts → List ℕ → Type 0
UpgradedBytes order directories (offset, five_parts format body) bytes = FrameBytes order (format, body) bytes
UpgradedBytes order directories (offset, older_parts header program) bytes =
    HeaderBytesIn order (upgraded (directory_at directories offset) header, program) bytes

-- The result has a unit of version 5 for each unit of the section, in their order, and nothing else.
pub record IsUpgraded (order : Order) (address_size : ℕ) (directories : List Directory) (section result : List ℕ) : Type 0 where
  pub units : List (ℕ × AnyParts)
  pub sound : AnySection order units section
  pub sizes : AllByRecursion (HasAddressSize address_size) units
  pub upgraded : Each (UpgradedBytes order directories) units result

-- ---- what a unit needs

-- However the unit is read from these bytes, if it is an older one, the unit of version 5 isn't too long.
abbrev pub Fits : Order → ℕ → List ℕ → List ℕ → Type 0
Fits order address_size directory bytes =
    (unit : OlderUnit) (at next : At) → at.order ≡ order → at.rest ≡ bytes ++ next.rest → ReadsOlder unit at next
    → IsTooLong unit address_size directory → ⊥

-- The bytes are those of the unit, which can be written anew.
pub record CanBeUpgraded (order : Order) (address_size : ℕ) (directories : List Directory) (unit : ℕ × AnyParts) (bytes : List ℕ) : Type 0
  where
    pub spelled : AnyBytes order unit.1 bytes
    pub size : HasAddressSize address_size unit
    pub fits : Fits order address_size (directory_at directories unit.0) bytes
    pub newer : List ℕ
    pub upgraded : UpgradedBytes order directories unit newer

-- Each unit of the section can be written anew.
abbrev pub CanUpgrade : Order → ℕ → List Directory → List ℕ → Type 0
CanUpgrade order address_size directories section =
    (units : List (ℕ × AnyParts)) × PlacedFrom (CanBeUpgraded order address_size directories) 0 units section

-- ---- why there is none

-- After some units more bytes follow, and they begin with none, for this reason.
pub record IsBroken (order : Order) (section : List ℕ) (fault : Fault) : Type 0 where
  pub units : List (ℕ × AnyParts)
  pub prefix : List ℕ
  pub rest : List ℕ
  pub some : 0 < length rest
  pub joined : section ≡ prefix ++ rest
  pub sound : AnySection order units prefix
  pub refused : Refuses (IsAnyFault order) (AnyBytes order) (standing (length prefix) rest order) fault

-- The bytes are an older unit, and the one of version 5 with its entries copied is longer than its format can say.
--     unit   the unit by its parts, whose join the bytes are
pub record IsLargeUnit (order : Order) (address_size : ℕ) (directory bytes : List ℕ) : Type 0 where
  pub header : HeaderParts
  pub program : List ℕ
  pub older : OlderBytesIn order address_size (header, program) bytes
  pub unit : OlderUnit
  pub version : OlderVersion
  pub parts : bytes ≡ older_spelling version unit
  pub too_long : IsTooLong unit address_size directory

-- After units that can be written anew comes one at this offset that can't.
pub record IsLargeAt (order : Order) (address_size : ℕ) (directories : List Directory) (section : List ℕ) (offset : ℕ) : Type 0 where
  pub prefix : List ℕ
  pub unit : List ℕ
  pub rest : List ℕ
  pub joined : section ≡ prefix ++ (unit ++ rest)
  pub place : offset ≡ length prefix
  pub before : CanUpgrade order address_size directories prefix
  pub large : IsLargeUnit order address_size (directory_at directories offset) unit
  pub misfit : Fits order address_size (directory_at directories offset) unit → ⊥

-- ---- a section that is written anew, or why it isn't

-- The section is spelled by units.
abbrev pub HasUnits : Order → List ℕ → Type 0
HasUnits order section = (units : List (ℕ × AnyParts)) × AnySection order units section

-- These are the directories that a file lists for older units of the section; none where no file is given.
abbrev pub AreListed : Order → List ℕ → Option (List ℕ) → List Directory → Type 0
AreListed order section None directories = directories ≡ []
AreListed order section (Some text) directories = (older : List ℕ) × HasOlder order section older × IsDirectoryFile older text directories

-- Why the section isn't written anew. Want of memory says nothing of it.
abbrev pub IsUpgradeFault : Order → ℕ → List ℕ → Option (List ℕ) → UpgradeFault → Type 0
IsUpgradeFault order address_size section text (Malformed fault) = IsBroken order section fault
IsUpgradeFault order address_size section None (Directories place) = ⊥
IsUpgradeFault order address_size section (Some text) (Directories place) =
    (older : List ℕ) × HasOlder order section older × IsBadRecord older text place
IsUpgradeFault order address_size section text (TooLarge offset) =
    (directories : List Directory) × HasUnits order section × AreListed order section text directories
    × IsLargeAt order address_size directories section offset
IsUpgradeFault order address_size section text (FileZero offset index) =
    (directories : List Directory) × AreListed order section text directories × CanUpgrade order address_size directories section
    × IsZeroRowAt order address_size section offset index
IsUpgradeFault order address_size section text Memory = Unit {0}
