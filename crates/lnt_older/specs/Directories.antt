-- The compilation directories of older units: comma-separated values with a record for each of some of these units. DWARF says the
-- directory of a unit in .debug_info alone (DWARF 4, section 3.1.1), and a header of version 5 has it as directory 0.
--     older   the offsets of the older units of a section, in their order
use Rattle.std.specs.Prelude.{◌≡◌, ◌==◌, ℕ, ◌-◌, ◌<◌, zero, suc, List, [], ◌∷◌, ◌++◌, get_or, length, map}
use Rattle.std.specs.Prelude.{Option, Some, None, IfSome, codes}
use Rattle.std.specs.List.{AllZip, Any, find}
use Rattle.std.specs.Option.{option_map_or}
use Rattle.lnt_header.specs.Joins.{AreRising}
use Rattle.lnt_text.specs.Digits.{IsDecimal}
use Rattle.lnt_csv.specs.Records.{BeginsWith, Fields, RecordsOf}
use Rattle.lnt_wire.specs.FormBytes.{HasNoZero}
pub use Rattle.lnt_older.specs.declared.directories.Directory.{Directory}
use Rattle.lnt_older.specs.declared.section.UpgradeFault.{UpgradeFault}
use Rattle.lnt_older.specs.declared.section.UpgradeFault.TheVariants.{Directories, Memory}

abbrev pub units_of : List Directory → List ℕ
units_of directories = map (λ directory. directory.unit) directories

-- The units of the directories rise.
abbrev pub AreDirectories : List Directory → Type 0
AreDirectories directories = AreRising (units_of directories)

-- the path of the directory of the unit at an offset; empty where none is listed
abbrev pub directory_at : List Directory → ℕ → List ℕ
directory_at directories offset =
    option_map_or (λ directory. directory.path.items) (find (λ directory. directory.unit == offset) directories) []

-- ---- records

-- record 0
abbrev pub directory_names : Fields
directory_names = codes "unit" ∷ codes "directory" ∷ []

-- The record has the offset of a unit, and the path of its directory, without a zero byte.
pub record IsDirectoryRecord (fields : Fields) (directory : Directory) : Type 0 where
  pub count : length fields ≡ 2
  pub unit : IsDecimal (get_or fields 0 []) directory.unit
  pub path : directory.path.items ≡ get_or fields 1 []
  pub no_zero : HasNoZero (get_or fields 1 [])

-- one of the offsets is this one
abbrev pub IsAmong : List ℕ → ℕ → Type 0
IsAmong older offset = Any (λ other. other ≡ offset) older

-- Each record has its directory. Their units rise, and each is an older unit.
pub record AreRecords (older : List ℕ) (records : List Fields) (directories : List Directory) : Type 0 where
  pub each : AllZip IsDirectoryRecord records directories
  pub rising : AreDirectories directories
  pub units : AllZip (λ (fields : Fields) directory. IsAmong older directory.unit) records directories

-- ---- the bytes of a file

-- The bytes are record 0 and those of the directories.
pub record IsDirectoryFile (older bytes : List ℕ) (directories : List Directory) : Type 0 where
  pub records : List Fields
  pub all : RecordsOf bytes (directory_names ∷ records)
  pub so : AreRecords older records directories

-- After record 0 and so many records that are so, one that isn't.
pub record HasBadRecord (older bytes : List ℕ) (count : ℕ) : Type 0 where
  pub records : List Fields
  pub directories : List Directory
  pub fields : Fields
  pub begins : BeginsWith bytes (directory_names ∷ (records ++ fields ∷ []))
  pub so : AreRecords older records directories
  pub count_is : length records ≡ count
  pub bad : (directory : Directory) → AreRecords older (records ++ fields ∷ []) (directories ++ directory ∷ []) → ⊥

-- This record is the first one that isn't so.
abbrev pub IsBadRecord : List ℕ → List ℕ → ℕ → Type 0
IsBadRecord older bytes zero = BeginsWith bytes (directory_names ∷ []) → ⊥
IsBadRecord older bytes (suc count) = HasBadRecord older bytes count

-- the directories that a file lists for units at these offsets; none where no file is given
abbrev pub AreListedFor : List ℕ → Option (List ℕ) → List Directory → Type 0
AreListedFor older None directories = directories ≡ []
AreListedFor older (Some text) directories = IsDirectoryFile older text directories

abbrev pub IsListingFault : List ℕ → Option (List ℕ) → UpgradeFault → Type 0
IsListingFault older (Some text) (Directories place) = IsBadRecord older text place
IsListingFault older text Memory = Unit {0}
IsListingFault older text other = ⊥

-- ---- private: one record

-- This is the unit of the last of these directories, if there is one.
abbrev pub IsLastUnit : List Directory → Option ℕ → Type 0
IsLastUnit directories None = length directories ≡ 0
IsLastUnit directories (Some unit) = (0 < length directories) × (unit ≡ get_or (units_of directories) (length directories - 1) 0)

-- The unit of the directory is an older unit, and comes after the one before it.
abbrev pub IsNext : Option ℕ → List ℕ → Directory → Type 0
IsNext before older directory = IfSome before (λ unit. unit < directory.unit) × IsAmong older directory.unit

-- The directory may come after these.
abbrev pub MayFollow : List ℕ → List Directory → Directory → Type 0
MayFollow older directories directory = AreDirectories (directories ++ directory ∷ []) × IsAmong older directory.unit

-- The directory in a record was added to these.
pub record IsAdded (older : List ℕ) (fields : Fields) (old new : List Directory) : Type 0 where
  pub directory : Directory
  pub is_record : IsDirectoryRecord fields directory
  pub follows : MayFollow older old directory
  pub added : new ≡ old ++ directory ∷ []
