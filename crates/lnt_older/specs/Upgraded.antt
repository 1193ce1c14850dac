-- The unit of version 5 that says what an older unit says. Its directories and files are numbered from 0 on, so that each of those
-- listed has the number that it had.
use Rattle.std.specs.Prelude.{◌≡◌, ℕ, ◌+◌, List, [], ◌∷◌, ◌++◌, length, take}
use Rattle.lnt_wire.specs.Bytes.{IsShortest}
use Rattle.lnt_wire.specs.Leb128.{UnsignedLeb}
use Rattle.lnt_wire.specs.declared.form.FormValue.TheVariants.{Text}
use Rattle.lnt_wire.specs.declared.format.Format.{Format}
use Rattle.lnt_wire.specs.declared.format.Order.{Order}
use Rattle.lnt_header.specs.HeaderRules.{single_bytes, IsAddressSize}
use Rattle.lnt_header.specs.Joins.{Each}
use Rattle.lnt_header.specs.declared.header.Entry.{Entry}
use Rattle.lnt_header.specs.Parts.{HeaderParts}
use Rattle.lnt_header_bytes.specs.Borrowed.{entry_of}
use Rattle.lnt_header_bytes.specs.TableBytes.{EntryBytes}
use Rattle.lnt_older.specs.OlderBytes.{file_pairs, ListedBytes}
use Rattle.lnt_wire.specs.FrameBytes.{LengthFits}
use Rattle.lnt_header_bytes.specs.HeaderBytes.{HeaderBytesIn, HeaderFieldsBytes, unit_body}
use Rattle.lnt_older.specs.OlderFields.{ListsLie}
use Rattle.lnt_older.specs.OlderUnits.{unit_header, OlderUnit}

-- ---- what it says

-- the files from number 0 on: it is the first one again, where there is one
abbrev pub from_zero : List Entry → List Entry
from_zero files = take 1 files ++ files

-- the header in version 5, of a unit that was compiled in this directory: the numbers, the program and all else stay
abbrev pub upgraded : List ℕ → HeaderParts → HeaderParts
upgraded directory h = record h { directories = entry_of (Text directory ∷ []) ∷ h.directories; files = from_zero h.files }

-- ---- its bytes, where entries are copied

-- the format of the directories, `path:string`, after the number of its pairs
abbrev pub directory_head : List ℕ
directory_head = 1 ∷ 1 ∷ 8 ∷ []

-- the format of the files, `path:string, directory_index:udata, timestamp:udata, size:udata`
abbrev pub file_head : List ℕ
file_head = 4 ∷ 1 ∷ 8 ∷ 2 ∷ 15 ∷ 3 ∷ 15 ∷ 4 ∷ 15 ∷ []

-- A table: its format, the number of its entries in as few bytes as can be, and the bytes of the entries.
pub record CountedTable (head : List ℕ) (count : ℕ) (entries bytes : List ℕ) : Type 0 where
  pub size : List ℕ
  pub counted : IsShortest UnsignedLeb count size
  pub joined : bytes ≡ head ++ (size ++ entries)

-- These are the bytes of the first file among those listed, where there is one. Else there are none.
pub record IsFirstFile (format : Format) (order : Order) (files : List Entry) (listed bytes : List ℕ) : Type 0 where
  pub others : List ℕ
  pub joined : listed ≡ bytes ++ others
  pub spelled : Each (EntryBytes format order file_pairs) (take 1 files) bytes

-- What header_length counts in version 5, where the directories and files of an older header have these bytes, which are copied.
pub record CopiedFields (h : HeaderParts) (directory directories files bytes : List ℕ) : Type 0 where
  pub first : List ℕ
  pub first_file : IsFirstFile h.format h.numbers.order h.files files first
  pub directory_table : List ℕ
  pub directories_are : CountedTable directory_head (length h.directories + 1) ((directory ++ 0 ∷ []) ++ directories) directory_table
  pub file_table : List ℕ
  pub files_are : CountedTable file_head (length (from_zero h.files)) (first ++ files) file_table
  pub joined : bytes ≡ single_bytes h.numbers ++ directory_table ++ file_table ++ h.extra

-- ---- an older unit that is written anew in version 5

-- the fields of the unit of version 5, whose entries are those of the older unit byte for byte
abbrev pub UnitFields : OlderUnit → ℕ → List ℕ → List Entry → List Entry → List ℕ → Type 0
UnitFields unit address_size directory directories files fields =
    CopiedFields (unit_header unit address_size directories files) directory unit.header.directories.bytes.now
    unit.header.files.bytes.now fields

-- The bytes of a unit of version 5 were added, which says what the older unit says: its header in version 5, and its program. Its
-- entries are those of the older unit byte for byte.
pub record AddsUnit (unit : OlderUnit) (address_size : ℕ) (directory : List ℕ) (directories files : List Entry) (old new : List ℕ) : Type 0
  where
    pub bytes : List ℕ
    pub joined : new ≡ old ++ bytes
    pub spelled : HeaderBytesIn unit.order (upgraded directory (unit_header unit address_size directories files), unit.program.now) bytes
    pub copied : UnitFields unit address_size directory directories files spelled.spelled.fields

-- whichever directories and files lie in its lists
abbrev pub AddsUpgraded : OlderUnit → ℕ → List ℕ → List ℕ → List ℕ → Type 0
AddsUpgraded unit address_size directory old new =
    (directories files : List Entry) → ListsLie unit.format unit.order unit.header directories files
    → AddsUnit unit address_size directory directories files old new

-- With its entries copied it is longer than its format can say.
pub record IsTooLong (unit : OlderUnit) (address_size : ℕ) (directory : List ℕ) : Type 0 where
  pub directories : List Entry
  pub files : List Entry
  pub lie : ListsLie unit.format unit.order unit.header directories files
  pub fields : List ℕ
  pub spelled : HeaderFieldsBytes (upgraded directory (unit_header unit address_size directories files)) fields
  pub copied : UnitFields unit address_size directory directories files fields
  pub too_long : LengthFits unit.format (length (unit_body (upgraded directory (unit_header unit address_size directories files)) fields
      unit.program.now)) → ⊥

-- ---- private: what the bodies write

-- Fields of version 5, which copy the entries.
pub record AreFields (unit : OlderUnit) (address_size : ℕ) (directory : List ℕ) (directories files : List Entry) (fields : List ℕ) : Type 0
  where
    pub spelled : HeaderFieldsBytes (upgraded directory (unit_header unit address_size directories files)) fields
    pub copied : UnitFields unit address_size directory directories files fields

-- whichever directories and files lie in the lists of the unit
abbrev pub AreUpgradedFields : OlderUnit → List ℕ → List ℕ → Type 0
AreUpgradedFields unit directory fields = (address_size : ℕ) → IsAddressSize address_size → (directories files : List Entry)
    → ListsLie unit.format unit.order unit.header directories files → AreFields unit address_size directory directories files fields

-- A format, a number of entries, and entries were added.
pub record AddsTable (head : List ℕ) (count : ℕ) (entries old new : List ℕ) : Type 0 where
  pub table : List ℕ
  pub table_is : CountedTable head count entries table
  pub joined : new ≡ old ++ table

-- how many files there are with file 0, where so many are listed
abbrev pub IsCountFromZero : ℕ → ℕ → Type 0
IsCountFromZero count all = (files : List Entry) → length files ≡ count → length (from_zero files) ≡ all

-- The table of so many files and file 0 was added.
pub record AddsFiles (count : ℕ) (entries old new : List ℕ) : Type 0 where
  pub all : ℕ
  pub count_is : IsCountFromZero count all
  pub added : AddsTable file_head all entries old new

-- Files lie in a list of so many, whose bytes these are.
pub record HasFiles (format : Format) (order : Order) (count : ℕ) (listed : List ℕ) : Type 0 where
  pub files : List Entry
  pub count_is : length files ≡ count
  pub lie : Each (ListedBytes format order file_pairs) files listed

-- the bytes of the first file, where there is one
abbrev pub IsFileZero : Format → Order → ℕ → List ℕ → List ℕ → Type 0
IsFileZero format order count listed bytes =
    (files : List Entry) → length files ≡ count → Each (ListedBytes format order file_pairs) files listed
    → IsFirstFile format order files listed bytes
