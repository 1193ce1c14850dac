-- What the bodies of this crate say of one step: of a reader of tables, and of what keeps their entries. Bodies of
-- lnt_dump pass over values too. No public contract speaks of it.
use Rattle.std.specs.Prelude.{◌≤◌, length, take, drop, ◌≡◌, ℕ, List, [], ◌∷◌, ◌++◌, Option, Some}
use Rattle.lnt_header.specs.Parts.{HeaderParts}
use Rattle.lnt_header_bytes.specs.Borrowed.{entry_of, header_over, IsHeaderOver, NumbersAndFormats, BorrowedTable, borrowed_table}
use Rattle.lnt_header_bytes.specs.Borrowed.{AreEntryBytes}
use Rattle.lnt_header_bytes.specs.Marks.{AreMarksOver}
use Rattle.lnt_header_bytes.specs.declared.kept.KeptEntries.{KeptEntries}
use Rattle.lnt_wire.specs.declared.format.Order.{Order}
use Rattle.lnt_wire.specs.declared.format.Format.{Format}
use Rattle.lnt_wire.specs.declared.form.Form.{Form}
use Rattle.lnt_wire.specs.declared.form.FormValue.{FormValue}
use Rattle.lnt_wire.specs.FormBytes.{ValueBytes}
use Rattle.lnt_wire.specs.Reading.{At, Reads}
use Rattle.lnt_header.specs.declared.header.Pair.{Pair}
use Rattle.lnt_header_bytes.specs.declared.numbers.Singles.{Singles}
use Rattle.lnt_header_bytes.specs.declared.read_table.EntryTableRead.{EntryTableRead}
use Rattle.lnt_header_bytes.specs.FieldsBytes.{FieldsBytes}
use Rattle.lnt_header_bytes.specs.HeaderFaults.{MayBe}
use Rattle.lnt_wire.specs.declared.fault.Reason.{Reason}
use Rattle.lnt_wire.specs.declared.fault.Reason.TheVariants.{Truncated}
use Rattle.lnt_header.specs.Joins.{Each}
use Rattle.lnt_header_bytes.specs.TableBytes.{EntryBytes, TableOf}

-- ---- what is kept of a header besides its numbers and formats

-- the header with these numbers and formats, and these entries: the bytes are those of the directories, those of the files and the
-- last ones
abbrev pub kept_header : NumbersAndFormats → KeptEntries → HeaderParts
kept_header plain kept =
    header_over plain kept.directories (take kept.directory_size kept.bytes.items) kept.files
    (take kept.file_size (drop kept.directory_size kept.bytes.items)) (drop kept.file_size (drop kept.directory_size kept.bytes.items))

-- it is a header, with the marks of its tables
pub record IsKeptHeader (plain : NumbersAndFormats) (kept : KeptEntries) : Type 0 where
  pub over : IsHeaderOver plain kept.directories (take kept.directory_size kept.bytes.items) kept.files
      (take kept.file_size (drop kept.directory_size kept.bytes.items)) (drop kept.file_size (drop kept.directory_size kept.bytes.items))
  pub first : kept.directory_size ≤ length kept.bytes.items
  pub second : kept.file_size ≤ length (drop kept.directory_size kept.bytes.items)
  pub marks : AreMarksOver plain kept.directories (take kept.directory_size kept.bytes.items) kept.files
      (take kept.file_size (drop kept.directory_size kept.bytes.items)) kept.directory_marks.items kept.file_marks.items

-- ---- what is read

-- The read moved past as many values as the count says, and these are the bytes.
pub record PassesAll {X : Type 0} (count : ℕ) (Spells : X → List ℕ → Type 0) (bytes : List ℕ) (old new : At) : Type 0 where
  pub values : List X
  pub count_is : length values ≡ count
  pub read : Reads (Each Spells) values old new
  pub bytes_are : bytes ≡ read.spelling

-- what was read of a table: its pairs, and its entries in the format and the order of their bytes
abbrev pub lying_table : Format → Order → EntryTableRead → BorrowedTable
lying_table format order table = borrowed_table format order table.pairs.items table.entries.count table.entries.bytes.now

-- The read gave a table in this format and the order of the bytes that are read, and moved past the bytes that encode it.
pub record IsEntryTableRead (format : Format) (table : EntryTableRead) (old new : At) : Type 0 where
  pub lies : AreEntryBytes (lying_table format old.order table) table.entries.bytes.now
  pub read : Reads (TableOf format old.order) (table.pairs.items, (lying_table format old.order table).entries) old new

-- The read gave the fields of a header up to its file table, and moved past the bytes that encode them.
pub record AreFieldsRead (format : Format) (singles : Singles) (lengths : List ℕ) (directories files : EntryTableRead) (old new : At) : Type
    0 where
  pub directories_lie : AreEntryBytes (lying_table format old.order directories) directories.entries.bytes.now
  pub files_lie : AreEntryBytes (lying_table format old.order files) files.entries.bytes.now
  pub read : Reads (FieldsBytes format old.order) (
    singles,
    (
      lengths,
      (
        (directories.pairs.items, (lying_table format old.order directories).entries),
        (files.pairs.items, (lying_table format old.order files).entries),
      ),
    ),
  ) old new

-- The read gave the next value of an entry, after so many others, and what is kept of those and of this one.
pub record KeepsNext (format : Format) (form : Form) (count : ℕ) (Before After : List FormValue → Type 0) (old new : At) : Type 0 where
  pub value : FormValue
  pub read : Reads (ValueBytes format old.order form) value old new
  pub keeps : (values : List FormValue) → length values ≡ count → Before values → After (values ++ value ∷ [])

-- The read moved past an entry with these pairs, and this is kept of its values.
pub record KeepsEntry (format : Format) (pairs : List Pair) (HasKept : List FormValue → Type 0) (old new : At) : Type 0 where
  pub values : List FormValue
  pub read : Reads (EntryBytes format old.order pairs) (entry_of values) old new
  pub kept : HasKept values

-- The read gave one more value.
pub record ReadsNext {X : Type 0} (Spells : X → List ℕ → Type 0) (before after : List X) (old new : At) : Type 0 where
  pub value : X
  pub added : after ≡ before ++ value ∷ []
  pub read : Reads Spells value old new

-- ---- fields of one byte

-- a byte that the field may hold
abbrev pub ByteOf : Option Reason → ℕ → List ℕ → Type 0
ByteOf zero_reason byte bytes = MayBe zero_reason byte × (bytes ≡ byte ∷ [])

-- It isn't there, or is 0 and may not be.
pub data IsByteFault (zero_reason : Option Reason) (reason : Reason) (bytes : List ℕ) : Type 0 where
  no_byte : reason ≡ Truncated → bytes ≡ [] → IsByteFault zero_reason reason bytes
  is_zero : (more : List ℕ) → zero_reason ≡ Some reason → bytes ≡ 0 ∷ more → IsByteFault zero_reason reason bytes

-- ---- entries that are kept

-- The entries that were kept are those of the header of these numbers and tables, with their marks.
pub record AreKept (plain : NumbersAndFormats) (directories : ℕ) (directory_bytes : List ℕ) (files : ℕ) (file_bytes extra : List ℕ)
    (kept : KeptEntries) : Type 0 where
  pub is_kept : IsKeptHeader plain kept
  pub same : kept_header plain kept ≡ header_over plain directories directory_bytes files file_bytes extra
