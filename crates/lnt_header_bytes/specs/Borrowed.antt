-- Tables whose entries are given as bytes, and headers of such tables: what they stand for. That the bytes encode the
-- entries is `EntryBytes`; the functions here say which entries these are, as a reader finds them.
use Rattle.std.specs.Prelude.{List, ◌≡◌, ℕ, zero, suc, ◌+◌, [], ◌∷◌, drop}
use Rattle.lnt_wire.specs.declared.form.FormValue.{FormValue}
use Rattle.lnt_header.specs.declared.header.Entry.{Entry}
use Rattle.lnt_header.specs.declared.header.Pair.{Pair}
use Rattle.lnt_wire.specs.declared.format.Order.{Order}
use Rattle.lnt_wire.specs.declared.format.Format.{Format}
use Rattle.lnt_wire.specs.FirstValues.{first_value, first_size}
use Rattle.lnt_header.specs.Parts.{HeaderParts}
use Rattle.lnt_header.specs.HeaderRules.{header_of, IsHeader}
use Rattle.lnt_header.specs.declared.numbers.NumberParts.{NumberParts}
use Rattle.lnt_header.specs.Joins.{Each}
pub use Rattle.lnt_header_bytes.specs.declared.in_place.NumbersAndFormats.{NumbersAndFormats}
use Rattle.lnt_header_bytes.specs.TableBytes.{EntryBytes}

-- ---- the forms of a table's pairs, and the entry of some values

-- the entry of these values
abbrev pub entry_of : List FormValue → Entry
entry_of values = record { values = values }

-- ---- entries

-- the values that bytes begin with, one for each pair
abbrev pub first_values : Format → Order → List Pair → List ℕ → List FormValue
first_values format order [] bytes = []
first_values format order (pair ∷ pairs) bytes =
    first_value format order pair.form bytes ∷ first_values format order pairs (drop (first_size format order pair.form bytes) bytes)

-- how many bytes encode them
abbrev pub first_values_size : Format → Order → List Pair → List ℕ → ℕ
first_values_size format order [] bytes = 0
first_values_size format order (pair ∷ pairs) bytes =
    first_size format order pair.form bytes + first_values_size format order pairs (drop (first_size format order pair.form bytes) bytes)

-- the entries that bytes begin with, as many as a count says
abbrev pub first_entries : Format → Order → List Pair → ℕ → List ℕ → List Entry
first_entries format order pairs zero bytes = []
first_entries format order pairs (suc count) bytes = entry_of (first_values format order pairs bytes)
    ∷ first_entries format order pairs count (drop (first_values_size format order pairs bytes) bytes)

-- ---- tables

-- a table, with the format and the order of the numbers of its bytes
pub record BorrowedTable : Type 0 where
  pub format : Format
  pub order : Order
  pub pairs : List Pair
  pub entries : List Entry

abbrev pub borrowed_table : Format → Order → List Pair → ℕ → List ℕ → BorrowedTable
borrowed_table format order pairs count bytes =
    record { format = format; order = order; pairs = pairs; entries = first_entries format order pairs count bytes }

-- these bytes, and no others, encode the table's entries
abbrev pub AreEntryBytes : BorrowedTable → List ℕ → Type 0
AreEntryBytes table bytes = Each (EntryBytes table.format table.order table.pairs) table.entries bytes

-- ---- headers

-- the header of these numbers and tables
abbrev pub borrowed_header : NumberParts → BorrowedTable → BorrowedTable → List ℕ → HeaderParts
borrowed_header numbers directories files extra =
    header_of directories.format numbers directories.pairs directories.entries files.pairs files.entries extra

-- a table in this format and order
pub record IsInForm (format : Format) (order : Order) (table : BorrowedTable) : Type 0 where
  pub format_is : table.format ≡ format
  pub order_is : table.order ≡ order

-- a table in the format and the order of a header
abbrev pub IsTableIn : HeaderParts → BorrowedTable → Type 0
IsTableIn h table = IsInForm h.format h.numbers.order table

-- A header in parts: its numbers, and its two tables.
pub record IsBorrowedHeader (numbers : NumberParts) (directories files : BorrowedTable) (extra : List ℕ) : Type 0 where
  pub header : IsHeader (borrowed_header numbers directories files extra)
  pub directories_in : IsTableIn (borrowed_header numbers directories files extra) directories
  pub files_in : IsTableIn (borrowed_header numbers directories files extra) files

-- the directories of a header with these numbers and formats, this many in these bytes
abbrev pub directories_over : NumbersAndFormats → ℕ → List ℕ → BorrowedTable
directories_over plain count bytes = borrowed_table plain.format plain.numbers.order plain.directory_format count bytes

-- the files
abbrev pub files_over : NumbersAndFormats → ℕ → List ℕ → BorrowedTable
files_over plain count bytes = borrowed_table plain.format plain.numbers.order plain.file_format count bytes

-- the header with these numbers and formats, and this many directories and files in these bytes
abbrev pub header_over : NumbersAndFormats → ℕ → List ℕ → ℕ → List ℕ → List ℕ → HeaderParts
header_over plain directories directory_bytes files file_bytes extra =
    borrowed_header plain.numbers (directories_over plain directories directory_bytes) (files_over plain files file_bytes) extra

-- It is a header, and the bytes are those of its directories and of its files.
pub record IsHeaderOver (plain : NumbersAndFormats) (directories : ℕ) (directory_bytes : List ℕ) (files : ℕ) (file_bytes extra : List ℕ)
    : Type 0 where
  pub header : IsHeader (header_over plain directories directory_bytes files file_bytes extra)
  pub directories_lie : AreEntryBytes (directories_over plain directories directory_bytes) directory_bytes
  pub files_lie : AreEntryBytes (files_over plain files file_bytes) file_bytes
