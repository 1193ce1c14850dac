-- Marks in a table: where some of its entries begin, so that these are found without walking those before them.
use Rattle.std.specs.Prelude.{ℕ, ◌≤◌, List, length, drop, All}
use Rattle.lnt_header_bytes.specs.Borrowed.{BorrowedTable, AreEntryBytes, directories_over, files_over, NumbersAndFormats}
use Rattle.lnt_header_bytes.specs.declared.marks.Mark.{Mark}

-- the table with its entries from this number on
abbrev pub from_entry : ℕ → BorrowedTable → BorrowedTable
from_entry number table = record table { entries = drop number table.entries }

-- The entry with this number begins at this place: the bytes from there on encode it and those after it.
pub record BeginsAt (table : BorrowedTable) (bytes : List ℕ) (number place : ℕ) : Type 0 where
  pub there : number ≤ length table.entries
  pub within : place ≤ length bytes
  pub lies : AreEntryBytes (from_entry number table) (drop place bytes)

-- the marks of a table, whose entries are in these bytes: each is where its entry begins
abbrev pub AreMarks : BorrowedTable → List ℕ → List Mark → Type 0
AreMarks table bytes marks = All (λ mark. BeginsAt table bytes mark.number mark.place) marks

-- these bytes, and no others, encode the table's entries, and the marks are its own
pub record IsMarkedTable (table : BorrowedTable) (bytes : List ℕ) (places : List Mark) : Type 0 where
  pub lies : AreEntryBytes table bytes
  pub marks : AreMarks table bytes places

-- the marks of a header's two tables
pub record AreMarksOver (plain : NumbersAndFormats) (directories : ℕ) (directory_bytes : List ℕ) (files : ℕ) (file_bytes : List ℕ)
    (directory_marks file_marks : List Mark) : Type 0 where
  pub of_directories : AreMarks (directories_over plain directories directory_bytes) directory_bytes directory_marks
  pub of_files : AreMarks (files_over plain files file_bytes) file_bytes file_marks
