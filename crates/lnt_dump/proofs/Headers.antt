-- The lines of a header: those of its numbers, of its directories and of its files.
use Rattle.std.proofs.Common.{arith, ◌≡◌, ℕ, List, ◌++◌, Option, Result, Ok, Err, OnOk, OnErr, refl, append_assoc, codes}
use Rattle.std.proofs.lemmas.Grind.{common_steps}
use Rattle.lnt_io.specs.Prefixes.{AppendsPrefix}
use Rattle.lnt_io.proofs.PrefixLaws.{prefix_before, prefix_same}
use Rattle.lnt_header.specs.declared.header.Entry.{Entry}
use Rattle.lnt_header.specs.Parts.{HeaderParts}
use Rattle.lnt_header.specs.declared.header.Pair.{Pair}
use Rattle.lnt_header.specs.declared.numbers.NumberParts.{NumberParts}
use Rattle.lnt_header_bytes.specs.Borrowed.{BorrowedTable}
use Rattle.lnt_wire.specs.declared.frame.Frame.{Frame}
use Rattle.lnt_dump.specs.Headers.{entry_line, header_lines, numbers_line}
use Rattle.lnt_dump.specs.Units.{numbered, unit_line}
use Rattle.lnt_dump.specs.Stepping.{IsPaged}
use Rattle.lnt_dump.proofs.Pages.{paged_prefix, paged_more}

-- the lines of a table
abbrev table_lines : List ℕ → BorrowedTable → List ℕ
table_lines name table = numbered (entry_line name table.pairs) 0 table.entries

table_is : (name : List ℕ) (table : BorrowedTable) (pairs : List Pair) (entries : List Entry) → table.pairs ≡ pairs
    → table.entries ≡ entries → table_lines name table ≡ numbered (entry_line name pairs) 0 entries
table_is name table pairs entries one two = grind (arith, common_steps)

-- a unit and its header's numbers, whose lines were added to the page, and the directories
module _ (frame : Frame) (header : HeaderParts) (numbers : NumberParts) (directories : BorrowedTable) (page page1 : List ℕ)
    (same : numbers ≡ header.numbers) (dir_pairs : directories.pairs ≡ header.directory_format)
    (dirs : directories.entries ≡ header.directories)
    (added : page1 ≡ page ++ ((codes "unit " ++ unit_line frame) ++ numbers_line numbers)) where
  -- the text of all parts
  all_parts : (files : List ℕ) → files ≡ numbered (entry_line (codes "file") header.file_format) 0 header.files
      → (page1 ++ table_lines (codes "dir") directories) ++ files ≡ page ++ header_lines frame header
  all_parts files files_are = grind (arith, common_steps, table_is, append_assoc)

  -- of the lines of directories a prefix was written
  pub directories_cut : {old new : Option (List ℕ)}
      → AppendsPrefix old new (page1 ++ numbered (entry_line (codes "dir") directories.pairs) 0 directories.entries)
      → AppendsPrefix old new (page ++ header_lines frame header)
  directories_cut {old} {new} f =
      let file_lines = numbered (entry_line (codes "file") header.file_format) 0 header.files in
      prefix_same old new ((page1 ++ table_lines (codes "dir") directories) ++ file_lines) (page ++ header_lines frame header)
      (all_parts file_lines refl) (prefix_before old new (page1 ++ table_lines (codes "dir") directories) file_lines f)

  -- the files after them
  module _ (files : BorrowedTable) (page2 : List ℕ) (old now new : Option (List ℕ))
      (file_pairs : files.pairs ≡ header.file_format) (files_are : files.entries ≡ header.files)
      (paged : IsPaged (page1 ++ numbered (entry_line (codes "dir") directories.pairs) 0 directories.entries) old now page2) where
    with_files : (page1 ++ table_lines (codes "dir") directories) ++ table_lines (codes "file") files ≡ page ++ header_lines frame header
    with_files = grind (arith, common_steps, all_parts, table_is)

    -- all were printed
    pub header_told : {A E : Type 0} (result : Result A E) (page3 : List ℕ)
        → OnOk result (IsPaged (page2 ++ numbered (entry_line (codes "file") files.pairs) 0 files.entries) now new page3)
        → OnOk result (IsPaged (page ++ header_lines frame header) old new page3)
    header_told (Err error) page3 q = q
    header_told (Ok done) page3 q = grind (arith, common_steps, with_files, paged_more)

    -- of their lines a prefix was written
    pub files_cut : {A E : Type 0} (result : Result A E)
        → OnErr result (AppendsPrefix now new (page2 ++ numbered (entry_line (codes "file") files.pairs) 0 files.entries))
        → OnErr result (AppendsPrefix old new (page ++ header_lines frame header))
    files_cut (Ok done) f = f
    files_cut (Err error) f =
        prefix_same old new ((page1 ++ table_lines (codes "dir") directories) ++ table_lines (codes "file") files)
        (page ++ header_lines frame header) with_files (paged_prefix (table_lines (codes "file") files) paged f)
