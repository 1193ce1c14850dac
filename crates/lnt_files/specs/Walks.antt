-- Entries that are read in place, one after another. No public contract speaks of it.
use Rattle.std.specs.Prelude.{◌≡◌, ℕ, List, [], ◌∷◌, Option, Some, None, option_map, ◌<◌, Bool, true, false, ◌++◌, length}
use Rattle.lnt_wire.specs.Reading.{At}
use Rattle.lnt_wire.specs.Borrowed.{value_of}
use Rattle.lnt_header_bytes.specs.Borrowed.{BorrowedTable, borrowed_table, AreEntryBytes}
use Rattle.lnt_header.specs.declared.header.Entry.{Entry}
use Rattle.lnt_header.specs.declared.header.Pair.{Pair}
use Rattle.lnt_files.specs.declared.components.Places.{Places}
pub use Rattle.lnt_files.specs.declared.walk.EntryView.{EntryView}
use Rattle.lnt_files.specs.Contents.{content_path, content_directory_index, content_md5, place_of, component, directory_number}
use Rattle.std.specs.List.{AllByRecursion, slice_get}
use Rattle.lnt_header.specs.HeaderTests.{IsFirstNot}
use Rattle.lnt_header.specs.declared.header.EntryTable.TheVariants.{Files}
use Rattle.lnt_files.specs.declared.tables.EntryTableFault.{EntryTableFault}
use Rattle.lnt_files.specs.declared.tables.EntryTableFault.TheVariants.{StringOutside, DirectoryNumber}
use Rattle.lnt_files.specs.Tables.{HasPath}

-- ---- the components of an entry

-- The view has the first component of each content type.
pub record Says (pairs : List Pair) (entry : Entry) (view : EntryView) : Type 0 where
  pub path : option_map value_of view.path ≡ component content_path pairs entry
  pub directory : option_map value_of view.directory ≡ component content_directory_index pairs entry
  pub sum : option_map value_of view.sum ≡ component content_md5 pairs entry

-- The next entry of a walk: its components, and the entries after it.
pub record GivesEntry (old : BorrowedTable) (view : EntryView) (new : BorrowedTable) : Type 0 where
  pub entry : Entry
  pub entries_are : old.entries ≡ entry ∷ new.entries
  pub pairs_are : new.pairs ≡ old.pairs
  pub says : Says old.pairs entry view

-- one step of a walk
abbrev pub EntryStep : BorrowedTable → Option EntryView → BorrowedTable → Type 0
EntryStep old None new = (old.entries ≡ []) × (new ≡ old)
EntryStep old (Some view) new = GivesEntry old view new

-- ---- how it is read

-- the first component of each of the three content types stands at these places
pub record ArePlaces (places : Places) (pairs : List Pair) : Type 0 where
  pub path : places.path ≡ place_of content_path pairs
  pub directory : places.directory ≡ place_of content_directory_index pairs
  pub sum : places.sum ≡ place_of content_md5 pairs

-- the table with the remaining entries
abbrev pub left_of : BorrowedTable → ℕ → At → BorrowedTable
left_of table left at = borrowed_table table.format table.order table.pairs left at.rest

-- a walk is before this many entries, whose bytes remain
pub record IsWalk (table : BorrowedTable) (places : Places) (left : ℕ) (at : At) : Type 0 where
  pub places_are : ArePlaces places table.pairs
  pub order_is : at.order ≡ table.order
  pub bytes : AreEntryBytes (left_of table left at) at.rest

-- ---- entries of a table that a walk has seen. No public contract speaks of it.

-- the first missing index, once it is known whether this one exists
abbrev pub first_missing : Option ℕ → ℕ → Bool → Option ℕ
first_missing (Some first) index is_there = Some first
first_missing None index true = None
first_missing None index false = Some index

-- a file whose directory number is below the count
abbrev pub NamesDirectoryBelow : ℕ → List Pair → Entry → Type 0
NamesDirectoryBelow count pairs file = directory_number pairs file < count

-- each file has the text of its path and its directory
pub record HasAll (line general : List ℕ) (count : ℕ) (files : BorrowedTable) : Type 0 where
  pub paths : AllByRecursion (HasPath line general files.pairs) files.entries
  pub numbers : AllByRecursion (NamesDirectoryBelow count files.pairs) files.entries

-- the first file without the text of its path; otherwise the first without its directory
abbrev pub IsFilesFault : List ℕ → List ℕ → ℕ → BorrowedTable → EntryTableFault → Type 0
IsFilesFault line general count files (StringOutside Files index) = IsFirstNot (HasPath line general files.pairs) files.entries index
IsFilesFault line general count files (DirectoryNumber index) =
    AllByRecursion (HasPath line general files.pairs) files.entries × IsFirstNot (NamesDirectoryBelow count files.pairs) files.entries index
IsFilesFault line general count files fault = ⊥

-- the components of the entry with this number, if there is one
abbrev pub EntryAt : BorrowedTable → ℕ → Option EntryView → Type 0
EntryAt table number None = slice_get table.entries number ≡ None
EntryAt table number (Some view) = (entry : Entry) × (slice_get table.entries number ≡ Some entry) × Says table.pairs entry view

-- A walk over the table stands after these entries.
pub record HasSeenEntries (seen : List Entry) (table walk : BorrowedTable) (count : ℕ) : Type 0 where
  pub joined : table.entries ≡ seen ++ walk.entries
  pub count_is : length seen ≡ count
  pub pairs_are : walk.pairs ≡ table.pairs
