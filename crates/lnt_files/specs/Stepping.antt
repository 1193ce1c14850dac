-- What the bodies of this crate say of one step. No public contract speaks of it.
use Rattle.std.specs.Prelude.{ℕ, List, ◌≡◌, zero, suc, [], ◌∷◌, length, Option, Some, option_map, option_and_then}
use Rattle.lnt_files.specs.declared.paths.Pieces.{Pieces}
use Rattle.lnt_files.specs.Paths.{join, file_path}
use Rattle.std.specs.List.{AllZip, slice_get}
use Rattle.lnt_wire.specs.Reading.{At, Reads}
use Rattle.lnt_wire.specs.Borrowed.{value_of}
use Rattle.lnt_wire.specs.declared.form.FormValue.{FormValue}
use Rattle.lnt_wire.specs.declared.format.Format.{Format}
use Rattle.lnt_wire.specs.declared.view.ValueView.{ValueView}
use Rattle.lnt_header_bytes.specs.TableBytes.{EntryBytes}
use Rattle.lnt_header.specs.declared.header.Entry.{Entry}
use Rattle.lnt_header.specs.Parts.{HeaderParts}
use Rattle.lnt_header.specs.declared.header.Pair.{Pair}
use Rattle.lnt_files.specs.declared.components.Places.{Places}
use Rattle.lnt_files.specs.declared.files.PathEnd.{PathEnd}
use Rattle.lnt_files.specs.Contents.{sum_of}
use Rattle.lnt_files.specs.Files.{KeptFile, EndAt, kept_files}
use Rattle.lnt_files.specs.Walks.{Says, EntryView}

-- ---- the pieces of the path of a file: directory 0, the file's own directory, and its name. No public contract speaks of it.

-- the name, below the directory, below directory 0
abbrev pub whole_path : Pieces → List ℕ
whole_path pieces = join (join pieces.first.now pieces.directory.now) pieces.name.now

-- ---- the components of an entry

-- the read of an entry, and its components
pub record ReadsEntry (format : Format) (pairs : List Pair) (view : EntryView) (old new : At) : Type 0 where
  pub entry : Entry
  pub says : Says pairs entry view
  pub read : Reads (EntryBytes format old.order pairs) entry old new

-- the component is the value at the place, if that was read
abbrev pub IsComponent : Option ℕ → List FormValue → Option ValueView → Type 0
IsComponent place values kept = option_map value_of kept ≡ option_and_then (slice_get values) place

-- what was kept of these values are the first components of the content types
pub record AreComponents (places : Places) (values : List FormValue) (view : EntryView) : Type 0 where
  pub path : IsComponent places.path values view.path
  pub directory : IsComponent places.directory values view.directory
  pub sum : IsComponent places.sum values view.sum

-- ---- the files that are kept

-- where the path of a file begins
abbrev pub start_of : ℕ → List PathEnd → ℕ → ℕ
start_of start files zero = start
start_of start [] (suc number) = start
start_of start (file ∷ files) (suc number) = start_of file.end files number

-- the path and the sum of an entry
pub record IsKeptFile (line general : List ℕ) (h : HeaderParts) (file : Entry) (kept : KeptFile) : Type 0 where
  pub path : file_path line general h file ≡ Some kept.path
  pub sum : sum_of h.file_format file ≡ kept.listed

-- these paths and ends are those of the entries
pub record KeepsFiles (line general : List ℕ) (h : HeaderParts) (files : List Entry) (paths : List ℕ) (kept : List PathEnd) : Type 0 where
  pub ends : EndAt (length paths) 0 kept
  pub same : AllZip (IsKeptFile line general h) files (kept_files paths 0 kept)
