-- What makes the directories and files of a header usable, and what is wrong if they aren't (DWARF 5, section 6.2.4.1).
--     line, general   the bytes of .debug_line_str and of .debug_str
use Rattle.std.specs.Prelude.{ℕ, ◌<◌, ◌↔◌, List, drop, IsSome, ◌≡◌, ◌⊎◌, [], length, IsSomeAnd, IfSome}
use Rattle.lnt_wire.specs.FormBytes.{up_to_zero}
use Rattle.std.specs.List.{AllByRecursion}
use Rattle.lnt_wire.specs.declared.form.Form.{Form}
use Rattle.lnt_wire.specs.declared.form.Form.TheVariants.{Data1, Data2, Data4, Data8, Data16, Text, Strp, LineStrp, Udata}
use Rattle.lnt_header.specs.declared.header.Entry.{Entry}
use Rattle.lnt_header.specs.Parts.{HeaderParts}
use Rattle.lnt_header.specs.declared.header.Pair.{Pair}
use Rattle.lnt_header.specs.declared.header.EntryTable.TheVariants.{Directories, Files}
use Rattle.lnt_header.specs.HeaderTests.{IsFirstNot}
use Rattle.lnt_files.specs.declared.tables.EntryTableFault.{EntryTableFault}
use Rattle.lnt_files.specs.declared.tables.EntryTableFault.TheVariants.{EntryFormat, StringOutside, DirectoryNumber}
use Rattle.lnt_files.specs.Contents.{content_path, content_directory_index, content_md5, form_at, path_text, directory_number}

-- ---- which offsets into a string section have a text: those before its last zero byte and that byte's own (DWARF 5, section 7.5.5)

-- the bytes of .debug_line_str and of .debug_str
pub record Sections : Type 0 where
  pub line : List ℕ
  pub general : List ℕ

-- exactly the offsets below the end have a text
pub record TextsEndAt (end : ℕ) (section : List ℕ) : Type 0 where
  pub texts : (offset : ℕ) → IsSome (up_to_zero (drop offset section)) ↔ (offset < end)

-- ---- tables that can be used

-- the forms of paths
abbrev pub IsPathForm : Form → Type 0
IsPathForm Text = Unit {0}
IsPathForm LineStrp = Unit {0}
IsPathForm Strp = Unit {0}
IsPathForm _ = ⊥

-- the forms of directory numbers
abbrev pub IsNumberForm : Form → Type 0
IsNumberForm Udata = Unit {0}
IsNumberForm Data1 = Unit {0}
IsNumberForm Data2 = Unit {0}
IsNumberForm Data4 = Unit {0}
IsNumberForm Data8 = Unit {0}
IsNumberForm _ = ⊥

-- the form of MD5 sums
abbrev pub IsSumForm : Form → Type 0
IsSumForm Data16 = Unit {0}
IsSumForm _ = ⊥

-- A format with a path, and with directory numbers and sums, if it has any, in their forms. Other components may have any form.
pub record IsUsableFormat (pairs : List Pair) : Type 0 where
  pub path : IsSomeAnd (form_at content_path pairs) IsPathForm
  pub directory_index : IfSome (form_at content_directory_index pairs) IsNumberForm
  pub md5 : IfSome (form_at content_md5 pairs) IsSumForm

-- a table without entries isn't judged
abbrev pub HasUsableFormat : List Pair → List Entry → Type 0
HasUsableFormat pairs entries = (entries ≡ []) ⊎ IsUsableFormat pairs

-- the entry's path has a text
abbrev pub HasPath : List ℕ → List ℕ → List Pair → Entry → Type 0
HasPath line general pairs entry = IsSome (path_text line general pairs entry)

-- a table in a usable format, with the text of each path
pub record IsUsableTable (line general : List ℕ) (pairs : List Pair) (entries : List Entry) : Type 0 where
  pub format : HasUsableFormat pairs entries
  pub paths : AllByRecursion (HasPath line general pairs) entries

-- the directory that the file names exists
abbrev pub HasDirectory : HeaderParts → Entry → Type 0
HasDirectory h file = directory_number h.file_format file < length h.directories

-- two usable tables, and no file that names a missing directory
pub record AreUsableTables (line general : List ℕ) (h : HeaderParts) : Type 0 where
  pub directories : IsUsableTable line general h.directory_format h.directories
  pub files : IsUsableTable line general h.file_format h.files
  pub numbers : AllByRecursion (HasDirectory h) h.files

-- ---- what is wrong

pub record HaveUsableFormats (h : HeaderParts) : Type 0 where
  pub directories : HasUsableFormat h.directory_format h.directories
  pub files : HasUsableFormat h.file_format h.files

-- What is wrong. Whatever is checked earlier is valid.
abbrev pub IsTablesFault : List ℕ → List ℕ → HeaderParts → EntryTableFault → Type 0
IsTablesFault line general h (EntryFormat Directories) = HasUsableFormat h.directory_format h.directories → ⊥
IsTablesFault line general h (EntryFormat Files) =
    HasUsableFormat h.directory_format h.directories × (HasUsableFormat h.file_format h.files → ⊥)
IsTablesFault line general h (StringOutside Directories index) =
    HaveUsableFormats h × IsFirstNot (HasPath line general h.directory_format) h.directories index
IsTablesFault line general h (StringOutside Files index) =
    HaveUsableFormats h × AllByRecursion (HasPath line general h.directory_format) h.directories
    × IsFirstNot (HasPath line general h.file_format) h.files index
IsTablesFault line general h (DirectoryNumber index) =
    IsUsableTable line general h.directory_format h.directories × IsUsableTable line general h.file_format h.files
    × IsFirstNot (HasDirectory h) h.files index
