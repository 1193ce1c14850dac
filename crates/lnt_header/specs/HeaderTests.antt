-- What `Header::new` finds wrong with parts that no decoded header has. The checks have a fixed order, the least index first.
use Rattle.std.specs.Prelude.{◌≡◌, ℕ, ◌<◌, List, [], ◌∷◌, ◌++◌, length}
use Rattle.std.specs.List.{AllByRecursion, AllZip}
use Rattle.lnt_wire.specs.declared.form.FormValue.{FormValue}
use Rattle.lnt_wire.specs.declared.form.FormValue.TheVariants.{Text}
use Rattle.lnt_wire.specs.FormBytes.{form_of, HasSpelling}
use Rattle.lnt_header.specs.declared.fault.UnitFault.{UnitFault}
use Rattle.lnt_header.specs.declared.fault.UnitFault.TheVariants.{HeaderNumber, EntryNotOfFormat, TextHoldsZero, OpNotOfUnit}
use Rattle.lnt_header.specs.declared.header.Entry.{Entry}
use Rattle.lnt_header.specs.declared.header.Pair.{Pair}
use Rattle.lnt_header.specs.declared.header.EntryTable.TheVariants.{Directories, Files}
use Rattle.lnt_header.specs.HeaderRules.{AreHeaderNumbers, HeaderParts, IsHeader}
use Rattle.lnt_header.specs.OpRules.{Admits}
use Rattle.lnt_header.specs.declared.unit_parts.UnitParts.{UnitParts}

-- the first of the values that fails, and its index
pub record IsFirstNot {X : Type 0} (IsSo : X → Type 0) (values : List X) (index : ℕ) : Type 0 where
  pub before : List X
  pub value : X
  pub past : List X
  pub joined : values ≡ before ++ value ∷ past
  pub index_is : index ≡ length before
  pub all_before : AllByRecursion IsSo before
  pub not_so : IsSo value → ⊥

-- a format of at most 255 pairs, and no entries where there are no pairs
pub record IsFormat (pairs : List Pair) (entries : List Entry) : Type 0 where
  pub few_pairs : length pairs < 256
  pub none_without_pairs : pairs ≡ [] → entries ≡ []

-- the numbers of a header, and two formats
pub record HasNumbersAndFormats (h : HeaderParts) : Type 0 where
  pub numbers : AreHeaderNumbers h.numbers
  pub directories : IsFormat h.directory_format h.directories
  pub files : IsFormat h.file_format h.files

-- any text; or another value that has an encoding, so that a block fits its length
abbrev pub FitsItsForm : FormValue → Type 0
FitsItsForm (Text text) = Unit {0}
FitsItsForm value = HasSpelling value

-- a text without a zero byte, or another value
abbrev pub HoldsNoZero : FormValue → Type 0
HoldsNoZero (Text text) = HasSpelling (Text text)
HoldsNoZero value = Unit {0}

-- a value in the pair's form; if it is a block, it has no more bytes than its length can count
abbrev pub FitsPair : Pair → FormValue → Type 0
FitsPair pair value = (form_of value ≡ pair.form) × FitsItsForm value

-- an entry with one value for each pair, in the pair's form
abbrev pub IsOfFormat : List Pair → Entry → Type 0
IsOfFormat pairs entry = AllZip FitsPair pairs entry.values

-- no text of the entry has a zero byte
abbrev pub HasSoundTexts : Entry → Type 0
HasSoundTexts entry = AllByRecursion HoldsNoZero entry.values

-- each entry of both tables has its table's format
pub record AreOfFormats (h : HeaderParts) : Type 0 where
  pub directories : AllByRecursion (IsOfFormat h.directory_format) h.directories
  pub files : AllByRecursion (IsOfFormat h.file_format) h.files

-- What is wrong. Whatever is checked earlier is valid.
abbrev pub IsPartsFault : UnitFault → HeaderParts → Type 0
IsPartsFault HeaderNumber h = HasNumbersAndFormats h → ⊥
IsPartsFault (EntryNotOfFormat Directories index) h =
    HasNumbersAndFormats h × IsFirstNot (IsOfFormat h.directory_format) h.directories index
IsPartsFault (EntryNotOfFormat Files index) h =
    HasNumbersAndFormats h × AllByRecursion (IsOfFormat h.directory_format) h.directories
    × IsFirstNot (IsOfFormat h.file_format) h.files index
IsPartsFault (TextHoldsZero Directories index) h = HasNumbersAndFormats h × AreOfFormats h × IsFirstNot HasSoundTexts h.directories index
IsPartsFault (TextHoldsZero Files index) h =
    HasNumbersAndFormats h × AreOfFormats h × AllByRecursion HasSoundTexts h.directories × IsFirstNot HasSoundTexts h.files index
IsPartsFault (OpNotOfUnit index) h = ⊥

-- ---- what `Unit::new` finds wrong with parts that no decoded unit has. The header is checked before the operations, and the
-- least index is reported.

-- What is wrong. Whatever is checked earlier is valid.
abbrev pub IsUnitFault : UnitFault → UnitParts → Type 0
IsUnitFault (OpNotOfUnit index) unit = IsHeader unit.header × IsFirstNot (Admits unit.header.numbers) unit.ops index
IsUnitFault fault unit = IsPartsFault fault unit.header
