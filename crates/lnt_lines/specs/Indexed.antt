-- What is kept of a good section by its sequences: the place of each, the programs of their units, and the string sections.
use Rattle.std.specs.Prelude.{◌≡◌, ◌<◌, ◌==◌, ℕ, List, length, map, get_or, Option, Some, IsPermutation, All, option_map}
use Rattle.std.specs.List.{AllByRecursion, AllZip, position, slice_get}
use Rattle.std.specs.Option.{option_and_then, option_map_or}
use Rattle.lnt_header.specs.Joins.{AreRising}
use Rattle.lnt_header.specs.Parts.{HeaderParts}
use Rattle.lnt_header.specs.HeaderRules.{AreHeaderNumbers}
use Rattle.lnt_header.specs.declared.unit_parts.UnitParts.{UnitParts}
use Rattle.lnt_machine.specs.declared.row.Row.{Row}
use Rattle.lnt_machine.specs.declared.row.Sequence.{Sequence}
use Rattle.lnt_machine.specs.Matrix.{sequences}
use Rattle.lnt_machine.specs.Walking.{KeepsProgram, KeptProgram}
use Rattle.lnt_files.specs.Paths.{listed_sum, path_bytes}
use Rattle.lnt_files.specs.Tables.{AreUsableTables}
use Rattle.lnt_sequences.specs.declared.extent.Extent.{Extent}
use Rattle.lnt_sequences.specs.declared.sequence.SeqId.{SeqId}
use Rattle.lnt_sequences.specs.Extents.{AreSettled, extents_of}
use Rattle.lnt_sequences.specs.Rules.{AreApart, AreOrdered, HaveFiles, IsOrdered}
use Rattle.lnt_sequences.specs.Sequences.{kept_sequences, live_in, live_sequences, Selection, answer_of, line_answer, row_at}
use Rattle.lnt_spans.specs.declared.answer.Answer.{Answer}
use Rattle.lnt_spans.specs.declared.position.Position.{Position}
use Rattle.lnt_sequences.specs.Briefs.{IsCacheOf}
use Rattle.lnt_lines.specs.declared.lookups.Cached.{Cached}
use Rattle.lnt_lines.specs.declared.lookups.Known.{Known}

-- the bytes of .debug_line_str and of .debug_str, an entry for each nonempty sequence, the extents of all live sequences if they are
-- asked for, and the offset and the program of each unit
pub record Indexed : Type 0 where
  pub line : List ℕ
  pub general : List ℕ
  pub entries : List Extent
  pub live : List Extent
  pub units : List ℕ
  pub programs : List KeptProgram

-- The index is that of the kept sequences of these units, no two of which hold the same position. Positions fall in no live
-- sequence. The units are in order, and the tables of each are usable.
pub record IsIndexOf (selection : Selection) (index : Indexed) : Type 0 where
  pub settled : AreSettled index.entries
  pub entries : IsPermutation (extents_of (kept_sequences selection)) index.entries
  pub apart : AreApart (kept_sequences selection)
  pub ordered : AreOrdered (live_sequences selection.dead selection.units)
  pub rising : AreRising index.units
  pub offsets : index.units ≡ map (λ unit. unit.0) selection.units
  pub programs : AllZip (λ unit kept. KeepsProgram kept unit.1) selection.units index.programs
  pub tables : AllByRecursion (λ unit. AreUsableTables index.line index.general unit.1.header) selection.units

-- This is so of the units that the index is of, whichever they are.
abbrev pub OfUnits : Indexed → (Selection → Type 0) → Type 0
OfUnits index IsSo = (selection : Selection) → IsIndexOf selection index → IsSo selection

-- It is that of some units. The rows of their live sequences name existing files, and the numbers of their headers can be read.
pub record IsIndex (index : Indexed) : Type 0 where
  pub selection : Selection
  pub index_is : IsIndexOf selection index
  pub files : AllByRecursion (λ unit. HaveFiles (length unit.1.header.files) (live_in selection.dead unit)) selection.units
  pub numbers : AllByRecursion (λ kept. AreHeaderNumbers kept.header.numbers) index.programs

-- ---- the headers of units

-- the header says that no instruction has more than one operation (DWARF 5, section 6.2.4)
abbrev pub HasOneOperation : KeptProgram → Type 0
HasOneOperation kept = kept.header.numbers.max_ops ≡ 1

-- ---- the files of units

-- the header of the unit at an offset, if there is one
abbrev pub header_in : Indexed → ℕ → Option HeaderParts
header_in index unit =
    option_map (λ kept. kept.header) (option_and_then (slice_get index.programs) (position (λ offset. offset == unit) index.units))

-- the number of its files; 0 if there is no unit
abbrev pub file_count_in : Indexed → ℕ → ℕ
file_count_in index unit = option_map_or (λ header. length header.files) (header_in index unit) 0

-- the path of one of its files, if it exists
abbrev pub file_path_in : Indexed → ℕ → ℕ → Option (List ℕ)
file_path_in index unit file = option_and_then (λ header. path_bytes index.line index.general header file) (header_in index unit)

-- the MD5 sum that is listed for one of its files
abbrev pub file_sum_in : Indexed → ℕ → ℕ → Option (List ℕ)
file_sum_in index unit file = option_and_then (λ header. listed_sum header file) (header_in index unit)

-- ---- one sequence

-- The sequence with this id has these rows: of these units and their programs.
pub record IsSequenceIn (units : List ℕ) (programs : List KeptProgram) (id : SeqId) (rows : List Row) : Type 0 where
  pub place : ℕ
  pub unit : UnitParts
  pub place_is : Some place ≡ position (λ offset. offset == id.unit) units
  pub within : place < length programs
  pub keeps : (d : KeptProgram) → KeepsProgram (get_or programs place d) unit
  pub few : id.index < length (sequences unit)
  pub rows_are : (d : Sequence) → rows ≡ (get_or (sequences unit) id.index d).rows

-- ---- the sequence that holds a position, and what is kept of the sequences of an index. No public contract speaks of it.

-- The sequence with this id has rows that answer, whose positions never fall.
pub record Answers (selection : Selection) (index : Indexed) (p : Position) (id : SeqId) : Type 0 where
  pub rows : List Row
  pub sequence_is : IsSequenceIn index.units index.programs id rows
  pub ordered : IsOrdered rows
  pub answer_is : line_answer selection p ≡ option_map (answer_of id.unit) (row_at p rows)

-- it is kept of the sequence with its id
abbrev pub IsCachedOf : Indexed → Cached → Type 0
IsCachedOf index cached = (rows : List Row) → IsSequenceIn index.units index.programs cached.id rows → IsCacheOf rows cached.cache

-- so is all of this
abbrev pub AreKnownOf : Indexed → Known → Type 0
AreKnownOf index known = All (IsCachedOf index) known.sequences.items

-- This is the answer at a position of the sequence with this id, if it is ordered and what is kept is known.
abbrev pub AnswersAt : Indexed → Known → SeqId → Position → Option Answer → Type 0
AnswersAt index known id position answer = (rows : List Row) → AreKnownOf index known
    → IsSequenceIn index.units index.programs id rows → IsOrdered rows → answer ≡ option_map (answer_of id.unit) (row_at position rows)
