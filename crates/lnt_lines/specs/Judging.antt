-- The verdict on one unit: that it is valid, and what is kept of it; or the first thing that is wrong with it. Public
-- contracts speak of whole sections alone, the last definitions here.
--     line, general   the bytes of .debug_line_str and of .debug_str
--     dead            the address at which sequences of dead code begin, if one is given
use Rattle.std.specs.Prelude.{◌≡◌, ℕ, ◌^◌, ◌<◌, List, [], ◌∷◌, ◌++◌, length, drop, MatchOption, Option}
use Rattle.lnt_wire.specs.declared.fault.Fault.{Fault}
use Rattle.lnt_unit.specs.Units.{BufferedUnit}
use Rattle.lnt_header.specs.declared.unit_parts.UnitParts.{UnitParts}
use Rattle.lnt_unit.specs.BrokenUnits.{BrokenUnit}
use Rattle.lnt_unit.specs.UnitBytes.{UnitBytesIn}
use Rattle.lnt_unit.specs.Views.{HasCount, View}
use Rattle.lnt_machine.specs.declared.fault.RunFault.{RunFault}
use Rattle.lnt_machine.specs.declared.row.Row.{Row}
use Rattle.lnt_machine.specs.Matrix.{rows, Runs}
use Rattle.lnt_machine.specs.Walking.{KeepsProgram, KeptProgram}
use Rattle.lnt_sequences.specs.declared.collected.Collected.{Collected}
use Rattle.lnt_sequences.specs.Copies.{AreExtentsOf}
use Rattle.lnt_sequences.specs.Sequences.{live_of, live_sequences, Placed, placed_rows}
use Rattle.lnt_sequences.specs.Evidence.{IsFirstFall, IsFirstMissingFile}
use Rattle.lnt_sequences.specs.Rules.{AreOrdered, HaveFiles}
use Rattle.lnt_sequences.specs.Watching.{Collects, CollectsRows}
use Rattle.lnt_lines.specs.declared.judge.SoundUnit.{SoundUnit}
use Rattle.lnt_lines.specs.declared.run.Findings.{Findings}
use Rattle.lnt_lines.specs.declared.no.No.TheVariants as no
pub use Rattle.lnt_lines.specs.declared.refusal.Refusal.{Refusal}
use Rattle.lnt_lines.specs.declared.refusal.Refusal.TheVariants as refusal
use Rattle.lnt_io.specs.declared.stop.Stop.TheVariants as stop
use Rattle.lnt_lines.specs.Good.{IsSoundUnit, IsGood, selected, Options}
use Rattle.lnt_lines.specs.Nos.{IsFlaw, No, IsTrueNo}
use Rattle.lnt_lines.specs.declared.section.Judged.{Judged}
use Rattle.lnt_lines.specs.declared.section.Judged.TheVariants.{Good, Bad}
use Rattle.lnt_lines.specs.declared.section.JudgedIndex.{JudgedIndex}
use Rattle.lnt_lines.specs.declared.section.JudgedIndex.TheVariants as index
use Rattle.lnt_lines.specs.Contents.{Contents, AreContentsOf}
use Rattle.lnt_lines.specs.Indexed.{Indexed, IsIndexOf}

-- The bytes of the buffer are those of a unit with this flaw.
pub record HasFlaw (line general : List ℕ) (dead : Option ℕ) (buffer : BufferedUnit) (reason : No) : Type 0 where
  pub unit : UnitParts
  pub spelled : UnitBytesIn buffer.order unit buffer.bytes
  pub flaw : IsFlaw line general dead (buffer.offset, unit) reason

-- What is reported of the unit in the buffer is true.
abbrev pub IsUnitNo : List ℕ → List ℕ → Option ℕ → BufferedUnit → No → Type 0
IsUnitNo line general dead buffer (no.Malformed fault) = BrokenUnit buffer.order fault buffer.offset buffer.bytes
IsUnitNo line general dead buffer other = HasFlaw line general dead buffer other

-- A unit is rejected for what is wrong with it, or for lack of memory.
abbrev pub IsUnitRefusal : List ℕ → List ℕ → Option ℕ → BufferedUnit → Refusal → Type 0
IsUnitRefusal line general dead buffer (refusal.No reason) = IsUnitNo line general dead buffer reason
IsUnitRefusal line general dead buffer (refusal.Stop stop.Memory) = Unit {0}
IsUnitRefusal line general dead buffer (refusal.Stop _) = ⊥

-- What is reported if an operation leads out of the range of lines: the fault, if the bytes are those of a unit, and
-- otherwise why they aren't.
pub data IsRefusalOfRun (view : View) (unit : ℕ) (fault : RunFault) (refused : Refusal) : Type 0 where
  of_unit : (count : ℕ) → HasCount view count → refused ≡ refusal.No (no.Run unit fault) → IsRefusalOfRun view unit fault refused
  broken : (first : Fault) → BrokenUnit view.unit.order first view.unit.offset view.unit.bytes → refused ≡ refusal.No (no.Malformed first)
      → IsRefusalOfRun view unit fault refused

-- The program of the unit ran to its end. This was found wrong with its rows, this is collected of them, and these are the places of its
-- sequences.
pub record HasRun (dead : Option ℕ) (view : View) (IsCollected : List Row → Type 0) (places : List ℕ) (found : Findings) : Type 0 where
  pub unit : UnitParts
  pub header_is : unit.header ≡ view.header
  pub spelled : UnitBytesIn view.unit.order unit view.unit.bytes
  pub runs : Runs unit
  pub few : length (rows unit) < 2 ^ 64
  pub files : MatchOption found.missing (HaveFiles (length unit.header.files) (live_of dead (placed_rows view.unit.offset (rows unit))))
      (IsFirstMissingFile dead (length unit.header.files) (placed_rows view.unit.offset (rows unit)))
  pub ordered : MatchOption found.falls (AreOrdered (live_of dead (placed_rows view.unit.offset (rows unit))))
      (IsFirstFall dead (placed_rows view.unit.offset (rows unit)))
  pub collects : IsCollected (rows unit)
  pub kept : KeepsProgram (record { header = view.header; program = view.program; places = places }) unit

-- Whatever was collected before, it now is with these rows of the unit at an offset, too.
abbrev pub CollectsAlso : Option ℕ → ℕ → Collected → Collected → List Row → Type 0
CollectsAlso dead unit old now rows = (sequences : List Placed) → Collects old sequences → CollectsRows dead unit now sequences rows

-- what is kept of the unit in the buffer: its program extends to the end of the bytes
abbrev pub kept_program_of : BufferedUnit → SoundUnit → KeptProgram
kept_program_of buffer unit = record { header = unit.header; program = drop unit.start buffer.bytes; places = unit.places.items }

-- The bytes of the buffer are those of a valid unit, whose program is kept. What its live sequences hold was collected.
pub record IsJudgedSound (line general : List ℕ) (dead : Option ℕ) (buffer : BufferedUnit) (old new : Collected)
    (kept : KeptProgram) : Type 0 where
  pub unit : UnitParts
  pub spelled : UnitBytesIn buffer.order unit buffer.bytes
  pub sound : IsSoundUnit line general dead (buffer.offset, unit)
  pub keeps : KeepsProgram kept unit
  pub collects : (units : List (ℕ × UnitParts)) → Collects old (live_sequences dead units)
      → Collects new (live_sequences dead (units ++ (buffer.offset, unit) ∷ []))

-- A unit whose program ran to its end, and with whose rows this was found wrong, has this flaw; or it is valid.
abbrev pub IsFlawedRun : List ℕ → List ℕ → View → Findings → No → Type 0
IsFlawedRun line general view found reason = (dead : Option ℕ) (places : List ℕ) (old new : Collected)
    → HasRun dead view (CollectsAlso dead view.unit.offset old new) places found → IsUnitNo line general dead view.unit reason

abbrev pub IsSoundRun : List ℕ → List ℕ → View → Findings → Type 0
IsSoundRun line general view found = (dead : Option ℕ) (places : List ℕ) (old new : Collected)
    → HasRun dead view (CollectsAlso dead view.unit.offset old new) places found
    → IsJudgedSound line general dead view.unit old new (record { header = view.header; program = view.program; places = places })

-- ---- the state of judging a section, unit by unit
--     line, general   the bytes of .debug_line_str and of .debug_str
--     dead            the address at which sequences of dead code begin, if one is given

-- The section is good, and these are its lines.
pub record AreLinesOf (line general : List ℕ) (options : Options) (section : List ℕ) (lines : Contents) : Type 0 where
  pub units : List (ℕ × UnitParts)
  pub good : IsGood line general options section units
  pub tells : AreContentsOf line general (selected options units) lines

-- The section is good, and this is the index of its units.
pub record IsIndexOfSection (line general : List ℕ) (options : Options) (section : List ℕ) (index : Indexed) : Type 0 where
  pub units : List (ℕ × UnitParts)
  pub good : IsGood line general options section units
  pub index_is : IsIndexOf (selected options units) index
  pub line_is : index.line ≡ line
  pub general_is : index.general ≡ general

-- The same, and the index has the extents of all live sequences, copies too.
pub record IsIndexWithCopies (line general : List ℕ) (options : Options) (section : List ℕ) (index : Indexed) : Type 0 where
  pub indexed : IsIndexOfSection line general options section index
  pub live : AreExtentsOf (live_sequences options.dead indexed.units) index.live

-- The lines are those of the section, which is good; or it isn't good, and that is why.
abbrev pub IsJudged : List ℕ → List ℕ → Options → List ℕ → Judged → Type 0
IsJudged line general options section (Good lines) = AreLinesOf line general options section lines
IsJudged line general options section (Bad reason) = IsTrueNo line general options section reason

-- The index is that of the section, which is good; or it isn't good, and that is why.
abbrev pub IsJudgedIndex : List ℕ → List ℕ → Options → List ℕ → JudgedIndex → Type 0
IsJudgedIndex line general options section (index.Good indexed) = IsIndexOfSection line general options section indexed
IsJudgedIndex line general options section (index.Bad reason) = IsTrueNo line general options section reason

-- The same of an index that has the extents of all live sequences.
abbrev pub IsJudgedWithCopies : List ℕ → List ℕ → Options → List ℕ → JudgedIndex → Type 0
IsJudgedWithCopies line general options section (index.Good indexed) = IsIndexWithCopies line general options section indexed
IsJudgedWithCopies line general options section (index.Bad reason) = IsTrueNo line general options section reason
