-- What is wrong with a section that isn't good, and that it is the first thing that is wrong.
--     line, general   the bytes of .debug_line_str and of .debug_str
--     dead            the address at which sequences of dead code begin, if one is given
use Rattle.std.specs.Prelude.{◌≡◌, ◌≢◌, ℕ, List, [], ◌∷◌, ◌++◌, length, Option}
use Rattle.std.specs.List.{AllByRecursion}
use Rattle.lnt_wire.specs.declared.fault.Fault.{Fault}
use Rattle.lnt_header.specs.declared.unit_parts.UnitParts.{UnitParts}
use Rattle.lnt_unit.specs.BrokenUnits.{BrokenSection}
use Rattle.lnt_unit.specs.UnitBytes.{SectionBytes}
use Rattle.lnt_machine.specs.declared.fault.RunFault.TheVariants as run
use Rattle.lnt_machine.specs.Matrix.{IsRunFault, Runs}
use Rattle.lnt_files.specs.declared.tables.EntryTableFault.TheVariants as table
use Rattle.lnt_files.specs.Tables.{IsTablesFault}
use Rattle.lnt_sequences.specs.declared.extent.Overlap.{Overlap}
use Rattle.lnt_sequences.specs.Evidence.{IsFirstFall, IsFirstMissingFile}
use Rattle.lnt_sequences.specs.Extents.{IsFirstOverlap}
use Rattle.lnt_sequences.specs.Rules.{HaveFiles}
use Rattle.lnt_sequences.specs.Sequences.{kept_sequences, live_in, placed_in}
pub use Rattle.lnt_lines.specs.declared.no.No.{No}
use Rattle.lnt_lines.specs.declared.no.No.TheVariants as no
use Rattle.lnt_lines.specs.Good.{IsSoundUnit, IsWellFormed, selected, Options}

-- The unit at this offset has the flaw that is reported, and none of a lower number; and it is the first of its number. A
-- reason that isn't about one unit isn't a flaw.
abbrev pub IsFlaw : List ℕ → List ℕ → Option ℕ → ℕ × UnitParts → No → Type 0
IsFlaw line general dead unit (no.Run offset fault) = (offset ≡ unit.0) × (fault ≢ run.Memory) × IsRunFault unit.1 fault
IsFlaw line general dead unit (no.EntryFormat offset which) =
    (offset ≡ unit.0) × Runs unit.1 × IsTablesFault line general unit.1.header (table.EntryFormat which)
IsFlaw line general dead unit (no.StringOutside offset which entry) =
    (offset ≡ unit.0) × Runs unit.1 × IsTablesFault line general unit.1.header (table.StringOutside which entry)
IsFlaw line general dead unit (no.DirectoryNumber offset file) =
    (offset ≡ unit.0) × Runs unit.1 × IsTablesFault line general unit.1.header (table.DirectoryNumber file)
IsFlaw line general dead unit (no.FileNumber offset row file) =
    (offset ≡ unit.0) × IsWellFormed line general unit.1
    × IsFirstMissingFile dead (length unit.1.header.files) (placed_in unit) (record { row = row; file = file })
IsFlaw line general dead unit (no.Falls offset row) =
    (offset ≡ unit.0) × IsWellFormed line general unit.1 × HaveFiles (length unit.1.header.files) (live_in dead unit)
    × IsFirstFall dead (placed_in unit) row
IsFlaw line general dead unit _ = ⊥

-- A prefix of the section is the bytes of valid units, followed by those of one that has the flaw.
pub record IsFirstFlaw (line general : List ℕ) (options : Options) (section : List ℕ) (reason : No) : Type 0 where
  pub units : List (ℕ × UnitParts)
  pub unit : ℕ × UnitParts
  pub prefix : List ℕ
  pub rest : List ℕ
  pub spelled : SectionBytes options.order (units ++ unit ∷ []) prefix
  pub split : section ≡ prefix ++ rest
  pub sound : AllByRecursion (IsSoundUnit line general options.dead) units
  pub flaw : IsFlaw line general options.dead unit reason

-- No list of units encodes the section. It begins with valid units, and the bytes after them don't begin with a unit, for
-- the fault.
pub record IsMalformed (line general : List ℕ) (options : Options) (section : List ℕ) (fault : Fault) : Type 0 where
  pub broken : BrokenSection options.order fault section
  pub sound : AllByRecursion (IsSoundUnit line general options.dead) broken.true_fault.units

-- The section is the bytes of valid units, and of their kept sequences these are the first that overlap.
pub record IsOverlap (line general : List ℕ) (options : Options) (section : List ℕ) (overlap : Overlap) : Type 0 where
  pub units : List (ℕ × UnitParts)
  pub spelled : SectionBytes options.order units section
  pub sound : AllByRecursion (IsSoundUnit line general options.dead) units
  pub first : IsFirstOverlap (kept_sequences (selected options units)) overlap

-- What is reported is wrong with the section, and it is the first thing that is.
abbrev pub IsTrueNo : List ℕ → List ℕ → Options → List ℕ → No → Type 0
IsTrueNo line general options section (no.Malformed fault) = IsMalformed line general options section fault
IsTrueNo line general options section (no.Overlap first second position) =
    IsOverlap line general options section (record { first = first; second = second; position = position })
IsTrueNo line general options section other = IsFirstFlaw line general options section other
