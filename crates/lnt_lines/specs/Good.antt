-- What makes a section good (DWARF 5, section 6.2).
--     line, general   the bytes of .debug_line_str and of .debug_str
--     dead            the address at which sequences of dead code begin, if one is given
use Rattle.std.specs.Prelude.{ℕ, List, length, Option}
use Rattle.std.specs.List.{AllByRecursion}
use Rattle.lnt_header.specs.declared.unit_parts.UnitParts.{UnitParts}
use Rattle.lnt_unit.specs.UnitBytes.{SectionBytes}
use Rattle.lnt_machine.specs.Matrix.{Runs}
use Rattle.lnt_files.specs.Tables.{AreUsableTables}
use Rattle.lnt_sequences.specs.Rules.{AreApart, AreOrdered, HaveFiles}
use Rattle.lnt_sequences.specs.Sequences.{kept_sequences, live_in, Selection}
pub use Rattle.lnt_lines.specs.declared.options.Options.{Options}

-- A unit whose program runs, and whose tables are usable: each file's directory exists, and each path has its text.
pub record IsWellFormed (line general : List ℕ) (unit : UnitParts) : Type 0 where
  pub runs : Runs unit
  pub tables : AreUsableTables line general unit.header

-- A well-formed unit, which is at an offset. The rows of its live sequences name existing files, and their positions never
-- fall.
pub record IsSoundUnit (line general : List ℕ) (dead : Option ℕ) (unit : ℕ × UnitParts) : Type 0 where
  pub well_formed : IsWellFormed line general unit.1
  pub files : HaveFiles (length unit.1.header.files) (live_in dead unit)
  pub ordered : AreOrdered (live_in dead unit)

-- the sequences that the options select of units
abbrev pub selected : Options → List (ℕ × UnitParts) → Selection
selected options units = record { dead = options.dead; skip = options.skip_copies; units = units }

-- The section is the bytes of these units. Each of them is valid, and no position is held by two of their kept sequences:
-- the live ones, without the copies if these are skipped.
pub record IsGood (line general : List ℕ) (options : Options) (section : List ℕ) (units : List (ℕ × UnitParts)) : Type 0 where
  pub spelled : SectionBytes options.order units section
  pub sound : AllByRecursion (IsSoundUnit line general options.dead) units
  pub apart : AreApart (kept_sequences (selected options units))
