-- Laws of sections that are written anew.
use Rattle.std.specs.Prelude.{◌≡◌, ◌≢◌, ℕ, suc, List, [], get_or, Option}
use Rattle.lnt_wire.specs.declared.format.Order.{Order}
use Rattle.lnt_header.specs.Joins.{Each}
use Rattle.lnt_header.specs.Parts.{HeaderParts}
use Rattle.lnt_header.specs.declared.header.Entry.{Entry}
use Rattle.lnt_header.specs.declared.op.Op.{Op}
use Rattle.lnt_header.specs.declared.unit_parts.UnitParts.{UnitParts}
use Rattle.lnt_header_bytes.specs.HeaderBytes.{HeaderBytesIn}
use Rattle.lnt_ops.specs.OpBytes.{OpBytes}
use Rattle.lnt_machine.specs.Matrix.{rows, rows_after}
use Rattle.lnt_machine.specs.declared.row.Row.{Row}
use Rattle.lnt_unit.specs.UnitBytes.{UnitBytesIn}
use Rattle.lnt_older.specs.Upgraded.{upgraded}
use Rattle.lnt_unit.specs.UnitBytes.{SectionBytes}
use Rattle.lnt_older.specs.Sections.{IsUpgraded, IsUpgradeFault}
use Rattle.lnt_older.specs.declared.directories.Directory.{Directory}
use Rattle.lnt_older.specs.declared.section.UpgradeFault.{UpgradeFault}
use Rattle.lnt_older.specs.declared.section.UpgradeFault.TheVariants.{Memory}

-- A section of version 5 alone is written anew as itself.
abbrev pub SameSection : Type 0
SameSection = (order : Order) (address_size : ℕ) (directories : List Directory) (units : List (ℕ × UnitParts)) (section result : List ℕ)
    → SectionBytes order units section → IsUpgraded order address_size directories section result → result ≡ section

-- At most one fault is true of a section and its file of directories: of malformed bytes at one place and for one reason. Want of
-- memory says nothing of them.
abbrev pub OneUpgradeFault : Type 0
OneUpgradeFault = (order : Order) (address_size : ℕ) (section : List ℕ) (text : Option (List ℕ)) (one other : UpgradeFault)
    → one ≢ Memory → other ≢ Memory → IsUpgradeFault order address_size section text one
    → IsUpgradeFault order address_size section text other → one ≡ other

-- ---- rows

-- The rows of the program of an older unit: those of the operations that it is spelled by, as they change the registers in a unit with
-- these numbers. They are the same in each version (DWARF 2 to 5, sections 6.2.2 and 6.2.5).
pub record AreOlderRows (header : HeaderParts) (program : List ℕ) (made : List Row) : Type 0 where
  pub ops : List Op
  pub spelled : Each (OpBytes header.numbers) ops program
  pub rows_are : made ≡ rows_after header.numbers [] ops

-- The entry with a number from 1 on is the same in both lists, of which one counts from 1 and the other from 0.
abbrev pub AreListedFromOne : List Entry → List Entry → Type 0
AreListedFromOne from_one from_zero = (number : ℕ) (other : Entry) → get_or from_zero (suc number) other ≡ get_or from_one number other

-- The unit of version 5 for an older one has its rows, and its directories and files but for those with number 0: directory 0 is the
-- one in which the unit was compiled, and file 0 is none of the older unit's.
pub record SaysTheSame (header : HeaderParts) (program : List ℕ) (unit : UnitParts) : Type 0 where
  pub made : AreOlderRows header program (rows unit)
  pub only : (others : List Row) → AreOlderRows header program others → others ≡ rows unit
  pub files : AreListedFromOne header.files unit.header.files
  pub directories : AreListedFromOne header.directories unit.header.directories

-- However the bytes are read that are written for an older unit, they say the same.
abbrev pub SameRows : Type 0
SameRows = (order : Order) (directory : List ℕ) (header : HeaderParts) (program : List ℕ) (unit : UnitParts) (bytes : List ℕ)
    → HeaderBytesIn order (upgraded directory header, program) bytes → UnitBytesIn order unit bytes → SaysTheSame header program unit
