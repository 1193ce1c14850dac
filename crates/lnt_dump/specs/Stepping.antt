-- What the bodies of this crate say of one step. No public contract speaks of it.
use Rattle.std.specs.Prelude.{◌≡◌, ℕ, ◌+◌, Bool, IsTrue, List, ◌++◌, length, Option, Some, None}
use Rattle.std.specs.Io.KnownBytes.{Appends}
use Rattle.lnt_wire.specs.Reading.{At, Reads}
use Rattle.lnt_wire.specs.declared.format.Format.{Format}
use Rattle.lnt_wire.specs.declared.format.Order.{Order}
use Rattle.lnt_header.specs.declared.header.Entry.{Entry}
use Rattle.lnt_header.specs.declared.header.Pair.{Pair}
use Rattle.lnt_header.specs.declared.op.Op.{Op}
use Rattle.lnt_header.specs.declared.op.OpView.{OpView}
use Rattle.lnt_header.specs.declared.op.OpView.TheVariants.{UnknownStandard}
use Rattle.lnt_header.specs.OpRules.{AreOperands}
use Rattle.lnt_header.specs.declared.unit_parts.UnitParts.{UnitParts}
use Rattle.lnt_header_bytes.specs.TableBytes.{EntryBytes}
use Rattle.lnt_io.specs.Prefixes.{AppendsPrefix}
use Rattle.lnt_machine.specs.declared.fault.RowFault.{RowFault}
use Rattle.lnt_machine.specs.declared.fault.RowFault.TheVariants.{Malformed, Run}
use Rattle.lnt_machine.specs.Matrix.{Runs}
use Rattle.lnt_io.specs.declared.status.Status.{Status}
use Rattle.lnt_unit.specs.Units.{BufferedUnit, IsNextUnit, SectionEndsBy}
use Rattle.lnt_unit.specs.BrokenUnits.{BrokenUnit}
use Rattle.lnt_unit.specs.UnitBytes.{UnitBytesIn}
use Rattle.lnt_unit.specs.Views.{View, with_ops}
use Rattle.lnt_wire.specs.declared.frame.Frame.{Frame}
use Rattle.lnt_dump.specs.declared.dump.DumpParts.{DumpParts}
use Rattle.lnt_dump.specs.Dumps.{DoesNotRun, fault_line, unit_lines}
use Rattle.lnt_dump.specs.Units.{fault_status}
use Rattle.lnt_dump.specs.declared.units.Next.{Next}
use Rattle.lnt_dump.specs.declared.units.Next.TheVariants.{Unit as NextUnit, Fault as NextFault, End}

-- ---- what a reader of a section gives next: a unit, a fault, or the end of the section

-- a unit
abbrev pub GivesUnit : Next → Type 0
GivesUnit (NextUnit unit) = Unit {0}
GivesUnit _ = ⊥

-- This comes next in the source's bytes (old), which begin at the offset. After a unit the source's remaining bytes (new) are
-- those after it, and the reader is at the offset of its end (after).
abbrev pub IsNext : ℕ → ℕ → Order → Option (List ℕ) → Option (List ℕ) → Next → Type 0
IsNext offset after order old new (NextUnit unit) = IsNextUnit offset order old new unit × (after ≡ offset + length unit.bytes)
IsNext offset after order old new (NextFault fault) = SectionEndsBy offset order old (Some fault)
IsNext offset after order old new End = SectionEndsBy offset order old None

-- ---- what was written if printing stopped

-- what was appended to a writer that held these bytes is a prefix of such a text (Is), and nothing else
abbrev pub IsPrefixIn : (List ℕ → Type 0) → Option (List ℕ) → Option (List ℕ) → Type 0
IsPrefixIn Is old new = (text : List ℕ) × Is text × AppendsPrefix old new text

-- ---- entries

-- The next entry was read, and its text was printed.
pub record PassesPrinting (text : Entry → List ℕ) (format : Format) (pairs : List Pair) (before after : At)
    (old new : Option (List ℕ)) : Type 0 where
  pub entry : Entry
  pub read : Reads (EntryBytes format before.order pairs) entry before after
  pub printed : Appends old new (text entry)

-- ---- pages

-- The text was written, but for what waits in the page.
pub record IsPaged (text : List ℕ) (old new : Option (List ℕ)) (page : List ℕ) : Type 0 where
  pub written : List ℕ
  pub appended : Appends old new written
  pub joined : text ≡ written ++ page

-- ---- units

-- The unit's bytes encode its header and these operations.
abbrev pub IsUnitOf : View → List Op → Type 0
IsUnitOf view ops = UnitBytesIn view.unit.order (with_ops view ops) view.unit.bytes

-- The unit is valid, and if this is asked, its program runs.
abbrev pub IsSound : View → Bool → Type 0
IsSound view runs = (ops : List Op) × IsUnitOf view ops × (IsTrue runs → Runs (with_ops view ops))

-- Why the bytes of a unit aren't dumped: they encode none, or, if this is asked, one whose program doesn't run.
abbrev pub IsFaultOf : BufferedUnit → Bool → RowFault → Type 0
IsFaultOf unit runs (Malformed fault) = BrokenUnit unit.order fault unit.offset unit.bytes
IsFaultOf unit runs (Run fault) = IsTrue runs × DoesNotRun unit.order unit.bytes fault

-- What is printed of the bytes of a unit, which are this frame: the lines of the unit, or that of the fault.
abbrev pub UnitEnds : DumpParts → Frame → BufferedUnit → Option RowFault → List ℕ → Type 0
UnitEnds shown frame unit None text =
    (parts : UnitParts) × UnitBytesIn unit.order parts unit.bytes × (IsTrue shown.rows → Runs parts)
    × (text ≡ unit_lines shown (frame, parts))
UnitEnds shown frame unit (Some fault) text = IsFaultOf unit shown.rows fault × (text ≡ fault_line unit.offset (Some fault))

-- This is so of the text of it.
pub record UnitEndsSo (shown : DumpParts) (frame : Frame) (unit : BufferedUnit) (IsSo : List ℕ → Type 0) : Type 0 where
  pub fault : Option RowFault
  pub text : List ℕ
  pub ends : UnitEnds shown frame unit fault text
  pub so : IsSo text

-- It was printed.
abbrev pub IsUnitPrinted : DumpParts → Frame → BufferedUnit → Option (List ℕ) → Option (List ℕ) → Status → Type 0
IsUnitPrinted shown frame unit old new status = (done : UnitEndsSo shown frame unit (Appends old new)) × (status ≡ fault_status done.fault)

-- A prefix of it was printed.
abbrev pub UnitBegun : DumpParts → Frame → BufferedUnit → Option (List ℕ) → Option (List ℕ) → Type 0
UnitBegun shown frame unit old new = UnitEndsSo shown frame unit (AppendsPrefix old new)

-- ---- operations

-- The view is of an operation with these operands, if it is an unknown standard one.
abbrev pub HasOperands : OpView → List ℕ → Type 0
HasOperands (UnknownStandard k operands) numbers = AreOperands operands numbers
HasOperands view numbers = Unit {0}
