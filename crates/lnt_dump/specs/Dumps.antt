-- What `dump` prints.
use Rattle.std.specs.Prelude.{◌≡◌, ◌<◌, ℕ, List, [], ◌++◌, cond, length, map, Option, Some, None, IfSome, IsTrue, codes}
use Rattle.std.specs.List.{AllByRecursion, flat_map}
use Rattle.std.specs.Io.KnownBytes.{Appends}
use Rattle.lnt_io.specs.Prefixes.{AppendsPrefix}
use Rattle.lnt_wire.specs.declared.frame.Frame.{Frame}
use Rattle.lnt_wire.specs.declared.format.Order.{Order}
use Rattle.lnt_wire.specs.FrameBytes.{FramesFrom, frame_bytes}
use Rattle.lnt_header.specs.declared.unit_parts.UnitParts.{UnitParts}
use Rattle.lnt_machine.specs.declared.fault.RowFault.{RowFault}
use Rattle.lnt_machine.specs.declared.fault.RowFault.TheVariants.{Malformed, Run}
use Rattle.lnt_machine.specs.declared.fault.RunFault.{RunFault}
use Rattle.lnt_machine.specs.FaultTexts.{run_text}
use Rattle.lnt_machine.specs.Matrix.{IsRunFault, Runs, rows}
use Rattle.lnt_io.specs.declared.status.Status.{Status}
use Rattle.lnt_text.specs.Texts.{malformed_text}
use Rattle.lnt_unit.specs.BrokenUnits.{BrokenUnit}
use Rattle.lnt_unit.specs.UnitBytes.{UnitBytesIn}
use Rattle.lnt_dump.specs.declared.dump.DumpParts.{DumpParts}
use Rattle.lnt_dump.specs.Headers.{header_lines}
use Rattle.lnt_dump.specs.Units.{numbered, fault_status}
use Rattle.lnt_dump.specs.Operations.{op_line, row_line}

-- ---- texts

-- a unit, and the frame that its bytes are
abbrev pub FramedUnit : Type 0
FramedUnit = Frame × UnitParts

-- the lines of a unit: its frame and its header, then each operation and each row, where they are shown
abbrev pub unit_lines : DumpParts → FramedUnit → List ℕ
unit_lines shown unit =
    header_lines unit.0 unit.1.header
    ++ (cond shown.ops (numbered op_line 0 unit.1.ops) [] ++ cond shown.rows (numbered row_line 0 (rows unit.1)) [])

-- the line of a fault, if there is one; a unit whose program doesn't run begins at the offset
abbrev pub fault_line : ℕ → Option RowFault → List ℕ
fault_line offset None = []
fault_line offset (Some (Malformed fault)) = malformed_text fault ++ codes "\n"
fault_line offset (Some (Run fault)) = run_text offset fault ++ codes "\n"

-- the lines of units, and that of the fault after them
abbrev pub dump_text : DumpParts → List FramedUnit → ℕ → Option RowFault → List ℕ
dump_text shown units offset fault = flat_map (unit_lines shown) units ++ fault_line offset fault

-- ---- sections

-- The unit is the one that the frame's bytes encode. Its program runs, where rows are shown.
pub record IsDumpedUnit (order : Order) (shown : DumpParts) (unit : FramedUnit) : Type 0 where
  pub spelled : UnitBytesIn order unit.1 (frame_bytes order unit.0.format unit.0.body.now)
  pub runs : IsTrue shown.rows → Runs unit.1

-- These bytes encode a unit, and its program doesn't run for this reason.
pub record DoesNotRun (order : Order) (bytes : List ℕ) (fault : RunFault) : Type 0 where
  pub unit : UnitParts
  pub spelled : UnitBytesIn order unit bytes
  pub is_fault : IsRunFault unit fault

-- The bytes at the offset aren't dumped, for this reason: they don't begin with a unit; or, where rows are shown, they begin with one
-- whose program doesn't run.
abbrev pub IsDumpFault : Order → DumpParts → ℕ → List ℕ → RowFault → Type 0
IsDumpFault order shown offset bytes (Malformed fault) = (0 < length bytes) × BrokenUnit order fault offset bytes
IsDumpFault order shown offset bytes (Run fault) =
    IsTrue shown.rows × (prefix : List ℕ) × (back : List ℕ) × (bytes ≡ prefix ++ back) × DoesNotRun order prefix fault

-- The section begins with these units. The offset is that of the bytes after them (rest).
pub record BeginsWithUnits (order : Order) (shown : DumpParts) (section : List ℕ) (units : List FramedUnit) (offset : ℕ)
    (rest : List ℕ) : Type 0 where
  pub prefix : List ℕ
  pub whole : section ≡ prefix ++ rest
  pub offset_is : offset ≡ length prefix
  pub frames : FramesFrom order 0 (map (λ unit. unit.0) units) prefix
  pub each : AllByRecursion (IsDumpedUnit order shown) units

-- what follows the last unit: nothing, or the bytes that the fault rejects
abbrev pub DumpEndsBy : Order → DumpParts → ℕ → List ℕ → Option RowFault → Type 0
DumpEndsBy order shown offset rest None = rest ≡ []
DumpEndsBy order shown offset rest (Some fault) = IsDumpFault order shown offset rest fault

-- ---- what is printed

-- What was appended to a writer that held these bytes (old) is the lines of units, that of the fault after them, if there is one, and
-- nothing else. If the source's bytes are known (section), these are all its units, or all before its first fault.
pub record IsDumped (order : Order) (shown : DumpParts) (section old new : Option (List ℕ)) (status : Status) : Type 0 where
  pub units : List FramedUnit
  pub offset : ℕ
  pub fault : Option RowFault
  pub so : IfSome section (λ bytes. (rest : List ℕ) × BeginsWithUnits order shown bytes units offset rest
      × DumpEndsBy order shown offset rest fault)
  pub printed : Appends old new (dump_text shown units offset fault)
  pub status_is : status ≡ fault_status fault

-- What was appended is a prefix of the lines of units, and of that of the fault after them, if one was found, and nothing else. If
-- the source's bytes are known, it begins with these units, and the fault is its first.
pub record IsDumpBegun (order : Order) (shown : DumpParts) (section old new : Option (List ℕ)) : Type 0 where
  pub units : List FramedUnit
  pub offset : ℕ
  pub fault : Option RowFault
  pub so : IfSome section (λ bytes. (rest : List ℕ) × BeginsWithUnits order shown bytes units offset rest
      × IfSome fault (IsDumpFault order shown offset rest))
  pub begun : AppendsPrefix old new (dump_text shown units offset fault)
