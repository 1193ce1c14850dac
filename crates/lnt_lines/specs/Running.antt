-- A unit's program, run operation by operation. No public contract speaks of it.
use Rattle.std.specs.Prelude.{◌≡◌, ◌≢◌, ℕ, ◌+◌, ◌^◌, ◌<◌, ◌≤◌, List, ◌++◌, length, Option}
use Rattle.lnt_wire.specs.declared.fault.Fault.{Fault}
use Rattle.lnt_wire.specs.declared.fault.Reason.TheVariants as reason
use Rattle.lnt_unit.specs.declared.stop.SectionStop.{SectionStop}
use Rattle.lnt_unit.specs.declared.stop.SectionStop.TheVariants as section
use Rattle.lnt_sequences.specs.declared.watch.MissingFile.{MissingFile}
use Rattle.lnt_files.specs.declared.tables.EntryTableFault.{EntryTableFault}
use Rattle.lnt_files.specs.declared.tables.EntryTableFault.TheVariants as table
use Rattle.lnt_lines.specs.declared.no.No as no
use Rattle.lnt_lines.specs.declared.no.No.TheVariants.{Malformed, EntryFormat, StringOutside, DirectoryNumber, FileNumber}
use Rattle.lnt_lines.specs.declared.refusal.Refusal.TheVariants.{No, Stop}
use Rattle.lnt_io.specs.declared.stop.Stop.TheVariants as stop
use Rattle.lnt_header.specs.declared.op.Op.{Op}
use Rattle.lnt_header.specs.declared.op.OpView.{OpView}
use Rattle.lnt_ops.specs.Walks.{GivesOperation, Walk}
use Rattle.lnt_unit.specs.Views.{View, with_ops}
use Rattle.lnt_unit.specs.ConversionSteps.{HasGiven}
use Rattle.lnt_machine.specs.declared.fault.RunFault.{RunFault}
use Rattle.lnt_machine.specs.declared.fault.RunFault.TheVariants.{Memory}
use Rattle.lnt_machine.specs.declared.row.Row.{Row}
use Rattle.lnt_machine.specs.Matrix.{IsRunFault, rows, sequences_of}
use Rattle.lnt_machine.specs.Running.{RunState}
use Rattle.lnt_machine.specs.Stepping.{HasPlaces, HasRan}
use Rattle.lnt_sequences.specs.declared.collected.Collected.{Collected}
use Rattle.lnt_sequences.specs.declared.watch.Watch.{Watch}
use Rattle.lnt_sequences.specs.Watching.{HasSeen}
use Rattle.lnt_lines.specs.declared.refusal.Refusal.TheVariants as refusal
use Rattle.lnt_lines.specs.declared.run.Watched.{Watched}
use Rattle.lnt_lines.specs.Judging.{CollectsAlso, IsRefusalOfRun, Refusal}

-- ---- why there are no lines of a section, by faults, stops and flaws of tables. No public contract speaks of it.

-- the refusal for a fault of a unit: memory ran out, or the section is malformed
pub data IsFaultRefusal (fault : Fault) (refusal : Refusal) : Type 0 where
  memory : fault.reason ≡ reason.Memory → refusal ≡ Stop stop.Memory → IsFaultRefusal fault refusal
  malformed : fault.reason ≢ reason.Memory → refusal ≡ No (Malformed fault) → IsFaultRefusal fault refusal

-- The refusal for a stop of the section's reader. A reader that hasn't stopped before never gives Failed, so there is none for it.
abbrev pub IsStopRefusal : SectionStop → Refusal → Type 0
IsStopRefusal (section.Fault fault) refusal = refusal ≡ No (Malformed fault)
IsStopRefusal section.Memory refusal = refusal ≡ Stop stop.Memory
IsStopRefusal section.Read refusal = refusal ≡ Stop stop.Read
IsStopRefusal section.TooLong refusal = refusal ≡ Stop stop.TooLong
IsStopRefusal section.Failed refusal = ⊥

-- what is wrong with the tables of the unit at an offset
abbrev pub table_no : ℕ → EntryTableFault → no.No
table_no unit (table.EntryFormat which) = EntryFormat unit which
table_no unit (table.StringOutside which entry) = StringOutside unit which entry
table_no unit (table.DirectoryNumber file) = DirectoryNumber unit file

-- what is wrong with the unit at an offset if one of its rows names a missing file
abbrev pub missing_no : ℕ → MissingFile → no.No
missing_no unit missing = FileNumber unit missing.row missing.file

-- ---- what was run

-- What was run so far: the operations that the walk has given, whose rows the watch has seen, and of which this is collected. For each
-- ended sequence the place where it begins in the program is known.
pub record RanSoFar (dead : Option ℕ) (view : View) (IsCollected : List Row → Type 0) (walk : Walk) (run : RunState) (watch : Watch)
    (places : List ℕ) (place : ℕ) : Type 0 where
  pub ops : List Op
  pub given : HasGiven view ops walk
  pub few : length ops + length walk.at.rest ≤ length view.program
  pub ran : HasRan view.header.numbers ops run
  pub seen : HasSeen dead view.unit.offset (length view.header.files) watch (rows (with_ops view ops))
  pub collects : IsCollected (rows (with_ops view ops))
  pub known : HasPlaces view.header.numbers view.program (length (sequences_of (rows (with_ops view ops)))) places place

-- the same of a program that is run and watched
abbrev pub RunsSoFar : Option ℕ → View → Watched → Collected → Collected → Walk → List ℕ → Type 0
RunsSoFar dead view watched old now walk places =
    RanSoFar dead view (CollectsAlso dead view.unit.offset old now) walk watched.run watched.watch places watched.place

-- the program, whose number of bytes is known, ends below 2^64
abbrev pub HasRoom : View → Watched → Type 0
HasRoom view watched = (view.place + length view.program < 2 ^ 64) × (watched.length ≡ length view.program)

-- Whatever was run so far, the run continues with an operation that the walk gives, after which this many bytes are left.
abbrev pub RunsOnBy : OpView → ℕ → Watched → Watched → Collected → Collected → List ℕ → List ℕ → Type 0
RunsOnBy item left watched watched' now now' places places' =
    (dead : Option ℕ) (view : View) (old : Collected) (walk walk' : Walk)
    → RunsSoFar dead view watched old now walk places → GivesOperation item walk walk'
    → HasRoom view watched → left ≡ length walk'.at.rest
    → RunsSoFar dead view watched' old now' walk' places'

-- Whatever was run so far, the run continues up to the new place of the walk.
abbrev pub GoesOnTo : Walk → Walk → Watched → Watched → Collected → Collected → List ℕ → List ℕ → Type 0
GoesOnTo walk walk' watched watched' now now' places places' =
    (dead : Option ℕ) (view : View) (old : Collected) → RunsSoFar dead view watched old now walk places
    → HasRoom view watched
    → RunsSoFar dead view watched' old now' walk' places'

-- Whatever operations follow those that the walk has given, the program doesn't run for this reason.
pub record IsOut (view : View) (fault : RunFault) : Type 0 where
  pub ops : List Op
  pub walk : Walk
  pub given : HasGiven view ops walk
  pub is_fault : (more : List Op) → IsRunFault (with_ops view (ops ++ more)) fault

-- The run stops at this operation (StopsAt), or at one somewhere after the walk (StopsAfter). Unless memory ran out, that operation
-- leads out of the range of lines.
abbrev pub StopsAt : OpView → Watched → Collected → List ℕ → RunFault → Type 0
StopsAt item watched now places fault =
    fault ≢ Memory → (dead : Option ℕ) (view : View) (old : Collected) (walk walk' : Walk)
    → RunsSoFar dead view watched old now walk places
    → GivesOperation item walk walk' → IsOut view fault

abbrev pub StopsAfter : Walk → Watched → Collected → List ℕ → RunFault → Type 0
StopsAfter walk watched now places fault =
    fault ≢ Memory → (dead : Option ℕ) (view : View) (old : Collected) → RunsSoFar dead view watched old now walk places
    → HasRoom view watched → IsOut view fault

-- What is reported for the fault of a program.
abbrev pub IsRefusedFor : View → ℕ → RunFault → Refusal → Type 0
IsRefusedFor view unit Memory refused = refused ≡ refusal.Stop stop.Memory
IsRefusedFor view unit fault refused = IsRefusalOfRun view unit fault refused
