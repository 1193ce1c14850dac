-- The stops of a reader of a section, those that come from its source, and their texts.
use Rattle.std.specs.Prelude.{ℕ, List, codes}
use Rattle.lnt_wire.specs.declared.fault.Fault.{Fault}
use Rattle.lnt_io.specs.declared.stop.Stop.{Stop}
use Rattle.lnt_io.specs.declared.stop.Stop.TheVariants as source
use Rattle.lnt_unit.specs.declared.stop.SectionStop.{SectionStop}
use Rattle.lnt_wire.specs.FaultTexts.{fault_text}
use Rattle.lnt_unit.specs.declared.stop.SectionStop.TheVariants.{Fault as stop_fault, Memory, Read, TooLong, Failed}

-- the stop of a reader whose source stopped
abbrev pub stop_of : Stop → SectionStop
stop_of source.Memory = Memory
stop_of source.Read = Read
stop_of source.TooLong = TooLong

-- If the stop is a fault, IsSo holds for it.
abbrev pub IfFault : SectionStop → (Fault → Type 0) → Type 0
IfFault (stop_fault fault) IsSo = IsSo fault
IfFault _ IsSo = Unit {0}

-- why no further unit comes
abbrev pub section_stop_text : SectionStop → List ℕ
section_stop_text (stop_fault fault) = fault_text fault
section_stop_text Memory = codes "out of memory"
section_stop_text Read = codes "cannot read"
section_stop_text TooLong = codes "too long"
section_stop_text Failed = codes "stopped before"
