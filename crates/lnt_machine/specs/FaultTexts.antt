-- The texts that say why a program doesn't run, and why its rows end before it does.
use Rattle.std.specs.Prelude.{ℕ, List, ◌++◌, codes, decimal}
use Rattle.lnt_wire.specs.FaultTexts.{fault_text, hexadecimal}
use Rattle.lnt_machine.specs.declared.fault.RowFault.{RowFault}
use Rattle.lnt_machine.specs.declared.fault.RowFault.TheVariants.{Malformed, Run}
use Rattle.lnt_machine.specs.declared.fault.RunFault.{RunFault}
use Rattle.lnt_machine.specs.declared.fault.RunFault.TheVariants.{LineOutOfRange, OpenSequence, Memory}

-- why a program doesn't run
abbrev pub run_fault_text : RunFault → List ℕ
run_fault_text (LineOutOfRange index) = codes "line out of range at operation " ++ decimal index
run_fault_text OpenSequence = codes "open sequence"
run_fault_text Memory = codes "out of memory"

-- the line of a program that doesn't run (26), with the offset of its unit in the section
abbrev pub run_text : ℕ → RunFault → List ℕ
run_text offset fault = codes "no 26 run unit " ++ hexadecimal offset ++ codes ": " ++ run_fault_text fault

-- why a walk over rows ends before the program does
abbrev pub row_fault_text : RowFault → List ℕ
row_fault_text (Malformed fault) = fault_text fault
row_fault_text (Run fault) = run_fault_text fault
