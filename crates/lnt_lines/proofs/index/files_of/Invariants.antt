use Rattle.std.specs.Prelude.{List, take}
use Rattle.std.specs.List.{AllZip}
use Rattle.lnt_machine.specs.Walking.{KeptProgram}
use Rattle.lnt_files.specs.Files.{AreFilesOf, KeptFile}
use Rattle.lnt_lines.proofs.index.files_of.Given as goal

abbrev pub invariant-loop-program : goal.invariant-loop-program
invariant-loop-program l = AllZip
    (λ (kept : KeptProgram) (files : List KeptFile). AreFilesOf l.strings.line.now l.strings.general.now kept.header files)
    (take l.program-index l.programs) l.all.items
