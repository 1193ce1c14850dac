use Rattle.std.proofs.Common.{take, All}
use Rattle.lnt_lines.specs.Indexed.{HasOneOperation}
use Rattle.lnt_lines.proofs.index.are_single.Given as goal

abbrev pub invariant-loop-program : goal.invariant-loop-program
invariant-loop-program l = All HasOneOperation (take l.program-index l.programs)
