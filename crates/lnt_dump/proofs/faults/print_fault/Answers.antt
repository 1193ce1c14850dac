use Rattle.std.proofs.Common.{arith}
use Rattle.std.proofs.lemmas.Grind.{elements}
use Rattle.lnt_dump.proofs.faults.print_fault.Goals as goal

pub returns-clause-line : goal.returns-clause-line
returns-clause-line g c = grind (arith, elements)
