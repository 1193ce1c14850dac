use Rattle.std.proofs.Common.{arith}
use Rattle.std.proofs.lemmas.Grind.{common_steps}
use Rattle.lnt_unit.proofs.buffer.UnitBuffer.frame.Goals as goal

pub returns-clause-bytes : goal.returns-clause-bytes
returns-clause-bytes c = grind (arith, common_steps)

pub returns-clause-placed : goal.returns-clause-placed
returns-clause-placed c = grind (arith, common_steps)
