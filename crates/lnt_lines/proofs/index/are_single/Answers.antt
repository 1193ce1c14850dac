use Rattle.std.proofs.Common.{arith}
use Rattle.std.proofs.lemmas.Grind.{elements}
use Rattle.lnt_lines.proofs.index.are_single.Goals as goal

pub loop-program-preserved : goal.loop-program-preserved
loop-program-preserved c = grind (arith, elements)

pub returns : goal.returns
returns c = grind (arith, elements)
