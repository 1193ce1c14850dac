use Rattle.std.proofs.Common.{arith}
use Rattle.std.proofs.lemmas.Grind.{common_steps}
use Rattle.lnt_io.proofs.reading.read_all.Goals as goal

pub loop-all-preserved : goal.loop-all-preserved
loop-all-preserved g c = grind (arith, common_steps)
