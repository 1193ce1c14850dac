use Rattle.std.proofs.Common.{arith}
use Rattle.lnt_text.proofs.DelimitedLemmas.{hexadecimal_more}
use Rattle.lnt_text.proofs.delimited.hexadecimal_until.Goals as goal
use Rattle.std.proofs.lemmas.Grind.{common_steps}

pub loop-i-preserved : goal.loop-i-preserved
loop-i-preserved c = grind (arith, common_steps, hexadecimal_more)
