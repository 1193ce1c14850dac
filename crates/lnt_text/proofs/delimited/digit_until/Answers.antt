use Rattle.lnt_text.proofs.DelimitedLemmas.{digit_begins}
use Rattle.lnt_text.proofs.delimited.digit_until.Goals as goal
use Rattle.std.proofs.Common.{arith}
use Rattle.std.proofs.lemmas.Grind.{common_steps}

pub returns : goal.returns
returns c = grind (arith, common_steps, digit_begins)
