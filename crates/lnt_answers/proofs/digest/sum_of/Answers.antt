use Rattle.std.proofs.Common.{rules, arith}
use Rattle.std.proofs.lemmas.Grind.{common_steps}
use Rattle.lnt_answers.proofs.DigestLemmas.{summing, too_many}
use Rattle.lnt_answers.proofs.digest.sum_of.Goals as goal

pub loop-count-preserved : goal.loop-count-preserved
loop-count-preserved g c = search (rules, summing)

pub returns-then-too_long-clause-too_long : goal.returns-then-too_long-clause-too_long
returns-then-too_long-clause-too_long g c = grind (arith, common_steps, too_many)

pub returns-clause-ok : goal.returns-clause-ok
returns-clause-ok g c = search rules
