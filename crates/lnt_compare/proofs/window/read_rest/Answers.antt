use Rattle.std.proofs.Common.{rules, arith}
use Rattle.std.proofs.lemmas.Grind.{common_steps}
use Rattle.lnt_compare.proofs.WindowLaws.{passes_none, passes_block, passes_all, longer_from_start}
use Rattle.lnt_compare.proofs.window.read_rest.Goals as goal

pub loop-preserved : goal.loop-preserved
loop-preserved g c = search (rules, passes_none, passes_block, passes_all, longer_from_start)

pub returns-clause-ok : goal.returns-clause-ok
returns-clause-ok g c = grind (arith, common_steps)
