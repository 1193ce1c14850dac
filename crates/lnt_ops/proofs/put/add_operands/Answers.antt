use Rattle.std.proofs.Common.{rules, arith}
use Rattle.std.proofs.lemmas.Grind.{common_steps}
use Rattle.lnt_ops.proofs.OpPutLemmas.{spelled_put, listed_put}
use Rattle.lnt_ops.proofs.put.add_operands.Goals as goal

pub returns-in-Listed-clause-ok : goal.returns-in-Listed-clause-ok
returns-in-Listed-clause-ok c = search (rules, spelled_put, listed_put)

pub returns-in-Spelled-clause-ok : goal.returns-in-Spelled-clause-ok
returns-in-Spelled-clause-ok c = search (rules, spelled_put, listed_put)

pub returns-in-Listed-clause-extends : goal.returns-in-Listed-clause-extends
returns-in-Listed-clause-extends c = grind (arith, common_steps)

pub returns-in-Spelled-clause-extends : goal.returns-in-Spelled-clause-extends
returns-in-Spelled-clause-extends c = grind (arith, common_steps)
