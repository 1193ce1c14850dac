use Rattle.std.proofs.Common.{rules, arith}
use Rattle.std.proofs.lemmas.Grind.{common_steps}
use Rattle.lnt_ops.proofs.WalkLemmas.{fails_here, order_kept}
use Rattle.lnt_ops.proofs.iterator.Ops.next_long.Goals as goal

pub returns-in-Err : goal.returns-in-Err
returns-in-Err c = search (rules, fails_here, order_kept)

pub invariant_of-self : goal.invariant_of-self
invariant_of-self c = grind (arith, common_steps)

pub returns-in-Ok : goal.returns-in-Ok
returns-in-Ok c = grind (arith, common_steps)
