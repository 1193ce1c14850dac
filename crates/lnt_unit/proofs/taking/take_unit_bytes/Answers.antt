use Rattle.std.proofs.Common.{rules, arith}
use Rattle.std.proofs.lemmas.Grind.{common_steps}
use Rattle.lnt_unit.proofs.TakingLemmas.{taking}
use Rattle.lnt_unit.proofs.taking.take_unit_bytes.Goals as goal

pub returns-then-missing-eq0-clause-whole : goal.returns-then-missing-eq0-clause-whole
returns-then-missing-eq0-clause-whole g c = rw (← c.as_slice.ensures.value) (c.missing_size-missing.ensures.whole c.if-missing-eq0.true)

pub returns-clause-least : goal.returns-clause-least
returns-clause-least g c = search (rules, taking)

pub returns-then-too_long-clause-too_long : goal.returns-then-too_long-clause-too_long
returns-then-too_long-clause-too_long g c = search (rules, taking)

pub loop-order-preserved : goal.loop-order-preserved
loop-order-preserved g c = grind (arith, common_steps)

pub returns-clause-left : goal.returns-clause-left
returns-clause-left g c = grind (arith, common_steps)

pub returns-then-too_long-clause-whole : goal.returns-then-too_long-clause-whole
returns-then-too_long-clause-whole g c = search rules

pub returns-then-too_long-clause-ended : goal.returns-then-too_long-clause-ended
returns-then-too_long-clause-ended g c = search rules
