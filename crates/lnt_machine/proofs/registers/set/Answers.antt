use Rattle.std.proofs.Common.{rules}
use Rattle.lnt_machine.proofs.registers.set.Goals as goal

pub returns-in-ConstAddPc : goal.returns-in-ConstAddPc
returns-in-ConstAddPc c = search rules

pub returns-in-FixedAdvancePc : goal.returns-in-FixedAdvancePc
returns-in-FixedAdvancePc c = search rules
