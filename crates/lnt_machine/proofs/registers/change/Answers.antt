use Rattle.std.proofs.Common.{rules}
use Rattle.lnt_machine.proofs.registers.change.Goals as goal

pub returns-in-EndSequence-clause-ok : goal.returns-in-EndSequence-clause-ok
returns-in-EndSequence-clause-ok c = search rules
