use Rattle.std.proofs.Common.{rules}
use Rattle.lnt_machine.proofs.machine.Machine.with_numbers.Goals as goal

pub returns-clause-stands : goal.returns-clause-stands
returns-clause-stands c = search rules
