use Rattle.std.proofs.Common.{rules}
use Rattle.lnt_machine.proofs.run.Run.end.Goals as goal

pub returns-then-self-clause-ok : goal.returns-then-self-clause-ok
returns-then-self-clause-ok c = search rules
