use Rattle.std.proofs.Common.{rules}
use Rattle.lnt_ops.proofs.iterator.Ops.after.Goals as goal

pub returns-clause-rest : goal.returns-clause-rest
returns-clause-rest c = search rules

pub new-requires : goal.new-requires
new-requires c = search rules
