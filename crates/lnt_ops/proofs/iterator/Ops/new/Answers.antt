use Rattle.std.proofs.Common.{rules}
use Rattle.lnt_ops.proofs.iterator.Ops.new.Goals as goal

pub returns-clause-place : goal.returns-clause-place
returns-clause-place c = search rules
