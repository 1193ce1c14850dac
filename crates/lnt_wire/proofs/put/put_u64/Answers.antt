use Rattle.std.proofs.Common.{rules}
use Rattle.lnt_wire.proofs.put.put_u64.Goals as goal

pub returns-clause-ok : goal.returns-clause-ok
returns-clause-ok c = search rules
