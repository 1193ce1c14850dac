use Rattle.std.proofs.Common.{rules}
use Rattle.lnt_header.proofs.unit.Unit.ops.Goals as goal

pub returns-clause-value : goal.returns-clause-value
returns-clause-value c = search rules
