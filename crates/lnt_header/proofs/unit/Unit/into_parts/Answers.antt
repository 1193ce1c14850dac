use Rattle.std.proofs.Common.{rules}
use Rattle.lnt_header.proofs.unit.Unit.into_parts.Goals as goal

pub returns-clause-value : goal.returns-clause-value
returns-clause-value c = search rules

pub returns-clause-unit : goal.returns-clause-unit
returns-clause-unit c = search rules
