use Rattle.std.proofs.Common.{rules}
use Rattle.lnt_unit.proofs.convert.first_of.Goals as goal

pub returns-then-not-converts : goal.returns-then-not-converts
returns-then-not-converts c = search rules
