use Rattle.std.proofs.Common.{rules}
use Rattle.lnt_io.proofs.counted.Counted.new.Goals as goal

pub returns-clause-left : goal.returns-clause-left
returns-clause-left c = search rules
