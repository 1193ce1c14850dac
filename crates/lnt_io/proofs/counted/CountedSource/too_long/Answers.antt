use Rattle.std.proofs.Common.{rules}
use Rattle.lnt_io.proofs.counted.CountedSource.too_long.Goals as goal

pub returns : goal.returns
returns c = search rules
