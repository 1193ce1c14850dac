use Rattle.std.proofs.Common.{rules}
use Rattle.lnt_io.proofs.io_stop.IoStopFromStop.from.Goals as goal

pub returns-in-Read : goal.returns-in-Read
returns-in-Read c = search rules
