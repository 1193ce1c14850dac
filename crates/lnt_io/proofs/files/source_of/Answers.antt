use Rattle.std.proofs.Common.{rules}
use Rattle.lnt_io.proofs.files.source_of.Goals as goal

pub returns-in-Ok-clause-left : goal.returns-in-Ok-clause-left
returns-in-Ok-clause-left g c = search rules
