use Rattle.std.proofs.Common.{rules}
use Rattle.lnt_lines.proofs.no.NoDisplay.fmt.Goals as goal

pub returns-in-Falls-clause-writes : goal.returns-in-Falls-clause-writes
returns-in-Falls-clause-writes g c = search rules
