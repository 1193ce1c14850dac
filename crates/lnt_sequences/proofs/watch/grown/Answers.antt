use Rattle.std.proofs.Common.{rules}
use Rattle.lnt_sequences.proofs.watch.grown.Goals as goal

pub returns-in-Some : goal.returns-in-Some
returns-in-Some c = search rules
