use Rattle.std.proofs.Common.{rules}
use Rattle.lnt_sequences.proofs.watch.Watch.go_on.Goals as goal

pub returns-then-row : goal.returns-then-row
returns-then-row c = search rules
