use Rattle.std.proofs.Common.{rules}
use Rattle.lnt_sequences.proofs.collected.Collected.push_extent.Goals as goal

pub returns-in_ok-push : goal.returns-in_ok-push
returns-in_ok-push c = search rules
