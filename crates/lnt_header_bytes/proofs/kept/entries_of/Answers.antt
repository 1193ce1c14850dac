use Rattle.std.proofs.Common.{arith}
use Rattle.std.proofs.lemmas.Grind.{common_steps}
use Rattle.lnt_header_bytes.proofs.kept.entries_of.Goals as goal

pub returns : goal.returns
returns c = grind (arith, common_steps)
