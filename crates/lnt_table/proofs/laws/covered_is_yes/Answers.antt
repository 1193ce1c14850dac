use Rattle.lnt_table.proofs.CoveredWholeLemmas.{covered_is_yes}
use Rattle.lnt_table.proofs.laws.covered_is_yes.Goals as goal

pub returns : goal.returns
returns c = covered_is_yes
