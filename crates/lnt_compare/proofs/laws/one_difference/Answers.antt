use Rattle.lnt_compare.proofs.ComparedLaws.{one_difference}
use Rattle.lnt_compare.proofs.laws.one_difference.Goals as goal

pub returns : goal.returns
returns c = one_difference
