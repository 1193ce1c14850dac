use Rattle.lnt_sequences.proofs.EvidenceLemmas.{fall_is_not_ordered}
use Rattle.lnt_sequences.proofs.laws.fall_is_not_ordered.Goals as goal

pub returns : goal.returns
returns c = λ dead ss index fall ordered. fall_is_not_ordered dead ss index fall ordered
