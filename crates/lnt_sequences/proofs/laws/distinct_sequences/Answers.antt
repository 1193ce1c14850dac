use Rattle.lnt_sequences.proofs.UnitLaws.{distinct_sequences}
use Rattle.lnt_sequences.proofs.laws.distinct_sequences.Goals as goal

pub returns : goal.returns
returns c = λ dead units differ. distinct_sequences dead units differ
