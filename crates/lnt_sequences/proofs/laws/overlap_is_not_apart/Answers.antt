use Rattle.lnt_sequences.proofs.ExtentLemmas.{overlap_is_not_apart}
use Rattle.lnt_sequences.proofs.laws.overlap_is_not_apart.Goals as goal

pub returns : goal.returns
returns c = λ ss overlap is apart. overlap_is_not_apart ss overlap is apart
