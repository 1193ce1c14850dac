use Rattle.lnt_sequences.proofs.EvidenceLemmas.{missing_file_is_not_there}
use Rattle.lnt_sequences.proofs.laws.missing_file_is_not_there.Goals as goal

pub returns : goal.returns
returns c = λ dead files ss missing file have. missing_file_is_not_there dead files ss missing file have
