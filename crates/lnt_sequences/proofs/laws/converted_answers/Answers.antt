use Rattle.lnt_sequences.proofs.ConvertedLemmas as lemma
use Rattle.lnt_sequences.proofs.laws.converted_answers.Goals as goal

pub returns : goal.returns
returns c = lemma.converted_answers c.same_matrix.ensures
