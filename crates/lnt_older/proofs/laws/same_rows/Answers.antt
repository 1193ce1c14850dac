use Rattle.lnt_older.proofs.SameRowsLaws as lemma
use Rattle.lnt_older.proofs.laws.same_rows.Goals as goal

pub returns : goal.returns
returns c = lemma.same_rows
