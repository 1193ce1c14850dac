use Rattle.lnt_older.proofs.OneFaultLaws as lemma
use Rattle.lnt_older.proofs.laws.one_fault.Goals as goal

pub returns : goal.returns
returns c = lemma.one_fault
