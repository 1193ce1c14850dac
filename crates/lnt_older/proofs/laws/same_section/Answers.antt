use Rattle.lnt_older.proofs.UpgradeLaws as lemma
use Rattle.lnt_older.proofs.laws.same_section.Goals as goal

pub returns : goal.returns
returns c = lemma.same_section
