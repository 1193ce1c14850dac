use Rattle.lnt_table.proofs.OneWithinLemmas.{one_within}
use Rattle.lnt_table.proofs.laws.one_within.Goals as goal

pub returns : goal.returns
returns c = one_within c.one_check.ensures c.good_has_no_flaw.ensures c.one_no.ensures
