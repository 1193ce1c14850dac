use Rattle.lnt_table.proofs.OneCheckLemmas.{one_check}
use Rattle.lnt_table.proofs.laws.one_check.Goals as goal

pub returns : goal.returns
returns c = one_check c.one_verdict.ensures c.one_numbered.ensures c.one_comparison.ensures.by_path
