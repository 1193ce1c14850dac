use Rattle.lnt_symbols.proofs.PieceLemmas.{one_table}
use Rattle.lnt_symbols.proofs.laws.one_table.Goals as goal

pub returns : goal.returns
returns c = one_table
