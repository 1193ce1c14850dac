use Rattle.lnt_table.proofs.LawLemmas.{own_table}
use Rattle.lnt_table.proofs.laws.own_table.Goals as goal

pub returns : goal.returns
returns c = own_table c.own_table_of_units.ensures
