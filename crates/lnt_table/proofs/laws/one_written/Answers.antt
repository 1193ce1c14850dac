use Rattle.lnt_writing.proofs.PathWrittenLaws.{one_path_table}
use Rattle.lnt_table.proofs.OneWrittenLemmas.{one_of_units}
use Rattle.lnt_table.proofs.laws.one_written.Goals as goal

pub returns : goal.returns
returns c = record { of_units = one_of_units; by_path = one_path_table }
