use Rattle.lnt_sequences.proofs.UnitLaws.{collects_unit}
use Rattle.lnt_sequences.proofs.laws.collected_unit.Goals as goal

pub returns : goal.returns
returns c = λ dead unit collected ss runs few rows. collects_unit dead unit collected ss runs few rows
