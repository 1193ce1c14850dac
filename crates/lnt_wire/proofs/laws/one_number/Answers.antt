use Rattle.lnt_wire.proofs.ValueLaws.{one_number}
use Rattle.lnt_wire.proofs.laws.one_number.Goals as goal

pub returns : goal.returns
returns c = one_number
