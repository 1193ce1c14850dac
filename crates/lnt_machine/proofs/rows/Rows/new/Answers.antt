use Rattle.std.proofs.Common.{refl}
use Rattle.lnt_machine.proofs.rows.Rows.new.Goals as goal

pub returns-clause-going : goal.returns-clause-going
returns-clause-going c = refl
