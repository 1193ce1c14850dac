use Rattle.std.proofs.Common.{refl}
use Rattle.lnt_machine.proofs.run.Run.new.Goals as goal

pub returns-clause-done : goal.returns-clause-done
returns-clause-done c = record { machine = c.with_numbers.ensures.stands; open_is = refl }
