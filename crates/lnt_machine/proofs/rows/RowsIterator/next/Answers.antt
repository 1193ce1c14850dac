use Rattle.std.proofs.Common.{refl, rules}
use Rattle.lnt_machine.proofs.rows.RowsIterator.next.Goals as goal

pub returns-in-Err-clause-steps : goal.returns-in-Err-clause-steps
returns-in-Err-clause-steps c = record { going = search rules; ended_is = refl; is_so = search rules }

pub returns-in-Err-clause-goes : goal.returns-in-Err-clause-goes
returns-in-Err-clause-goes c = search rules
