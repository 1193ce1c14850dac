use Rattle.std.proofs.Common.{rules}
use Rattle.lnt_ops.proofs.ExtendedReaders.{gives_number, refuses_number}
use Rattle.lnt_ops.proofs.extended.read_number.Goals as goal

pub returns-clause-err : goal.returns-clause-err
returns-clause-err c = search (rules, gives_number, refuses_number)

pub returns-clause-ok : goal.returns-clause-ok
returns-clause-ok c = search (rules, gives_number, refuses_number)
