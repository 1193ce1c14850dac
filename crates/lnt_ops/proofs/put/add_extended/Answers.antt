use Rattle.std.proofs.Common.{rules}
use Rattle.lnt_ops.proofs.OpPutLemmas.{extended_put}
use Rattle.lnt_ops.proofs.put.add_extended.Goals as goal

pub returns-clause-ok : goal.returns-clause-ok
returns-clause-ok c = search (rules, extended_put)
