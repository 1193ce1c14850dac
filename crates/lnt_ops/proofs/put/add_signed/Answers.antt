use Rattle.std.proofs.Common.{rules}
use Rattle.lnt_ops.proofs.OpPutLemmas.{coded_put}
use Rattle.lnt_ops.proofs.put.add_signed.Goals as goal

pub returns-clause-ok : goal.returns-clause-ok
returns-clause-ok c = search (rules, coded_put)
