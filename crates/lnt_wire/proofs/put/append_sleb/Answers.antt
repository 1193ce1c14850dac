use Rattle.std.proofs.Common.{rules}
use Rattle.lnt_wire.proofs.PutLemmas.{taken_back}
use Rattle.lnt_wire.proofs.put.append_sleb.Goals as goal

pub returns-clause-ok : goal.returns-clause-ok
returns-clause-ok c = search (rules, taken_back)
