use Rattle.std.proofs.Common.{rules}
use Rattle.lnt_wire.proofs.ReadLemmas.{number_exits}
use Rattle.lnt_wire.proofs.cursor.Cursor.u64.Goals as goal

pub returns-clause-ok : goal.returns-clause-ok
returns-clause-ok c = search (rules, number_exits)
