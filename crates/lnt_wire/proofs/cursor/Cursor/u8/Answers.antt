use Rattle.std.proofs.Common.{rules}
use Rattle.lnt_wire.proofs.NumberLaws.{one_byte}
use Rattle.lnt_wire.proofs.cursor.Cursor.u8.Goals as goal

pub returns-clause-ok : goal.returns-clause-ok
returns-clause-ok c = search (rules, one_byte)
