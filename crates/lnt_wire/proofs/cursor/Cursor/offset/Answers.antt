use Rattle.std.proofs.Common.{rules}
use Rattle.lnt_wire.proofs.cursor.Cursor.offset.Goals as goal

pub returns-in_ok-u32-in-D32-clause-ok : goal.returns-in_ok-u32-in-D32-clause-ok
returns-in_ok-u32-in-D32-clause-ok c = search rules
