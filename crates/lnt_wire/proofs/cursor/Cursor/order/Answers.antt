use Rattle.std.proofs.Common.{rules}
use Rattle.lnt_wire.proofs.cursor.Cursor.order.Goals as goal

pub returns : goal.returns
returns c = search rules
