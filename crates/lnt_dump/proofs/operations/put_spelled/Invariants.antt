use Rattle.std.proofs.Common.{length}
use Rattle.lnt_dump.proofs.Operands.{AreLeft}
use Rattle.lnt_dump.proofs.operations.put_spelled.Given as goal

abbrev pub invariant-loop-cursor : goal.invariant-loop-cursor
invariant-loop-cursor l = AreLeft l.fn.bytes l.cursor.rest l.fn.text.items l.text.items

abbrev pub decreases-loop-cursor : goal.decreases-loop-cursor
decreases-loop-cursor l = length l.cursor.rest
