use Rattle.std.proofs.Common.{length}
use Rattle.lnt_older.proofs.FileZeroLemmas.{NamedTo}
use Rattle.lnt_older.proofs.rows.judge_rows.Given as goal

abbrev pub invariant-loop-cursor : goal.invariant-loop-cursor
invariant-loop-cursor l = NamedTo l.fn.order l.fn.address_size l.bytes l.cursor

abbrev pub decreases-loop-cursor : goal.decreases-loop-cursor
decreases-loop-cursor l = length l.cursor.rest
