use Rattle.std.proofs.Common.{length}
use Rattle.lnt_older.proofs.SizeLemmas.{SizedTo}
use Rattle.lnt_older.proofs.section.judge_sizes.Given as goal

abbrev pub invariant-loop-cursor : goal.invariant-loop-cursor
invariant-loop-cursor l = SizedTo l.fn.order l.fn.address_size l.directories l.bytes l.cursor

abbrev pub decreases-loop-cursor : goal.decreases-loop-cursor
decreases-loop-cursor l = length l.cursor.rest
