use Rattle.std.proofs.Common.{length}
use Rattle.lnt_ops.proofs.OwnedLemmas.{NumbersSoFar}
use Rattle.lnt_ops.proofs.owned.spelled_numbers.Given as goal

abbrev pub invariant-loop-number : goal.invariant-loop-number
invariant-loop-number l = NumbersSoFar l.fn.bytes l.numbers.items l.cursor

abbrev pub decreases-loop-number : goal.decreases-loop-number
decreases-loop-number l = length l.cursor.rest
