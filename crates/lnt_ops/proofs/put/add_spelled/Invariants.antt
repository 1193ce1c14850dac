use Rattle.std.proofs.Common.{length}
use Rattle.lnt_ops.proofs.OpPutLemmas.{SpelledSoFar}
use Rattle.lnt_ops.proofs.put.add_spelled.Given as goal

abbrev pub invariant-loop-number : goal.invariant-loop-number
invariant-loop-number l = SpelledSoFar l.fn.bytes l.fn.out.items l.cursor l.out.items

abbrev pub decreases-loop-number : goal.decreases-loop-number
decreases-loop-number l = length l.cursor.rest
