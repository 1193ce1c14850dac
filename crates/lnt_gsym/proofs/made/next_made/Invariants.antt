use Rattle.std.proofs.Common.{length}
use Rattle.lnt_gsym.proofs.MadeLemmas.{PassedSoFar}
use Rattle.lnt_gsym.proofs.made.next_made.Given as goal

abbrev pub invariant-loop-done : goal.invariant-loop-done
invariant-loop-done l = PassedSoFar l.numbers l.fn.last l.fn.cursor l.row l.cursor

abbrev pub decreases-loop-done : goal.decreases-loop-done
decreases-loop-done l = length l.cursor.rest
