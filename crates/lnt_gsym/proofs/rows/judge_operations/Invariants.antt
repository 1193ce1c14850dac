use Rattle.std.proofs.Common.{length}
use Rattle.lnt_gsym.proofs.RowLemmas.{RunsSoFar}
use Rattle.lnt_gsym.proofs.rows.judge_operations.Given as goal

abbrev pub invariant-loop-next : goal.invariant-loop-next
invariant-loop-next l = RunsSoFar l.files l.numbers l.fn.first l.fn.cursor l.row l.cursor

abbrev pub decreases-loop-next : goal.decreases-loop-next
decreases-loop-next l = length l.cursor.rest
