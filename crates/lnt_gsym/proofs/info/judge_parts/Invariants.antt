use Rattle.std.proofs.Common.{length}
use Rattle.lnt_gsym.proofs.InfoLemmas.{JudgedSoFar}
use Rattle.lnt_gsym.proofs.info.judge_parts.Given as goal

abbrev pub invariant-loop-fault : goal.invariant-loop-fault
invariant-loop-fault l = JudgedSoFar l.files l.start l.fn.cursor l.cursor

abbrev pub decreases-loop-fault : goal.decreases-loop-fault
decreases-loop-fault l = length l.cursor.rest
