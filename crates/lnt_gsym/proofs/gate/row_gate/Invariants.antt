use Rattle.lnt_gsym.specs.Walking.{count_left}
use Rattle.lnt_gsym.proofs.GateLemmas.{AskedSoFar}
use Rattle.lnt_gsym.proofs.gate.row_gate.Given as goal

abbrev pub invariant-loop-row : goal.invariant-loop-row
invariant-loop-row l = AskedSoFar l.address l.fn.rows l.passes l.rows

abbrev pub decreases-loop-row : goal.decreases-loop-row
decreases-loop-row l = count_left l.rows
