use Rattle.lnt_gsym.proofs.TableLemmas.{LowerSoFar}
use Rattle.lnt_gsym.proofs.tables.first_lower.Given as goal

abbrev pub invariant-loop-left : goal.invariant-loop-left
invariant-loop-left l = LowerSoFar l.order l.size l.count l.bytes l.last l.place l.left l.rest

abbrev pub decreases-loop-left : goal.decreases-loop-left
decreases-loop-left l = l.left
