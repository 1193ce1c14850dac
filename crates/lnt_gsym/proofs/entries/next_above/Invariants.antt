use Rattle.lnt_gsym.proofs.EntryLemmas.{StartsSoFar}
use Rattle.lnt_gsym.proofs.entries.next_above.Given as goal

abbrev pub invariant-loop-left : goal.invariant-loop-left
invariant-loop-left l = StartsSoFar l.order l.base l.start l.size l.count l.left l.starts l.rest

abbrev pub decreases-loop-left : goal.decreases-loop-left
decreases-loop-left l = l.left
