use Rattle.lnt_text.proofs.PutLemmas.{Written}
use Rattle.lnt_text.proofs.put.digits_before.Given as goal

abbrev pub invariant-loop-left : goal.invariant-loop-left
invariant-loop-left l = Written l.radix l.n l.end l.fn.text l.text l.start l.left

abbrev pub decreases-loop-left : goal.decreases-loop-left
decreases-loop-left l = l.left
