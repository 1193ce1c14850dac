use Rattle.lnt_ops.proofs.ConvertedLemmas.{ConvertedSoFar}
use Rattle.lnt_ops.proofs.converted.convert_ops.Given as goal

abbrev pub invariant-loop-view : goal.invariant-loop-view
invariant-loop-view l = ConvertedSoFar l.fn.numbers l.fn.place l.fn.program l.fn.to l.fn.out.items l.view-iterator l.out.items
