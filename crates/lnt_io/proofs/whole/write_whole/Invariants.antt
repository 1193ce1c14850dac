use Rattle.lnt_io.proofs.WholeLemmas.{HasWritten}
use Rattle.lnt_io.proofs.whole.write_whole.Given as goal

abbrev pub invariant-loop : goal.invariant-loop
invariant-loop g l = HasWritten (g.W.Write.contents l.fn.out) (g.W.Write.contents l.out) l.bytes l.rest
