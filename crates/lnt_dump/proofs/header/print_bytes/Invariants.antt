use Rattle.std.proofs.Common.{length}
use Rattle.lnt_dump.proofs.Lines.{AreDigitsTold}
use Rattle.lnt_dump.proofs.header.print_bytes.Given as goal

abbrev pub invariant-loop-piece : goal.invariant-loop-piece
invariant-loop-piece g l = AreDigitsTold l.fn.bytes l.rest (g.W.Write.contents l.fn.out) (g.W.Write.contents l.out)

abbrev pub decreases-loop-piece : goal.decreases-loop-piece
decreases-loop-piece g l = length l.rest
