use Rattle.lnt_dump.proofs.Entries.{AreReadTold}
use Rattle.lnt_dump.proofs.header.print_entry_line.Given as goal

abbrev pub invariant-loop-pair : goal.invariant-loop-pair
invariant-loop-pair g l =
    AreReadTold l.fn.format l.fn.pairs l.pair-index l.fn.cursor l.cursor (g.W.Write.contents l.initial.out) (g.W.Write.contents l.out)
