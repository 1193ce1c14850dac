use Rattle.lnt_dump.proofs.Lines.{digits_all, digits_more}
use Rattle.lnt_dump.proofs.header.print_bytes.Goals as goal

pub loop-piece-preserved : goal.loop-piece-preserved
loop-piece-preserved g c =
    digits_more c.in-Some.piece.now c.in-Some.more.now _ (g.W.Write.contents c.print_piece.new.out) c.loop-piece.invariant
    c.in-Some.ensures.cases c.in_ok-print_piece.ensures

pub returns : goal.returns
returns g c =
    digits_all c.print_piece-2.result (g.W.Write.contents c.print_piece-2.new.out) c.loop-piece.invariant c.print_piece-2.ensures
