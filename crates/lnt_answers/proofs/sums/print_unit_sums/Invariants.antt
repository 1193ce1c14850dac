use Rattle.lnt_io.specs.Files.{FindsNoMore, OpensOnly}
use Rattle.lnt_answers.specs.Lines.{lists_below}
use Rattle.lnt_answers.specs.SumLines.{AreSumsPrinted, IsListedPath, listed_at}
use Rattle.lnt_answers.proofs.sums.print_unit_sums.Given as goal

abbrev pub invariant-loop-file : goal.invariant-loop-file
invariant-loop-file g l =
    FindsNoMore (g.O.Files.finds l.fn.opener) (g.O.Files.finds l.opener)
    × AreSumsPrinted (g.O.Files.finds l.fn.opener) l.index (lists_below (listed_at l.index l.unit) l.file)
    (g.W.Write.contents l.fn.out) (g.W.Write.contents l.out) l.status
    × OpensOnly (IsListedPath l.index) (g.O.Files.opens l.fn.opener) (g.O.Files.opens l.opener)
