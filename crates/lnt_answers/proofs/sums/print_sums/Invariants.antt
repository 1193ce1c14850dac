use Rattle.std.proofs.Common.{take, flat_map}
use Rattle.lnt_io.specs.Files.{FindsNoMore, OpensOnly}
use Rattle.lnt_answers.specs.SumLines.{AreSumsPrinted, IsListedPath, listed_in}
use Rattle.lnt_answers.proofs.sums.print_sums.Given as goal

abbrev pub invariant-loop-unit : goal.invariant-loop-unit
invariant-loop-unit g l =
    FindsNoMore (g.O.Files.finds l.fn.opener) (g.O.Files.finds l.opener)
    × AreSumsPrinted (g.O.Files.finds l.fn.opener) l.index (flat_map (listed_in l.index) (take l.unit-index l.index.units))
    (g.W.Write.contents l.fn.out) (g.W.Write.contents l.out) l.status
    × OpensOnly (IsListedPath l.index) (g.O.Files.opens l.fn.opener) (g.O.Files.opens l.opener)
