use Rattle.std.proofs.Common.{List}
use Rattle.lnt_header.specs.declared.op.Op.{Op}
use Rattle.lnt_dump.specs.Stepping.{IsUnitOf}
use Rattle.lnt_dump.proofs.UnitWalks.{OpsPrinted}
use Rattle.lnt_dump.proofs.operations.print_ops.Given as goal

abbrev pub invariant-loop-op : goal.invariant-loop-op
invariant-loop-op g l =
    (ops : List Op) → IsUnitOf l.fn.unit ops → OpsPrinted l.fn.unit ops l.index l.op-iterator l.fn.page.items l.page.items
    (g.W.Write.contents l.fn.out) (g.W.Write.contents l.out)
