use Rattle.std.proofs.Common.{length}
use Rattle.lnt_dump.proofs.PagedWalks.{PagedTo}
use Rattle.lnt_dump.proofs.Sections.{ConvertingTo}
use Rattle.lnt_dump.proofs.convert.print_converted_units.Given as goal

abbrev pub invariant-loop-cursor : goal.invariant-loop-cursor
invariant-loop-cursor g l =
    PagedTo (ConvertingTo l.fn.order l.bytes l.fn.format l.fn.to) l.cursor (g.W.Write.contents l.fn.out) (g.W.Write.contents l.out)
    l.page.items

abbrev pub decreases-loop-cursor : goal.decreases-loop-cursor
decreases-loop-cursor g l = length l.cursor.rest
