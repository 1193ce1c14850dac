use Rattle.std.proofs.Common.{length}
use Rattle.lnt_older.proofs.WritingLaws.{WritingTo}
use Rattle.lnt_dump.proofs.PagedWalks.{PagedTo}
use Rattle.lnt_dump.proofs.upgrade.print_anew.Given as goal

abbrev pub invariant-loop-cursor : goal.invariant-loop-cursor
invariant-loop-cursor g l =
    PagedTo (WritingTo l.fn.order l.fn.address_size l.directories l.bytes) l.cursor (g.W.Write.contents l.fn.out)
    (g.W.Write.contents l.out) l.page.items

abbrev pub decreases-loop-cursor : goal.decreases-loop-cursor
decreases-loop-cursor g l = length l.cursor.rest
