use Rattle.lnt_dump.proofs.Entries.{IsBefore}
use Rattle.lnt_dump.proofs.header.print_entries.Given as goal

abbrev pub invariant-loop-index : goal.invariant-loop-index
invariant-loop-index g l =
    IsBefore l.fn.name l.fn.table l.index l.cursor l.fn.page.items l.page.items (g.W.Write.contents l.fn.out) (g.W.Write.contents l.out)
