use Rattle.std.proofs.Common.{length}
use Rattle.lnt_older.proofs.SectionLemmas.{OlderTo}
use Rattle.lnt_older.proofs.section.older_units.Given as goal

abbrev pub invariant-loop-cursor : goal.invariant-loop-cursor
invariant-loop-cursor l = OlderTo l.fn.order l.bytes l.cursor l.older.items

abbrev pub decreases-loop-cursor : goal.decreases-loop-cursor
decreases-loop-cursor l = length l.cursor.rest
