use Rattle.std.proofs.Common.{length}
use Rattle.lnt_unit.proofs.SectionLaws.{UnitsSoFar}
use Rattle.lnt_unit.proofs.decode.decode_section.Given as goal

abbrev pub invariant-loop-cursor : goal.invariant-loop-cursor
invariant-loop-cursor l = UnitsSoFar l.fn.order l.bytes l.units.items l.cursor

abbrev pub decreases-loop-cursor : goal.decreases-loop-cursor
decreases-loop-cursor l = length l.cursor.rest
