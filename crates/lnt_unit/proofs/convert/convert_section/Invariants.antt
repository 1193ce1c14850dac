use Rattle.std.proofs.Common.{length}
use Rattle.lnt_unit.specs.ConversionSteps.{ConvertedTo}
use Rattle.lnt_unit.proofs.convert.convert_section.Given as goal

abbrev pub invariant-loop-cursor : goal.invariant-loop-cursor
invariant-loop-cursor l = ConvertedTo l.fn.order l.bytes l.fn.format l.fn.to l.cursor l.out.items

abbrev pub decreases-loop-cursor : goal.decreases-loop-cursor
decreases-loop-cursor l = length l.cursor.rest
