use Rattle.std.proofs.Common.{length}
use Rattle.lnt_gsym.proofs.FunctionLemmas.{OpenedSoFar}
use Rattle.lnt_gsym.proofs.function.last_table.Given as goal

abbrev pub invariant-loop-part : goal.invariant-loop-part
invariant-loop-part l = OpenedSoFar l.start l.address l.fn.cursor l.cursor l.gate l.has_table l.rows

abbrev pub decreases-loop-part : goal.decreases-loop-part
decreases-loop-part l = length l.cursor.rest
