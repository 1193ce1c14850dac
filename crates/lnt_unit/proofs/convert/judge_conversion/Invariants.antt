use Rattle.std.proofs.Common.{length}
use Rattle.lnt_unit.proofs.JudgeLemmas.{JudgedTo}
use Rattle.lnt_unit.proofs.convert.judge_conversion.Given as goal

abbrev pub invariant-loop-cursor : goal.invariant-loop-cursor
invariant-loop-cursor l = JudgedTo l.fn.order l.bytes l.fn.format l.fn.to l.large l.cursor

abbrev pub decreases-loop-cursor : goal.decreases-loop-cursor
decreases-loop-cursor l = length l.cursor.rest
