use Rattle.lnt_table.specs.Groups.{HaveEnded}
use Rattle.lnt_table.proofs.group.ended_at.Given as goal

abbrev pub invariant-loop-place : goal.invariant-loop-place
invariant-loop-place l = HaveEnded l.extents l.fn.from l.at → HaveEnded l.extents l.place l.at
