use Rattle.std.proofs.Common.{◌≤◌}
use Rattle.lnt_table.proofs.group.begun_at.Given as goal

abbrev pub invariant-loop-place : goal.invariant-loop-place
invariant-loop-place l = l.fn.from ≤ l.place
