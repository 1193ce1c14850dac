use Rattle.std.proofs.Common.{◌≤◌}
use Rattle.lnt_records.proofs.wide.prefix_of.Given as goal

abbrev pub invariant-loop-i : goal.invariant-loop-i
invariant-loop-i l = l.commas ≤ 11
