use Rattle.std.proofs.Common.{◌-◌}
use Rattle.lnt_lines.proofs.PlaceLemmas.{IsBetween}
use Rattle.lnt_lines.proofs.lines.place_of.Given as goal

abbrev pub invariant-loop-low : goal.invariant-loop-low
invariant-loop-low l = IsBetween l.fn.units l.unit l.low l.high

abbrev pub decreases-loop-low : goal.decreases-loop-low
decreases-loop-low l = l.high - l.low
