use Rattle.std.proofs.Common.{◌-◌}
use Rattle.lnt_sequences.specs.Briefs.{IsBetween}
use Rattle.lnt_sequences.proofs.brief.reached.Given as goal

abbrev pub invariant-loop-low : goal.invariant-loop-low
invariant-loop-low l = IsBetween l.rows l.at (l.low, l.high)

abbrev pub decreases-loop-low : goal.decreases-loop-low
decreases-loop-low l = l.high - l.low
