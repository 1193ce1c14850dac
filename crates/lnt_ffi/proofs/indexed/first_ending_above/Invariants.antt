use Rattle.std.proofs.Common.{◌-◌, ◌≤◌, length}
use Rattle.lnt_ffi.proofs.indexed.first_ending_above.Given as goal

abbrev pub invariant-loop-low : goal.invariant-loop-low
invariant-loop-low l = record {
  upto : l.low ≤ l.high;
  within : l.high ≤ length l.spans;
}

abbrev pub decreases-loop-low : goal.decreases-loop-low
decreases-loop-low l = l.high - l.low
