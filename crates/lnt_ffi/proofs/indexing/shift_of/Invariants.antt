use Rattle.std.proofs.Common.{◌+◌, ◌-◌, ◌/◌, ◌^◌, ◌<◌, ◌≤◌, ℕ}
use Rattle.lnt_ffi.proofs.indexing.shift_of.Given as goal

abbrev pub invariant-loop-shift : goal.invariant-loop-shift
invariant-loop-shift l = record {
  small : l.shift < 64;
  least : (n : ℕ) → n < l.shift → l.len ≤ l.range / 2 ^ n + 2;
}

abbrev pub decreases-loop-shift : goal.decreases-loop-shift
decreases-loop-shift l = 64 - l.shift
