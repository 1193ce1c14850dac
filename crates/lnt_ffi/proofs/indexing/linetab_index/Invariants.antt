use Rattle.std.proofs.Common.{◌≡◌, ◌+◌, ◌-◌, ◌^◌, ◌<◌, ◌≤◌, ℕ, length, min, get_or}
use Rattle.lnt_ffi.specs.Index.{spans_below}
use Rattle.lnt_ffi.proofs.indexing.linetab_index.Given as goal

abbrev pub invariant-loop-number : goal.invariant-loop-number
invariant-loop-number l = record {
  size : length l.index ≡ length l.fn.index;
  some : 0 < length l.index;
  upto : l.place ≤ spans_below l.spans l.shift l.number;
  shift_is : (d : ℕ) → get_or l.index 0 d ≡ l.shift;
  done : (number d : ℕ) → number < l.number → number + 1 < length l.index
      → get_or l.index (number + 1) d ≡ min (spans_below l.spans l.shift number) (2 ^ 32 - 1);
}

abbrev pub decreases-loop-number : goal.decreases-loop-number
decreases-loop-number l = length l.index - l.number
