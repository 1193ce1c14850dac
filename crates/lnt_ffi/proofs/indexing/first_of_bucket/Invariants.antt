use Rattle.std.proofs.Common.{◌-◌, ◌≤◌, length}
use Rattle.lnt_ffi.specs.Index.{spans_below}
use Rattle.lnt_ffi.proofs.indexing.first_of_bucket.Given as goal

abbrev pub invariant-loop-place : goal.invariant-loop-place
invariant-loop-place l = record {
  upto : l.place ≤ spans_below l.spans l.shift l.number;
}

abbrev pub decreases-loop-place : goal.decreases-loop-place
decreases-loop-place l = length l.spans - l.place
