-- How many spans, from the first on, begin below a bucket.
use Rattle.std.proofs.Common.{◌≡◌, ℕ, ◌+◌, ◌-◌, ◌^◌, ◌<◌, ◌≤◌, List, length, get_or, set, min, arith, true, false, lt-ltb, ltb-true}
use Rattle.std.proofs.Common.{get_or-set_same, get_or-set_other, length-set}
use Rattle.std.proofs.lemmas.List.Sums.{prefix_len-le-length, prefix_len_passes, prefix_len_stops}
use Rattle.lnt_ffi.specs.Flat.{nothing, FlatSpan}
use Rattle.lnt_ffi.specs.Index.{begins_below, bucket, first_low, spans_below}

-- a span that is never looked at
abbrev pub unseen : FlatSpan
unseen = record { low = 0; low_op = 0; high = 0; high_op = 0; answer = nothing }

-- ---- the first ones, from a place on

pub one_more_below : (spans : List FlatSpan) (first shift number place : ℕ) (d : FlatSpan) → first ≡ first_low spans
    → place ≤ spans_below spans shift number → place < length spans → begins_below first shift number (get_or spans place d) ≡ true
    → place + 1 ≤ spans_below spans shift number
one_more_below spans first shift number place d is upto l passes =
    grind (arith, prefix_len_stops (begins_below (first_low spans) shift number) spans d, passes, is)

pub none_below_here : (spans : List FlatSpan) (first shift number place : ℕ) (d : FlatSpan) → first ≡ first_low spans
    → place ≤ spans_below spans shift number → begins_below first shift number (get_or spans place d) ≡ false
    → place ≡ spans_below spans shift number
none_below_here spans first shift number place d is upto fails =
    grind (arith, prefix_len_passes (begins_below (first_low spans) shift number) spans place d, fails, is)

-- those below a bucket are below the next one
pub more_below : (spans : List FlatSpan) (shift number : ℕ) → spans_below spans shift number ≤ spans_below spans shift (number + 1)
more_below spans shift number =
    let test = begins_below (first_low spans) shift in
    let next = spans_below spans shift (number + 1) in
    let here = bucket (first_low spans) shift (get_or spans next unseen).low in
    grind (
      arith,
      prefix_len-le-length (test number) spans,
      prefix_len_stops (test (number + 1)) spans unseen,
      prefix_len_passes (test number) spans next unseen,
      ltb-true here number,
      lt-ltb here (number + 1),
    )

-- the next entry is written
pub one_entry : (spans : List FlatSpan) (index : List ℕ) (shift number entry : ℕ) → number + 1 < length index
    → ((k d : ℕ) → k < number → k + 1 < length index → get_or index (k + 1) d ≡ min (spans_below spans shift k) (2 ^ 32 - 1))
    → entry ≡ min (spans_below spans shift number) (2 ^ 32 - 1)
    → (k d : ℕ) → k < number + 1 → k + 1 < length (set index (number + 1) entry)
    → get_or (set index (number + 1) entry) (k + 1) d ≡ min (spans_below spans shift k) (2 ^ 32 - 1)
one_entry spans index shift number entry l done is k d lt lk =
    grind (
      arith,
      get_or-set_same index (number + 1) entry d l,
      get_or-set_other index (number + 1) (k + 1) entry d,
      length-set index (number + 1) entry,
      done k d,
      is,
    )
