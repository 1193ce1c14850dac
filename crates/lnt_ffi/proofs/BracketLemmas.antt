-- Between which spans an index says that the answer lies, where it is that of the spans.
use Rattle.std.proofs.Common.{◌≡◌, ℕ, ◌+◌, ◌-◌, ◌/◌, ◌%◌, ◌^◌, ◌<◌, ◌≤◌, List, length, map, get_or, min, subst, arith, ltb-false, ltb-true}
use Rattle.std.proofs.Math.Nat.{div-mul-le_self, mod-eq_of_lt}
use Rattle.std.proofs.lemmas.Grind.{common_steps}
use Rattle.std.proofs.lemmas.List.{length-map}
use Rattle.std.proofs.lemmas.List.Sums.{prefix_len-le-length, prefix_len_passes, prefix_len_stops}
use Rattle.std.proofs.lemmas.Nat.{le-div, pow_pos}
use Rattle.std.proofs.lemmas.Option.{slice_get-get_or}
use Rattle.lnt_spans.specs.declared.position.Position.{Position}
use Rattle.lnt_spans.specs.declared.span.Span.{Span}
use Rattle.lnt_spans.specs.Positions.{IsBelow, IsAtMost}
use Rattle.lnt_spans.specs.Spans.{AreInOrder}
use Rattle.lnt_spans.proofs.BetweenLaws.{ends_before, none_empty}
use Rattle.lnt_spans.specs.Stepping.{IsBracket}
use Rattle.lnt_ffi.specs.Flat.{span_of, FlatSpan}
use Rattle.lnt_ffi.specs.Index.{begins_below, bucket, first_low, IsBucketIndex, last_low, spans_below}
use Rattle.lnt_ffi.proofs.IndexLemmas.{more_below, unseen}
use Rattle.lnt_ffi.proofs.LookLemmas.{at}

parts_rise : (x y c : ℕ) → 0 < c → x ≤ y → x / c ≤ y / c
parts_rise x y c some le = grind (arith, le-div (x / c) y c some, div-mul-le_self x c)

-- ---- the lows of spans in order, and their buckets

abbrev pub low_of : List FlatSpan → ℕ → ℕ
low_of spans k = (get_or spans k unseen).low

ends_by_next : (spans : List FlatSpan) (i j : ℕ) → AreInOrder (map span_of spans) → i < j → j < length spans
    → (get_or spans i unseen).high ≤ low_of spans j
ends_by_next spans i j o lt l = grind (arith, common_steps, ends_before (map span_of spans) o i j (span_of unseen) lt)

lows_rise : (spans : List FlatSpan) (i j : ℕ) → AreInOrder (map span_of spans) → i ≤ j → j < length spans
    → low_of spans i ≤ low_of spans j
lows_rise spans i j o le l =
    grind (arith, common_steps, none_empty (map span_of spans) o i (span_of unseen), ends_by_next spans i j o)

abbrev bucket_at : List FlatSpan → ℕ → ℕ → ℕ
bucket_at spans shift k = bucket (first_low spans) shift (low_of spans k)

buckets_rise : (spans : List FlatSpan) (shift i j : ℕ) → AreInOrder (map span_of spans) → i ≤ j → j < length spans
    → bucket_at spans shift i ≤ bucket_at spans shift j
buckets_rise spans shift i j o le l =
    let rises = parts_rise (low_of spans i - first_low spans) (low_of spans j - first_low spans) (2 ^ shift) (pow_pos shift) in
    grind (arith, lows_rise spans i j o le l, rises)

-- ---- those below a bucket, and the others

in_prefix : (spans : List FlatSpan) (shift number k : ℕ) → k < spans_below spans shift number → bucket_at spans shift k < number
in_prefix spans shift number k lt =
    grind (arith, prefix_len_passes (begins_below (first_low spans) shift number) spans k unseen, ltb-true (bucket_at spans shift k) number)

past : (spans : List FlatSpan) (shift number k : ℕ) → AreInOrder (map span_of spans) → spans_below spans shift number ≤ k
    → k < length spans → number ≤ bucket_at spans shift k
past spans shift number k o le l =
    let first = spans_below spans shift number in
    let stops = prefix_len_stops (begins_below (first_low spans) shift number) spans unseen in
    grind (arith, stops, ltb-false (bucket_at spans shift first) number, buckets_rise spans shift first k o)

-- ---- the bracket

-- What is below a bucket that isn't above that of the address, but for the last such span, ends below the address. And what isn't
-- below the next one begins above it, unless the address is in a bucket above, and there are no such spans.
bracketed : (spans : List FlatSpan) (shift number low high : ℕ) (p : Position) → AreInOrder (map span_of spans)
    → low ≤ high → high ≤ length spans
    → low ≤ spans_below spans shift number - 1 → number ≤ bucket (first_low spans) shift p.address
    → spans_below spans shift (number + 1) ≤ high
    → (number < bucket (first_low spans) shift p.address → bucket (first_low spans) shift (last_low spans) ≤ number)
    → spans_below spans shift number ≤ length spans
    → IsBracket (map span_of spans) p low high
bracketed spans shift number low high p o upto within below at_most above no_more all =
    let count : length (map span_of spans) ≡ length spans = length-map spans span_of in
    let from : ℕ → ℕ = λ n. n - first_low spans in
    record {
      upto = upto;
      within = omega (arith, count, within);
      before = λ k d lt.
          let rise = parts_rise (from p.address) (from (low_of spans (k + 1))) (2 ^ shift) (pow_pos shift) in
          let prefix = in_prefix spans shift number (k + 1) in
          let ends = ends_by_next spans k (k + 1) o in
          subst (λ (s : Span). IsAtMost s.high p) (at spans k unseen d (omega (arith, lt, upto, within)))
          (record { address = grind (arith, rise, prefix, ends); op = λ e. grind (arith, rise, prefix, ends, e) });
      past = λ k d le l.
          let lk : k < length spans = omega (arith, count, l) in
          let later = past spans shift (number + 1) k o (omega (arith, le, above)) lk in
          let rise = parts_rise (from (low_of spans k)) (from p.address) (2 ^ shift) (pow_pos shift) in
          let to_last = buckets_rise spans shift k (length spans - 1) o (omega (arith, lk)) (omega (arith, lk)) in
          let last = slice_get-get_or spans (length spans - 1) unseen (omega (arith, lk)) in
          let less : p.address < low_of spans k = grind (arith, common_steps, later, rise, to_last, no_more, last) in
          subst (λ (s : Span). IsBelow p s.low) (at spans k unseen d lk)
          (record { address = omega (arith, less); op = λ e. absurd (omega (arith, less, e)) });
    }

-- what is read in the index of the spans, and what comes of it
pub by_index : (spans : List FlatSpan) (index : List ℕ) (p : Position) (made : IsBucketIndex spans index) → made.shift < 63
    → AreInOrder (map span_of spans) → length spans < 2 ^ 32 → 0 < length spans → 3 ≤ length index
    → (offset number places low high : ℕ) → offset ≡ p.address - low_of spans 0 → places ≡ offset / 2 ^ (get_or index 0 0 % 64)
    → number ≡ min places (length index - 3) → high ≡ min (get_or index (number + 2) 0) (length spans)
    → low ≡ min (get_or index (number + 1) 0 - 1) high → IsBracket (map span_of spans) p low high
by_index spans index p made small o few some three offset number places low high offset_is places_is number_is high_is low_is =
    let shift_is : get_or index 0 0 % 64 ≡ made.shift = grind (arith, made.shift_is 0, mod-eq_of_lt made.small) in
    let first_is : low_of spans 0 ≡ first_low spans = grind (arith, common_steps, slice_get-get_or spans 0 unseen some) in
    let places_same : places ≡ bucket (first_low spans) made.shift p.address = grind (arith, shift_is, first_is, places_is, offset_is) in
    let entry = made.entries number 0 (omega (arith, number_is, three)) in
    let next = made.entries (number + 1) 0 (omega (arith, number_is, three)) in
    let test = begins_below (first_low spans) made.shift in
    let all_next = prefix_len-le-length (test (number + 1)) spans in
    let more = more_below spans made.shift number in
    bracketed spans made.shift number low high p o (omega (arith, low_is)) (omega (arith, high_is))
    (omega (arith, low_is, entry)) (omega (arith, number_is, places_same)) (grind (arith, high_is, next, all_next, few))
    (λ lt. grind (arith, lt, number_is, places_same, made.has_room small)) (prefix_len-le-length (test number) spans)
