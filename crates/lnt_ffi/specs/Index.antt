-- An index over spans: a shift, and then for each bucket of addresses how many spans begin below it.
use Rattle.std.specs.Prelude.{◌≡◌, ◌+◌, ◌-◌, ◌/◌, ◌^◌, ◌<◌, ◌≤◌, ℕ, Bool, nat_lt, List, length, min, get_or}
use Rattle.std.specs.List.{prefix_len, slice_get}
use Rattle.std.specs.Option.{option_map_or}
use Rattle.lnt_ffi.specs.declared.flat.FlatSpan.{FlatSpan}

-- the address at which the span at a place begins, and 0 where there is none
abbrev pub low_at : List FlatSpan → ℕ → ℕ
low_at spans place = option_map_or (λ span. span.low) (slice_get spans place) 0

-- the addresses at which the first span begins and the last one
abbrev pub first_low : List FlatSpan → ℕ
first_low spans = low_at spans 0

abbrev pub last_low : List FlatSpan → ℕ
last_low spans = low_at spans (length spans - 1)

-- the bucket of an address: each holds 2 ^ shift addresses, and bucket 0 begins at the first one
abbrev pub bucket : ℕ → ℕ → ℕ → ℕ
bucket first shift address = (address - first) / 2 ^ shift

-- whether a span begins in a bucket below this one
abbrev pub begins_below : ℕ → ℕ → ℕ → FlatSpan → Bool
begins_below first shift number span = nat_lt (bucket first shift span.low) number

-- how many spans, from the first on, begin in a bucket below this one: of spans in order, all that do
abbrev pub spans_below : List FlatSpan → ℕ → ℕ → ℕ
spans_below spans shift number = prefix_len (begins_below (first_low spans) shift number) spans

-- The index has the shift, and then an entry for each bucket from 0 on, the greatest number where there is no room for more.
-- The shift is the least one that leaves room for the bucket in which the last span begins, and for the one after it.
pub record IsBucketIndex (spans : List FlatSpan) (index : List ℕ) : Type 0 where
  pub shift : ℕ
  pub small : shift < 64
  pub has_room : shift < 63 → bucket (first_low spans) shift (last_low spans) + 2 < length index
  pub least : (n : ℕ) → n < shift → length index ≤ bucket (first_low spans) n (last_low spans) + 2
  pub shift_is : (d : ℕ) → 0 < length index → get_or index 0 d ≡ shift
  pub entries : (number d : ℕ) → number + 1 < length index
      → get_or index (number + 1) d ≡ min (spans_below spans shift number) (2 ^ 32 - 1)
