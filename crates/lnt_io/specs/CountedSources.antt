-- What a source over a reader, with a limit, gives and has counted.
use Rattle.std.specs.Prelude.{◌≡◌, Bool, ℕ, List, Option, Some, None, is_some, true, option_to_list}
use Rattle.std.specs.Io.KnownBytes.{prepend_known}
use Rattle.std.proofs.Common.{arith}
use Rattle.lnt_io.specs.declared.counted.Counted.{Counted}
use Rattle.lnt_io.specs.Pulling.{HasMoreThan}

-- The byte after the limit, if it was found, and then what the reader gives.
abbrev pub counted_remaining : {R : Type 0} → (R → Option (List ℕ)) → Counted R → Option (List ℕ)
counted_remaining remaining source = prepend_known (option_to_list source.beyond) (remaining source.reader)

-- the number of reads that failed
abbrev pub counted_failures : {R : Type 0} → Counted R → ℕ
counted_failures source = source.failures

-- whether a byte after the limit was found
abbrev pub counted_too_long : {R : Type 0} → Counted R → Bool
counted_too_long source = is_some source.beyond

-- the number of bytes that may still be given
abbrev pub counted_left : {R : Type 0} → Counted R → ℕ
counted_left source = source.left

-- ---- a proof that the ghost member `more` of `Counted` cites; it is here only for that, and nothing in it has to be trusted

-- a byte that was found when no more may be given is one more than may be given
more_of : (beyond : Option ℕ) (known : Option (List ℕ)) (left : ℕ) → is_some beyond ≡ true → left ≡ 0
    → HasMoreThan (prepend_known (option_to_list beyond) known) left
more_of None known left found none_left = cc
more_of (Some b) None left found none_left = tt
more_of (Some b) (Some bytes) left found none_left = omega (arith, none_left)

pub counted_more : {R : Type 0} (remaining : R → Option (List ℕ)) (source : Counted R) → counted_too_long source ≡ true
    → HasMoreThan (counted_remaining remaining source) (counted_left source)
counted_more remaining source found = more_of source.beyond (remaining source.reader) source.left found (source.full found)
