-- How long a frame has to be that begins with some bytes.
use Rattle.std.proofs.Common.{◌≡◌, ℕ, ◌+◌, ◌<◌, ◌≤◌, List, [], ◌++◌, length, sym, ap, ◌∙◌, append_assoc, arith, length-append}
use Rattle.lnt_wire.specs.Reading.{At, Reads}
use Rattle.lnt_wire.specs.declared.format.Order.{Order}
use Rattle.lnt_wire.specs.declared.format.Format.{Format}
use Rattle.lnt_wire.specs.declared.format.Format.TheVariants.{D32, D64}
use Rattle.lnt_wire.specs.Numbers.{NumberBytes, number_bytes}
use Rattle.lnt_wire.specs.FrameBytes.{initial_length, LengthFits}
use Rattle.lnt_wire.specs.FrameFaults.{IsCutFrame}
use Rattle.lnt_wire.specs.FrameFaults.IsCutFrame.{no_length, no_wide_length, too_long}
use Rattle.lnt_wire.proofs.FrameLaws.{cut_none}
use Rattle.lnt_wire.proofs.LengthLaws.{length-number_bytes, width_4, same_number_prefix, same_length, length-initial}
use Rattle.lnt_unit.specs.Spelled.{IsLeastSize}
use Rattle.std.proofs.lemmas.Grind.{common_steps}

-- nothing was taken yet
pub least_nothing : (order : Order) (bytes : List ℕ) → bytes ≡ [] → IsLeastSize order bytes (length bytes)
least_nothing order bytes empty = record { least = λ frame spelling past more p e. omega (arith, ap length empty) }

-- ---- the initial length is cut

-- a frame has 4 bytes
pub least_first : (old : At) (n : ℕ) → n ≤ 4 → IsLeastSize old.order old.rest n
least_first old n le = grind (arith, common_steps, length-append, length-initial)

-- a frame that begins with 0xffffffff has 12 bytes
twelve : (order : Order) (format : Format) (n : ℕ) (past bytes : List ℕ) → LengthFits format n
    → initial_length format order n ++ past ≡ number_bytes order 4 0xffffffff ++ bytes → 12 ≤ length (initial_length format order n)
twelve order D32 n past bytes fits e =
    let found = same_number_prefix order 4 width_4 n 0xffffffff past bytes (omega arith) (omega arith) e in
    absurd (omega (arith, found.0))
twelve order D64 n past bytes fits e =
    omega (
      arith,
      length-append (number_bytes order 4 0xffffffff) (number_bytes order 8 n),
      length-number_bytes order 4 0xffffffff,
      length-number_bytes order 8 n,
    )

-- the first number is 0xffffffff
wide_first : (old ahead : At) (first : ℕ) → Reads (NumberBytes old.order 4) first old ahead → 0xffffffff ≤ first
    → old.rest ≡ number_bytes old.order 4 0xffffffff ++ ahead.rest
wide_first old ahead first r high = grind (arith, common_steps)

pub least_second : (old ahead : At) (first n : ℕ) → Reads (NumberBytes old.order 4) first old ahead → 0xffffffff ≤ first → n ≤ 12
    → IsLeastSize old.order old.rest n
least_second old ahead first n r high le = grind (arith, common_steps, twelve, append_assoc, wide_first, length-append)

-- ---- the initial length is whole

least_counted : (order : Order) (format : Format) (n size : ℕ) (past bytes : List ℕ) → LengthFits format n
    → bytes ≡ initial_length format order n ++ past → size ≤ length (initial_length format order n) + n → IsLeastSize order bytes size
least_counted order format n size past bytes fits begins le = grind (arith, common_steps, same_length, append_assoc, length-append)

-- the bytes of a 32-bit initial length
short_first : (old ahead : At) (first : ℕ) → Reads (NumberBytes old.order 4) first old ahead
    → old.rest ≡ initial_length D32 old.order first ++ ahead.rest
short_first old ahead first r = r.whole ∙ ap (λ (z : List ℕ). z ++ ahead.rest) r.spelled.spelled

-- the bytes of a 64-bit one
wide_second : (old ahead new : At) (first n : ℕ) → Reads (NumberBytes old.order 4) first old ahead → 0xffffffff ≤ first
    → Reads (NumberBytes ahead.order 8) n ahead new → old.rest ≡ initial_length D64 old.order n ++ new.rest
wide_second old ahead new first n r high q = grind (arith, common_steps, wide_first, append_assoc)

pub least_short : (old ahead : At) (first size : ℕ) → Reads (NumberBytes old.order 4) first old ahead → first < 0xfffffff0
    → size + length ahead.rest ≤ length old.rest + first → IsLeastSize old.order old.rest size
least_short old ahead first size r low le = grind (arith, common_steps, short_first, least_counted, length-append)

pub least_wide : (old ahead new : At) (first n size : ℕ) → Reads (NumberBytes old.order 4) first old ahead → 0xffffffff ≤ first
    → Reads (NumberBytes ahead.order 8) n ahead new → size + length new.rest ≤ length old.rest + n → IsLeastSize old.order old.rest size
least_wide old ahead new first n size r high q le = grind (arith, common_steps, wide_second, least_counted, length-append)

-- ---- the bytes are not cut

pub whole_short : (old ahead : At) (first : ℕ) → Reads (NumberBytes old.order 4) first old ahead → first < 0xfffffff0
    → first ≤ length ahead.rest → IsCutFrame old.order old.rest → ⊥
whole_short old ahead first r low le = cut_none old.order D32 first ahead.rest old.rest low le (sym (short_first old ahead first r))

pub whole_wide : (old ahead new : At) (first n : ℕ) → Reads (NumberBytes old.order 4) first old ahead → 0xffffffff ≤ first
    → Reads (NumberBytes ahead.order 8) n ahead new → n ≤ length new.rest → IsCutFrame old.order old.rest → ⊥
whole_wide old ahead new first n r high q le =
    cut_none old.order D64 n new.rest old.rest (omega (arith, q.spelled.fits)) le (sym (wide_second old ahead new first n r high q))

-- reserved bytes are read as a whole
reserved_whole : (order : Order) (n : ℕ) (past bytes : List ℕ) → 0xfffffff0 ≤ n → n < 0xffffffff
    → bytes ≡ number_bytes order 4 n ++ past → IsCutFrame order bytes → ⊥
reserved_whole order n past bytes low high begins (no_length lt) =
    omega (arith, ap length begins, length-append (number_bytes order 4 n) past, length-number_bytes order 4 n)
reserved_whole order n past bytes low high begins (no_wide_length rest f lt) =
    let found = same_number_prefix order 4 width_4 n 0xffffffff past rest (omega arith) (omega arith) (sym begins ∙ f) in
    omega (arith, found.0)
reserved_whole order n past bytes low high begins (too_long D32 m rest fits f lt) =
    let found = same_number_prefix order 4 width_4 n m past rest (omega arith) (omega arith) (sym begins ∙ f) in
    omega (arith, found.0)
reserved_whole order n past bytes low high begins (too_long D64 m rest fits f lt) =
    let found = same_number_prefix order 4 width_4 n 0xffffffff past (number_bytes order 8 m ++ rest) (omega arith) (omega arith)
    (sym begins ∙ f ∙ append_assoc (number_bytes order 4 0xffffffff) (number_bytes order 8 m) rest) in
    omega (arith, found.0)

pub whole_reserved : (old ahead : At) (first : ℕ) → Reads (NumberBytes old.order 4) first old ahead → 0xfffffff0 ≤ first
    → first < 0xffffffff → IsCutFrame old.order old.rest → ⊥
whole_reserved old ahead first r low high = reserved_whole old.order first ahead.rest old.rest low high (short_first old ahead first r)

-- what the size of a frame cites, by how its initial length begins
pub ruleset sizes = (least_first, least_second, least_short, least_wide, whole_short, whole_reserved, whole_wide)
