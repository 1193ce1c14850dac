-- LEB128 numbers: their groups read from the prefix, and summed from the prefix or from the back.
use Rattle.std.proofs.Common.{◌≡◌, ℕ, zero, suc, ◌+◌, ◌*◌, ◌%◌, ◌^◌, ◌<◌, ◌≤◌, List, [], ◌∷◌, ◌++◌, length, get_or, take, drop}
use Rattle.std.proofs.Common.{refl, sym, ap, ◌∙◌, arith, subst, Bool, true, false, cond, leb, add-one, ◌-◌}
use Rattle.std.specs.Prelude.{ℤ, pos, ◌+ℤ◌, ◌-ℤ◌, ◌*ℤ◌, neg_ℤ, ◌≤ℤ◌, ◌<ℤ◌, FitsSigned}
use Rattle.std.specs.Int.{w64, w128, cast_signed as to_z, cast_unsigned as of_z}
use Rattle.std.proofs.lemmas.Int.{ints, to_z-of_z}
use Rattle.std.proofs.Math.Nat.{pow-suc, pow-le-pow_right, mul_comm, mul_assoc, mul-le-mul_right}
use Rattle.std.proofs.lemmas.Bool.{lt-leb, le-leb, cases_lt}
use Rattle.std.proofs.lemmas.List.{take_more, take-append-drop, length-take-le, get_or-take}
use Rattle.lnt_wire.specs.Bytes.{NoneSpelled}
use Rattle.lnt_wire.specs.declared.fault.Reason.TheVariants.{LebTooLarge}
use Rattle.lnt_wire.specs.Leb128.{IsLeb, AreHigh, IsLargeUnsigned, groups, has_sign, signed_groups, UnsignedLeb, SignedLeb, IsLargeSigned}
use Rattle.lnt_wire.specs.Leb128.{IsLebFault, IsShortLeb}
use Rattle.lnt_wire.specs.Reading.{At, Reads, Skips}
use Rattle.lnt_wire.proofs.CodeLaws.{same_leb}
use Rattle.lnt_wire.proofs.ReadLemmas.{reads_skipped}
use Rattle.std.proofs.lemmas.Grind.{common_steps}

pub high_push : (prefix : List ℕ) (b : ℕ) → AreHigh prefix → 128 ≤ b → AreHigh (prefix ++ b ∷ [])
high_push [] b h k = (k, tt)
high_push (a ∷ prefix) b h k = (h.0, high_push prefix b h.1 k)

pub leb_push : (prefix : List ℕ) (b : ℕ) → AreHigh prefix → b < 128 → IsLeb (prefix ++ b ∷ [])
leb_push [] b h k = k
leb_push (a ∷ []) b h k = (h.0, k)
leb_push (a ∷ c ∷ prefix) b h k = (h.0, leb_push (c ∷ prefix) b h.1 k)

pub high_more : (bytes : List ℕ) (i : ℕ) → i < length bytes → AreHigh (take i bytes) → 128 ≤ get_or bytes i 0 → AreHigh (take (i + 1) bytes)
high_more bytes i lt h k = subst AreHigh (sym (take_more bytes i 0 lt)) (high_push (take i bytes) (get_or bytes i 0) h k)

pub leb_more : (bytes : List ℕ) (i : ℕ) → i < length bytes → AreHigh (take i bytes) → get_or bytes i 0 < 128 → IsLeb (take (i + 1) bytes)
leb_more bytes i lt h k = subst IsLeb (sym (take_more bytes i 0 lt)) (leb_push (take i bytes) (get_or bytes i 0) h k)

-- bytes that are all high begin with no number
pub no_leb : (spelling more bytes : List ℕ) → IsLeb spelling → spelling ++ more ≡ bytes → AreHigh bytes → ⊥
no_leb [] more bytes p e h = p
no_leb (b ∷ []) more [] p e h = cc
no_leb (b ∷ []) more (c ∷ bytes) p e h = let heads : b ≡ c = cc in omega (arith, h.0)
no_leb (b ∷ c ∷ spelling) more [] p e h = cc
no_leb (b ∷ c ∷ spelling) more (d ∷ bytes) p e h =
    let tails : (c ∷ spelling) ++ more ≡ bytes = cc in
    no_leb (c ∷ spelling) more bytes p.1 tails h.1

-- the groups from a place on are at most all of them, and after the first place at most a 128th of that
pub groups_drop : (bytes : List ℕ) (i : ℕ) → groups (drop i bytes) ≤ groups bytes
groups_drop bytes zero = omega arith
groups_drop [] (suc i) = omega arith
groups_drop (b ∷ bytes) (suc i) = omega (arith, groups_drop bytes i)

pub groups_past : (bytes : List ℕ) (i : ℕ) → 128 * groups (drop (suc i) bytes) ≤ groups bytes
groups_past bytes i = grind (arith, common_steps, groups_drop)

pub groups_after : (bytes : List ℕ) (i : ℕ) → 0 < i → 128 * groups (drop i bytes) ≤ groups bytes
groups_after bytes i h = grind (arith, common_steps, groups_past)

-- groups that are too large are no number, and no other groups stand there
pub none_large : (bytes : List ℕ) (size : ℕ) → IsLeb (take size bytes) → 2 ^ 64 ≤ groups (take size bytes) → NoneSpelled UnsignedLeb bytes
none_large bytes size shape large = λ x spelling more p e.
    let same : spelling ≡ take size bytes =
    same_leb spelling (take size bytes) more (drop size bytes) p.shape shape (e ∙ sym (take-append-drop size bytes)) in
    omega (arith, p.value, p.fits, ap groups same)

pub is_large : (bytes : List ℕ) (size : ℕ) → IsLeb (take size bytes) → 2 ^ 64 ≤ groups (take size bytes)
    → IsLebFault IsLargeUnsigned LebTooLarge bytes
is_large bytes size shape large = (take size bytes, drop size bytes, shape, large, sym (take-append-drop size bytes))

pub none_cut : (bytes : List ℕ) → AreHigh bytes → NoneSpelled UnsignedLeb bytes
none_cut bytes high = λ x spelling more p e. no_leb spelling more bytes p.shape e high

-- ---- signed groups, from the back

signed_step : (low g width whole : ℕ) (s : Bool) → whole ≡ 128 * width
    → pos (low + 128 * g) -ℤ pos (cond s whole 0) ≡ pos low +ℤ pos 128 *ℤ (pos g -ℤ pos (cond s width 0))
signed_step low g width whole true e = omega (arith, ints)
signed_step low g width whole false e = omega (arith, ints)

-- one more byte in prefix of some
pub signed_more : (b c : ℕ) (bytes : List ℕ) → signed_groups (b ∷ c ∷ bytes) ≡ pos (b % 128) +ℤ pos 128 *ℤ signed_groups (c ∷ bytes)
signed_more b c bytes = grind (arith, common_steps, signed_step, pow-suc)

pub signed_at : (bytes : List ℕ) (i : ℕ) → suc i < length bytes
    → signed_groups (drop i bytes) ≡ pos (get_or bytes i 0 % 128) +ℤ pos 128 *ℤ signed_groups (drop (suc i) bytes)
signed_at [] i lt = absurd (omega arith)
signed_at (b ∷ []) i lt = absurd (omega arith)
signed_at (b ∷ c ∷ bytes) zero lt = signed_more b c bytes
signed_at (b ∷ c ∷ bytes) (suc i) lt = signed_at (c ∷ bytes) i (omega arith)

-- a number so far from 0 that no number with one more group is in range
pub data IsFar (bound : ℕ) (z : ℤ) : Type 0 where
  above : pos bound ≤ℤ z → IsFar bound z
  under : z <ℤ neg_ℤ (pos bound) → IsFar bound z

far_more : (z : ℤ) (low : ℕ) → low < 128 → IsFar (2 ^ 56) z → IsFar (2 ^ 63) (pos low +ℤ pos 128 *ℤ z)
far_more z low lt h = grind (arith, common_steps, ints)

far_less : (z : ℤ) → IsFar (2 ^ 63) z → IsFar (2 ^ 56) z
far_less z h = grind (arith, common_steps, ints)

far_is_large : (z : ℤ) → IsFar (2 ^ 63) z → FitsSigned w64 z → ⊥
far_is_large z h fits = grind (arith, common_steps, ints)

pub far_whole : (bytes : List ℕ) (i : ℕ) → suc i < length bytes → IsFar (2 ^ 56) (signed_groups (drop (suc i) bytes))
    → IsFar (2 ^ 63) (signed_groups bytes)
far_whole [] i lt far = absurd (omega arith)
far_whole (b ∷ []) i lt far = absurd (omega arith)
far_whole (b ∷ c ∷ bytes) zero lt far =
    subst (IsFar (2 ^ 63)) (sym (signed_more b c bytes)) (far_more (signed_groups (c ∷ bytes)) (b % 128) (omega arith) far)
far_whole (b ∷ c ∷ bytes) (suc i) lt far =
    subst (IsFar (2 ^ 63)) (sym (signed_more b c bytes)) (far_more (signed_groups (c ∷ bytes)) (b % 128) (omega arith)
    (far_less (signed_groups (c ∷ bytes)) (far_whole (c ∷ bytes) i (omega arith) far)))

pub large_signed : (bytes : List ℕ) (i : ℕ) → 0 < i → i < length bytes → IsFar (2 ^ 56) (signed_groups (drop i bytes)) → IsLargeSigned bytes
large_signed bytes zero some lt far = absurd (omega arith)
large_signed bytes (suc i) some lt far = far_is_large (signed_groups bytes) (far_whole bytes i lt far)

-- the last byte alone
pub record IsEnd (bytes : List ℕ) : Type 0 where
  pub some : 0 < length bytes
  pub low : get_or bytes (length bytes - 1) 0 < 128
  pub alone : drop (length bytes - 1) bytes ≡ get_or bytes (length bytes - 1) 0 ∷ []

pub end_of : (bytes : List ℕ) → IsLeb bytes → IsEnd bytes
end_of [] p = absurd p
end_of (b ∷ []) p = record { some = omega arith; low = p; alone = refl }
end_of (b ∷ c ∷ bytes) p =
    let rest = end_of (c ∷ bytes) p.1 in
    let last : length (b ∷ c ∷ bytes) - 1 ≡ suc (length (c ∷ bytes) - 1) = omega arith in
    record { some = omega arith; low = rw last rest.low; alone = rw last rest.alone }

pub signed_before : (bytes : List ℕ) (i : ℕ) → 0 < i → i < length bytes
    → signed_groups (drop (i - 1) bytes) ≡ pos (get_or bytes (i - 1) 0 % 128) +ℤ pos 128 *ℤ signed_groups (drop i bytes)
signed_before bytes zero some lt = absurd (omega arith)
signed_before bytes (suc i) some lt = let e : suc i - 1 ≡ i = omega arith in rw e (signed_at bytes i lt)

pub none_cut_signed : (bytes : List ℕ) → AreHigh bytes → NoneSpelled SignedLeb bytes
none_cut_signed bytes high = λ x spelling more p e. no_leb spelling more bytes p.shape e high

pub none_large_signed : (bytes : List ℕ) (size : ℕ) → IsLeb (take size bytes) → IsLargeSigned (take size bytes)
    → NoneSpelled SignedLeb bytes
none_large_signed bytes size shape large = λ x spelling more p e.
    let same : spelling ≡ take size bytes =
    same_leb spelling (take size bytes) more (drop size bytes) p.shape shape (e ∙ sym (take-append-drop size bytes)) in
    large (subst (λ (b : List ℕ). FitsSigned w64 (signed_groups b)) same (subst (FitsSigned w64) p.value p.fits))

pub is_large_signed : (bytes : List ℕ) (size : ℕ) → IsLeb (take size bytes) → IsLargeSigned (take size bytes)
    → IsLebFault IsLargeSigned LebTooLarge bytes
is_large_signed bytes size shape large = (take size bytes, drop size bytes, shape, large, sym (take-append-drop size bytes))

-- one byte in two's complement
pub one_low : (b : ℕ) → b < 64 → signed_groups (b ∷ []) ≡ pos b
one_low b lt = let small : b % 128 ≡ b = omega arith in rw (lt-leb 64 b lt, small) (omega (arith, ints))

pub one_high : (b : ℕ) → 64 ≤ b → b < 128 → signed_groups (b ∷ []) ≡ pos b -ℤ pos 128
one_high b le lt = grind (arith, common_steps, le-leb)

-- ---- at most 9 groups, from the prefix

pub groups_push : (prefix : List ℕ) (b : ℕ) → groups (prefix ++ b ∷ []) ≡ groups prefix + b % 128 * 128 ^ length prefix
groups_push [] b = omega arith
groups_push (a ∷ prefix) b =
    let rest = groups_push prefix b in
    let moved : 128 * (b % 128 * 128 ^ length prefix) ≡ b % 128 * 128 ^ suc (length prefix) =
    rw (pow-suc 128 (length prefix)) (mul_comm 128 (b % 128 * 128 ^ length prefix) ∙ mul_assoc (b % 128) (128 ^ length prefix) 128) in
    omega (arith, rest, moved)

pub groups_bound : (prefix : List ℕ) → groups prefix < 128 ^ length prefix
groups_bound [] = omega arith
groups_bound (a ∷ prefix) = omega (arith, groups_bound prefix, pow-suc 128 (length prefix))

-- one more group of a few
pub sum_more : (bytes : List ℕ) (i sum scale : ℕ) → i < length bytes → sum ≡ groups (take i bytes) → scale ≡ 128 ^ i
    → sum + get_or bytes i 0 % 128 * scale ≡ groups (take (i + 1) bytes)
sum_more bytes i sum scale lt s k = grind (arith, common_steps, length-take-le, groups_push, take_more)

pub scale_more : (i scale : ℕ) → scale ≡ 128 ^ i → scale * 128 ≡ 128 ^ (i + 1)
scale_more i scale k = rw (add-one, pow-suc 128 i, k) refl

-- the sums of a few groups, and what more they can be
pub record FewGroups (bytes : List ℕ) (i sum scale : ℕ) : Type 0 where
  pub few : i ≤ 9
  pub high : AreHigh (take i bytes)
  pub sum_is : sum ≡ groups (take i bytes)
  pub scale_is : scale ≡ 128 ^ i

pub scale_fits : (i scale : ℕ) → i < 9 → scale ≡ 128 ^ i → scale ≤ 2 ^ 56
scale_fits i scale lt k = let le = pow-le-pow_right {n = 128} (omega arith) {i = i} {j = 8} (omega arith) in omega (arith, le)

pub sum_fits : (bytes : List ℕ) (i sum scale : ℕ) → i < 9 → i < length bytes → sum ≡ groups (take i bytes) → scale ≡ 128 ^ i → sum < 2 ^ 56
sum_fits bytes i sum scale lt within s k = grind (arith, common_steps, groups_bound, length-take-le, pow-le-pow_right)

pub sum_room : (low sum scale : ℕ) → low < 128 → sum < 2 ^ 56 → scale ≤ 2 ^ 56 → sum + low * scale < 2 ^ 64
sum_room low sum scale lt s k = let most : low * scale ≤ 127 * scale = mul-le-mul_right scale (omega arith) in omega (arith, most)

pub no_groups : (bytes : List ℕ) → FewGroups bytes 0 0 1
no_groups bytes = record { few = omega arith; high = tt; sum_is = refl; scale_is = refl }

pub one_more_group : (bytes : List ℕ) (i sum scale more wider : ℕ) → FewGroups bytes i sum scale → i < 9 → i < length bytes
    → 128 ≤ get_or bytes i 0 → more ≡ sum + get_or bytes i 0 % 128 * scale → wider ≡ scale * 128
    → FewGroups bytes (i + 1) more wider
one_more_group bytes i sum scale more wider g lt within high m w = grind (arith, common_steps, high_more, sum_more, scale_more)

pub last_group_found : (bytes : List ℕ) (i sum scale more wider : ℕ) → FewGroups bytes i sum scale → i < 9 → i < length bytes
    → get_or bytes i 0 < 128 → more ≡ sum + get_or bytes i 0 % 128 * scale → wider ≡ scale * 128
    → IsShortLeb (i + 1) more wider bytes
last_group_found bytes i sum scale more wider g lt within low m w = grind (arith, common_steps, leb_more, sum_more, scale_more)

-- what the reader of a few groups cites
pub ruleset few_groups = (no_groups, one_more_group, last_group_found, scale_fits, sum_fits)

-- a few groups are in range
pub short_fits : (size sum scale : ℕ) (bytes : List ℕ) → IsShortLeb size sum scale bytes → (sum < scale) × (scale ≤ 2 ^ 63)
short_fits size sum scale bytes s = grind (arith, common_steps, groups_bound, length-take-le, pow-le-pow_right)

pub short_unsigned : (size sum scale : ℕ) (bytes : List ℕ) → IsShortLeb size sum scale bytes → UnsignedLeb sum (take size bytes)
short_unsigned size sum scale bytes s = grind (arith, common_steps, short_fits)

-- ---- the same in two's complement

has_sign_last : (bytes : List ℕ) → IsLeb bytes → has_sign bytes ≡ leb 64 (get_or bytes (length bytes - 1) 0)
has_sign_last [] p = absurd p
has_sign_last (b ∷ []) p = refl
has_sign_last (b ∷ c ∷ bytes) p =
    let last : length (b ∷ c ∷ bytes) - 1 ≡ suc (length (c ∷ bytes) - 1) = omega arith in
    rw last (has_sign_last (c ∷ bytes) p.1)

-- the last byte of a few groups, and the power of 128 that they are below
pub record ShortEnd (size scale : ℕ) (bytes : List ℕ) : Type 0 where
  pub some : 0 < size
  pub sign : has_sign (take size bytes) ≡ leb 64 (get_or bytes (size - 1) 0)
  pub power : 128 ^ length (take size bytes) ≡ scale

pub short_end : (size sum scale : ℕ) (bytes : List ℕ) → IsShortLeb size sum scale bytes → ShortEnd size scale bytes
short_end size sum scale bytes s = grind (arith, common_steps, length-take-le, get_or-take, has_sign_last, leb)

pub short_low : (size sum scale : ℕ) (bytes : List ℕ) → IsShortLeb size sum scale bytes → get_or bytes (size - 1) 0 < 64
    → SignedLeb (pos sum) (take size bytes)
short_low size sum scale bytes s low =
    let end = short_end size sum scale bytes s in
    let fits = short_fits size sum scale bytes s in
    let sign : has_sign (take size bytes) ≡ false = end.sign ∙ lt-leb 64 (get_or bytes (size - 1) 0) low in
    record { shape = s.shape; value = rw (sign, s.sum_is) (omega (arith, ints)); fits = omega (arith, ints, fits.0, fits.1) }

pub short_high : (size sum scale : ℕ) (bytes : List ℕ) → IsShortLeb size sum scale bytes → 64 ≤ get_or bytes (size - 1) 0
    → SignedLeb (pos sum -ℤ pos scale) (take size bytes)
short_high size sum scale bytes s high =
    let end = short_end size sum scale bytes s in
    let fits = short_fits size sum scale bytes s in
    let sign : has_sign (take size bytes) ≡ true = end.sign ∙ le-leb 64 (get_or bytes (size - 1) 0) high in
    record { shape = s.shape; value = rw (sign, s.sum_is, end.power) refl; fits = omega (arith, ints, fits.0, fits.1) }

-- what the code computes of them
pub low_computed : (sum : ℕ) → sum < 2 ^ 63 → to_z w64 sum ≡ pos sum
low_computed sum fits = omega (arith, ints)

pub high_fits : (sum scale : ℕ) (a b : ℤ) → sum < scale → scale ≤ 2 ^ 63 → a ≡ pos sum → b ≡ pos scale
    → FitsSigned w64 (to_z w128 (of_z w128 (to_z w128 (of_z w128 a) -ℤ to_z w128 (of_z w128 b))))
high_fits sum scale a b lt le p q = rw (p, q) (omega (arith, ints))

pub high_computed : (sum scale : ℕ) (a b : ℤ) → sum < scale → scale ≤ 2 ^ 63 → a ≡ pos sum → b ≡ pos scale
    → to_z w64 (of_z w64 (to_z w128 (of_z w128 (to_z w128 (of_z w128 a) -ℤ to_z w128 (of_z w128 b))))) ≡ pos sum -ℤ pos scale
high_computed sum scale a b lt le p q = rw (p, q) (omega (arith, ints))

-- ---- numbers of one byte

one_taken : (bytes : List ℕ) → 0 < length bytes → take 1 bytes ≡ get_or bytes 0 0 ∷ []
one_taken bytes some = grind (arith, common_steps)

one_unsigned : (bytes : List ℕ) → 0 < length bytes → get_or bytes 0 0 < 128 → UnsignedLeb (get_or bytes 0 0) (take 1 bytes)
one_unsigned bytes some low = grind (arith, common_steps, one_taken)

pub reads_one : (old new : At) (bytes : List ℕ) (n : ℕ) → bytes ≡ old.rest → 0 < length bytes → get_or bytes 0 0 < 128
    → n ≡ get_or bytes 0 0 → Skips 1 old new → Reads UnsignedLeb n old new
reads_one old new bytes n same some low is s = grind (arith, common_steps, one_unsigned, reads_skipped)

one_byte_fits : (b : ℕ) → b < 128 → FitsSigned w64 (signed_groups (b ∷ []))
one_byte_fits b lt = grind (arith, common_steps, cases_lt, one_low, ints, one_high)

pub reads_one_signed : (old new : At) (bytes : List ℕ) (z : ℤ) → bytes ≡ old.rest → 0 < length bytes → get_or bytes 0 0 < 128
    → z ≡ signed_groups (get_or bytes 0 0 ∷ []) → Skips 1 old new
    → Reads SignedLeb (to_z w64 (of_z w64 z)) old new
reads_one_signed old new bytes z same some low is s =
    let fits : FitsSigned w64 z = subst (FitsSigned w64) (sym is) (one_byte_fits (get_or bytes 0 0) low) in
    let spelled : SignedLeb z (take 1 old.rest) = rw (← same, one_taken bytes some) (record { shape = low; value = is; fits = fits }) in
    rw (to_z-of_z w64 z fits) (reads_skipped SignedLeb z 1 old new (omega (arith, ap length same)) spelled s)

-- what the code computes of one more byte, from the back
pub computed_more : (z r low : ℤ) (m : ℕ) → z <ℤ pos (2 ^ 56) → neg_ℤ (pos (2 ^ 56)) ≤ℤ z → low ≡ pos (m % 128)
    → r ≡ pos (m % 128) +ℤ pos 128 *ℤ z
    → to_z w64 (of_z w64 (to_z w64 (of_z w64 (z *ℤ pos 128)) +ℤ to_z w64 (of_z w64 low))) ≡ r
computed_more z r low m high less is e = rw is (omega (arith, ints))
