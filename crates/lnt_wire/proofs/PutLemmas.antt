-- What is put is the shortest spelling.
use Rattle.std.proofs.Common.{◌≡◌, ℕ, suc, ◌+◌, ◌/◌, ◌%◌, ◌^◌, ◌<◌, ◌≤◌, List, [], ◌∷◌, ◌++◌, length, take, refl, sym, ap, subst, ◌∙◌}
use Rattle.std.proofs.Common.{append_assoc, append-nil, arith, ◌↔◌, Result, Ok, IsErr, IsErrAnd, IsErrOf, OnOk, OnErr, ℤ, pos, ◌+ℤ◌, ◌*ℤ◌}
use Rattle.std.proofs.Common.{neg_ℤ, ◌≤ℤ◌, ◌<ℤ◌, FitsSigned, length-append}
use Rattle.std.specs.Int.{w64, int_div_euclid, int_rem_euclid}
use Rattle.std.proofs.lemmas.Int.{ints}
use Rattle.std.proofs.lemmas.Bool.{cases_lt}
use Rattle.std.proofs.Math.Seq.{take-append_seam}
use Rattle.lnt_wire.specs.declared.format.Format.TheVariants.{D32, D64}
use Rattle.lnt_wire.specs.declared.put.EncodeFault.{EncodeFault}
use Rattle.lnt_wire.specs.declared.put.EncodeFault.TheVariants.{Memory, TooLarge}
use Rattle.lnt_wire.specs.Bytes.{Appends, Extends}
use Rattle.lnt_wire.specs.Leb128.{IsLeb, signed_groups, UnsignedLeb, SignedLeb}
use Rattle.lnt_wire.specs.Numbers.{NumberBytes, IsLargeOffset, Order, Format}
use Rattle.lnt_wire.proofs.LebLemmas.{signed_more, one_low, one_high}
use Rattle.lnt_wire.proofs.NumberLaws.{one_byte}
use Rattle.lnt_wire.proofs.LengthLaws.{length-number_bytes}
use Rattle.std.proofs.lemmas.Grind.{common_steps}

-- ---- groups put one after another

-- The groups put so far stand before each spelling of the rest, and so does something as long before it in each spelling of the whole.
pub record Begun {X : Type 0} (Spells : X → List ℕ → Type 0) (whole rest : X) (old new : List ℕ) : Type 0 where
  pub prefix : List ℕ
  pub joined : new ≡ old ++ prefix
  pub completes : (tail : List ℕ) → Spells rest tail → Spells whole (prefix ++ tail)
  pub same : (other : List ℕ) → Spells whole other → (tail : List ℕ) × Spells rest tail × (length other ≡ length prefix + length tail)

-- one more group, after which the rest is spelled
pub record IsGroup {X : Type 0} (Spells : X → List ℕ → Type 0) (rest after : X) (byte : ℕ) : Type 0 where
  pub completes : (tail : List ℕ) → Spells after tail → Spells rest (byte ∷ tail)
  pub same : (other : List ℕ) → Spells rest other → (tail : List ℕ) × Spells after tail × (length other ≡ suc (length tail))

begun : {X : Type 0} (Spells : X → List ℕ → Type 0) (whole : X) (old : List ℕ) → Begun Spells whole whole old old
begun Spells whole old = grind (arith, common_steps, append-nil)

group_put : {X : Type 0} (Spells : X → List ℕ → Type 0) (whole rest after : X) (old new : List ℕ) (byte : ℕ)
    → Begun Spells whole rest old new → IsGroup Spells rest after byte
    → Begun Spells whole after old (new ++ byte ∷ [])
group_put Spells whole rest after old new byte b g = record {
  prefix = b.prefix ++ byte ∷ [];
  joined = ap (λ (z : List ℕ). z ++ byte ∷ []) b.joined ∙ append_assoc old b.prefix (byte ∷ []);
  completes = λ tail p. subst (Spells whole) (sym (append_assoc b.prefix (byte ∷ []) tail))
      (b.completes (byte ∷ tail) (g.completes tail p));
  same = λ other p.
      let one = b.same other p in
      let two = g.same one.0 one.1 in
      (two.0, two.1, omega (arith, one.2, two.2, length-append b.prefix (byte ∷ [])));
}

-- the last group
last_put : {X : Type 0} (Spells : X → List ℕ → Type 0) (whole rest : X) (old new : List ℕ) (byte : ℕ) → Begun Spells whole rest old new
    → Spells rest (byte ∷ []) → ((other : List ℕ) → Spells rest other → 0 < length other)
    → Appends Spells whole old (new ++ byte ∷ [])
last_put Spells whole rest old new byte b p some = record {
  spelling = b.prefix ++ byte ∷ [];
  spelled = record {
    spelled = b.completes (byte ∷ []) p;
    shortest = λ other q.
        let found = b.same other q in
        omega (arith, found.2, some found.0 found.1, length-append b.prefix (byte ∷ []));
  };
  joined = ap (λ (z : List ℕ). z ++ byte ∷ []) b.joined ∙ append_assoc old b.prefix (byte ∷ []);
}

some_leb : (bytes : List ℕ) → IsLeb bytes → 0 < length bytes
some_leb bytes p = grind (arith, common_steps)

-- ---- unsigned numbers

pub begun_unsigned : (n : ℕ) (old : List ℕ) → Begun UnsignedLeb n n old old
begun_unsigned n old = begun UnsignedLeb n old

completes_unsigned : (rest : ℕ) (tail : List ℕ) → rest < 2 ^ 64 → UnsignedLeb (rest / 128) tail
    → UnsignedLeb rest ((rest % 128 + 128) ∷ tail)
completes_unsigned rest tail fits p = grind (arith, common_steps)

same_unsigned : (rest : ℕ) (other : List ℕ) → 128 ≤ rest → rest < 2 ^ 64 → UnsignedLeb rest other
    → (tail : List ℕ) × UnsignedLeb (rest / 128) tail × (length other ≡ suc (length tail))
same_unsigned rest [] large fits p = absurd p.shape
same_unsigned rest (a ∷ []) large fits p = absurd (omega (arith, p.value))
same_unsigned rest (a ∷ b ∷ tail) large fits p =
    (b ∷ tail, record { shape = p.shape.1; value = omega (arith, p.value); fits = omega (arith, fits) }, refl)

pub put_unsigned : (n rest : ℕ) (old new : List ℕ) → Begun UnsignedLeb n rest old new → 128 ≤ rest → rest < 2 ^ 64
    → Begun UnsignedLeb n (rest / 128) old (new ++ (rest % 128 + 128) ∷ [])
put_unsigned n rest old new b large fits =
    group_put UnsignedLeb n rest (rest / 128) old new (rest % 128 + 128) b
    (record { completes = λ tail p. completes_unsigned rest tail fits p; same = λ other p. same_unsigned rest other large fits p })

pub last_unsigned : (n rest : ℕ) (old new : List ℕ) → Begun UnsignedLeb n rest old new → rest < 128
    → Appends UnsignedLeb n old (new ++ rest ∷ [])
last_unsigned n rest old new b small =
    let low : rest % 128 ≡ rest = omega arith in
    last_put UnsignedLeb n rest old new rest b (record { shape = small; value = omega (arith, low); fits = omega arith })
    (λ other p. some_leb other p.shape)

-- ---- signed numbers

pub begun_signed : (z : ℤ) (old : List ℕ) → Begun SignedLeb z z old old
begun_signed z old = begun SignedLeb z old

-- a number by its quotient and its remainder
pub record IsDivided (z d : ℤ) (m : ℕ) : Type 0 where
  pub whole : z ≡ pos m +ℤ pos 128 *ℤ d
  pub low : m < 128

pub divided : (z : ℤ) (m : ℕ) → int_rem_euclid z (pos 128) ≡ pos m → IsDivided z (int_div_euclid z (pos 128)) m
divided z m e = grind (arith, common_steps, ints)

-- a number that one group can't say
pub data IsWide (z : ℤ) : Type 0 where
  under : z <ℤ neg_ℤ (pos 64) → IsWide z
  above : pos 64 ≤ℤ z → IsWide z

one_group_near : (b : ℕ) (z : ℤ) → b < 128 → z ≡ signed_groups (b ∷ []) → IsWide z → ⊥
one_group_near b z lt e h = grind (arith, common_steps, cases_lt, one_low, ints, one_high)

completes_signed : (z d : ℤ) (m : ℕ) (tail : List ℕ) → IsDivided z d m → FitsSigned w64 z → SignedLeb d tail
    → SignedLeb z ((m + 128) ∷ tail)
completes_signed z d m [] is fits p = absurd p.shape
completes_signed z d m (b ∷ tail) is fits p =
    let low : (m + 128) % 128 ≡ m = omega (arith, is.low) in
    record {
      shape = (omega arith, p.shape);
      value =
          is.whole
          ∙ ap (λ (y : ℤ). pos m +ℤ pos 128 *ℤ y) p.value
          ∙ ap (λ (k : ℕ). pos k +ℤ pos 128 *ℤ signed_groups (b ∷ tail)) (sym low)
          ∙ sym (signed_more (m + 128) b tail);
      fits = fits;
    }

one_quotient : (z d s : ℤ) (m k : ℕ) → m < 128 → k < 128 → z ≡ pos m +ℤ pos 128 *ℤ d → z ≡ pos k +ℤ pos 128 *ℤ s → d ≡ s
one_quotient z d s m k lt lt' e f = omega (arith, ints)

pub quotient_fits : (z d : ℤ) (m : ℕ) → IsDivided z d m → FitsSigned w64 z → FitsSigned w64 d
quotient_fits z d m is fits = omega (arith, ints, is.whole, is.low)

same_signed : (z d : ℤ) (m : ℕ) (other : List ℕ) → IsDivided z d m → FitsSigned w64 z → IsWide z → SignedLeb z other
    → (tail : List ℕ) × SignedLeb d tail × (length other ≡ suc (length tail))
same_signed z d m [] is fits wide p = absurd p.shape
same_signed z d m (a ∷ []) is fits wide p = absurd (one_group_near a z p.shape p.value wide)
same_signed z d m (a ∷ b ∷ tail) is fits wide p =
    let quotient : d ≡ signed_groups (b ∷ tail) =
    one_quotient z d (signed_groups (b ∷ tail)) m (a % 128) is.low (omega arith) is.whole (p.value ∙ signed_more a b tail) in
    (b ∷ tail, record { shape = p.shape.1; value = quotient; fits = quotient_fits z d m is fits }, refl)

pub put_signed : (z rest d : ℤ) (m : ℕ) (old new : List ℕ) → Begun SignedLeb z rest old new → IsWide rest → IsDivided rest d m
    → FitsSigned w64 rest → Begun SignedLeb z d old (new ++ (m + 128) ∷ [])
put_signed z rest d m old new b wide is fits =
    group_put SignedLeb z rest d old new (m + 128) b
    (record { completes = λ tail p. completes_signed rest d m tail is fits p; same = λ other p. same_signed rest d m other is fits wide p })

near_value : (z d : ℤ) (m : ℕ) → IsDivided z d m → neg_ℤ (pos 64) ≤ℤ z → z <ℤ pos 64 → z ≡ signed_groups (m ∷ [])
near_value z d m is low high = grind (arith, common_steps, cases_lt, one_low, ints, one_high)

pub last_signed : (z rest d : ℤ) (m : ℕ) (old new : List ℕ) → Begun SignedLeb z rest old new → IsDivided rest d m → neg_ℤ (pos 64) ≤ℤ rest
    → rest <ℤ pos 64 → FitsSigned w64 rest → Appends SignedLeb z old (new ++ m ∷ [])
last_signed z rest d m old new b is low high fits =
    last_put SignedLeb z rest old new m b (record { shape = is.low; value = near_value rest d m is low high; fits = fits })
    (λ other p. some_leb other p.shape)

-- ---- what was begun, and taken back

pub begun_extends : {X : Type 0} (Spells : X → List ℕ → Type 0) (whole rest : X) (old new : List ℕ) → Begun Spells whole rest old new
    → Extends old new
begun_extends Spells whole rest old new b = record { more = b.prefix; joined = b.joined }

-- what the writer of an unsigned number cites
pub ruleset unsigned_groups = (begun_unsigned, put_unsigned, last_unsigned, begun_extends)

pub taken_back : (old new : List ℕ) (start : ℕ) → start ≡ length old → Extends old new → take start new ≡ old
taken_back old new start is e = rw (is, e.joined) (take-append_seam old e.more)

-- ---- numbers and bytes of a fixed width

-- one byte is the only spelling of a number in one byte
pub put_byte : (order : Order) (n : ℕ) (old new : List ℕ) → n < 256 → new ≡ old ++ n ∷ [] → Appends (NumberBytes order 1) n old new
put_byte order n old new lt joined = grind (arith, common_steps, one_byte, length-number_bytes)

-- ---- how a call ended

pub after_err : {T E : Type 0} (r : Result T E) (P : Type 0) → P → OnErr r P
after_err r P p = grind (arith, common_steps)

pub not_ok : {T E : Type 0} (r : Result T E) (P : Type 0) → IsErr r → OnOk r P
not_ok r P p = grind (arith, common_steps)

-- What isn't large is refused only where memory ran out.
pub only_memory : {T : Type 0} (r : Result T EncodeFault) (Large : Type 0) → (Large → ⊥) → IsErrAnd r (λ fault. fault ≡ Memory)
    → IsErrOf r TooLarge ↔ Large
only_memory r Large small p = grind (arith, common_steps)

pub all_put : {T : Type 0} (x : T) (Large : Type 0) → (Large → ⊥) → IsErrOf {T = T} {E = EncodeFault} (Ok x) TooLarge ↔ Large
all_put x Large small = (λ q. absurd (cc), λ q. absurd (small q))

pub not_large_narrow : (format : Format) (n : ℕ) → format ≡ D32 → n < 2 ^ 32 → IsLargeOffset format n → ⊥
not_large_narrow format n is small large = grind (arith, common_steps)

pub not_large_wide : (format : Format) (n : ℕ) → format ≡ D64 → IsLargeOffset format n → ⊥
not_large_wide format n is large = subst (λ (f : Format). IsLargeOffset f n) is large
