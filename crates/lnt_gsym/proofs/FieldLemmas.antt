-- The fields of a GSYM file, from what a cursor reads.
use Rattle.std.proofs.Common.{◌≡◌, ◌∙◌, ℕ, ◌+◌, ◌^◌, ◌<◌, ◌≤◌, Bool, true, false, List, [], ◌∷◌, ◌++◌, length, take, drop}
use Rattle.std.proofs.Common.{refl, sym, ap, arith, subst, length-append}
use Rattle.std.specs.Prelude.{ℤ, pos, neg_ℤ, ◌≤ℤ◌, ◌<ℤ◌, int_lt, FitsSigned, nat_lt, not, ◌&&◌, Ok, Err}
use Rattle.std.specs.Int.{w64}
use Rattle.std.specs.List.{list_all}
use Rattle.std.proofs.lemmas.Bool.Decides.{nat_tests}
use Rattle.std.proofs.lemmas.Int.{ints}
use Rattle.std.proofs.Math.Seq.{take-append_seam, drop-append_seam}
use Rattle.lnt_wire.specs.Bytes.{TakenBytes}
use Rattle.lnt_wire.specs.FirstValues.{first_leb}
use Rattle.lnt_wire.specs.Leb128.{AreHigh, groups, IsLargeSigned, IsLargeUnsigned, IsLeb, IsLebFault, signed_groups, SignedLeb, UnsignedLeb}
use Rattle.lnt_wire.specs.Reading.{At, IsCutShort, Reads, RefusesField}
use Rattle.lnt_wire.specs.declared.fault.Fault.{Fault}
use Rattle.lnt_wire.specs.declared.fault.Reason.{Reason}
use Rattle.lnt_wire.specs.declared.fault.Reason.TheVariants as reasons
use Rattle.lnt_gsym.specs.GsymFields.{after, block, fits_signed, leb, signed, unsigned}
use Rattle.lnt_gsym.specs.Reading.{named_fault, named_reason}
use Rattle.lnt_gsym.specs.declared.fault.GsymReason.TheVariants.{Cut, NumberTooLarge}

-- ---- bytes

pub same_at : (a b : At) → a.place ≡ b.place → a.rest ≡ b.rest → a.order ≡ b.order → a ≡ b
same_at a b place rest order =
    let same
    : record { place = a.place; rest = a.rest; order = a.order } ≡ record { place = b.place; rest = b.rest; order = b.order } = cc in
    same

-- A read of so many bytes leaves what stands after them.
pub after_read : {X : Type 0} (Spells : X → List ℕ → Type 0) (v : X) (old new : At) → (r : Reads Spells v old new)
    → after (length r.spelling) old ≡ new
after_read Spells v old new r =
    let rest : drop (length r.spelling) old.rest ≡ new.rest =
    ap (drop (length r.spelling)) r.whole ∙ drop-append_seam r.spelling new.rest in
    same_at (after (length r.spelling) old) new (sym r.place) rest (sym r.order)

pub block_length : (size : ℕ) (bytes : List ℕ) (old new : At) → Reads (TakenBytes size) bytes old new
    → length new.rest + size ≡ length old.rest
block_length size bytes old new r =
    omega (arith, ap length r.whole ∙ length-append r.spelling new.rest, r.spelled.count_is)

pub block_size : (size : ℕ) (bytes : List ℕ) (old new : At) → Reads (TakenBytes size) bytes old new → length bytes ≡ size
block_size size bytes old new r = ap length r.spelled.taken_is ∙ r.spelled.count_is

pub no_longer : {X : Type 0} (Spells : X → List ℕ → Type 0) (v : X) (old new : At) → Reads Spells v old new
    → length new.rest ≤ length old.rest
no_longer Spells v old new r = omega (arith, ap length r.whole ∙ length-append r.spelling new.rest)

pub block_read : (size : ℕ) (bytes : List ℕ) (old new : At) → Reads (TakenBytes size) bytes old new → block size old ≡ Ok (bytes, new)
block_read size bytes old new r =
    let room : length new.rest + size ≡ length old.rest = block_length size bytes old new r in
    let short : nat_lt (length old.rest) size ≡ false = grind (arith, nat_tests) in
    let same : take size old.rest ≡ bytes =
    ap (λ (n : ℕ). take n old.rest) (sym r.spelled.count_is) ∙ (ap (take (length r.spelling)) r.whole
    ∙ (take-append_seam r.spelling new.rest ∙ sym r.spelled.taken_is)) in
    let moved : after size old ≡ new
    = ap (λ (n : ℕ). after n old) (sym r.spelled.count_is) ∙ after_read (TakenBytes size) bytes old new r in
    rw (short, same, moved) refl

pub block_cut : (size : ℕ) (old : At) (fault : Fault) → RefusesField (IsCutShort size) (TakenBytes size) old fault
    → block size old ≡ Err (record { place = old.place; reason = Cut })
block_cut size old fault r = let short : length old.rest < size = r.reason.short in grind (arith, nat_tests)

-- ---- LEB128 numbers

leb_found : (x more : List ℕ) → IsLeb x → first_leb (x ++ more) ≡ x
leb_found [] more p = absurd p
leb_found (b ∷ []) more p = grind (arith, nat_tests)
leb_found (b ∷ c ∷ x) more p = let rest = leb_found (c ∷ x) more p.1 in let high = p.0 in grind (arith, nat_tests)

-- Bytes that begin with a number aren't all high.
not_high : (x more : List ℕ) → IsLeb x → list_all (λ b. not (nat_lt b 128)) (x ++ more) ≡ false
not_high [] more p = absurd p
not_high (b ∷ []) more p = grind (arith, nat_tests)
not_high (b ∷ c ∷ x) more p = let rest = not_high (c ∷ x) more p.1 in rw rest (all_false (not (nat_lt b 128)))
  where
    all_false : (t : Bool) → (t && false) ≡ false
    all_false true = refl
    all_false false = refl

all_high : (bytes : List ℕ) → AreHigh bytes → list_all (λ b. not (nat_lt b 128)) bytes ≡ true
all_high [] h = refl
all_high (b ∷ bytes) h = let rest = all_high bytes h.1 in let high = h.0 in grind (arith, nat_tests)

-- a number that fits
leb_read : {A : Type 0} (Spells : A → List ℕ → Type 0) (fits : List ℕ → Bool) (value : List ℕ → A) (x : A) (old new : At)
    → (r : Reads Spells x old new) → IsLeb r.spelling → fits r.spelling ≡ true → x ≡ value r.spelling
    → leb (fits (first_leb old.rest)) (value (first_leb old.rest)) old ≡ Ok (x, new)
leb_read Spells fits value x old new r shape holds is =
    let found : first_leb old.rest ≡ r.spelling = ap first_leb r.whole ∙ leb_found r.spelling new.rest shape in
    let high : list_all (λ b. not (nat_lt b 128)) old.rest ≡ false =
    ap (list_all (λ b. not (nat_lt b 128))) r.whole ∙ not_high r.spelling new.rest shape in
    rw (high, found, holds, ← is, after_read Spells x old new r) refl

-- one that is cut
leb_cut : {A : Type 0} (fits : Bool) (value : A) (old : At) → AreHigh old.rest
    → leb fits value old ≡ Err (record { place = old.place; reason = Cut })
leb_cut fits value old high = rw (all_high old.rest high) refl

-- one that doesn't fit
leb_large : {A : Type 0} (fits : List ℕ → Bool) (value : List ℕ → A) (old : At) (spelling rest : List ℕ) → IsLeb spelling
    → fits spelling ≡ false → old.rest ≡ spelling ++ rest
    → leb (fits (first_leb old.rest)) (value (first_leb old.rest)) old ≡ Err (record { place = old.place; reason = NumberTooLarge })
leb_large fits value old spelling rest shape never whole =
    let found : first_leb old.rest ≡ spelling = ap first_leb whole ∙ leb_found spelling rest shape in
    let high : list_all (λ b. not (nat_lt b 128)) old.rest ≡ false =
    ap (list_all (λ b. not (nat_lt b 128))) whole ∙ not_high spelling rest shape in
    rw (high, found, never) refl

-- either
leb_refused : {A : Type 0} (Large : List ℕ → Type 0) (fits : List ℕ → Bool) (value : List ℕ → A) (old : At) (place : ℕ) (reason : Reason)
    → ((x : List ℕ) → Large x → fits x ≡ false) → place ≡ old.place → IsLebFault Large reason old.rest
    → leb (fits (first_leb old.rest)) (value (first_leb old.rest)) old ≡ Err (record { place = place; reason = named_reason reason })
leb_refused Large fits value old place reasons.Truncated never at is =
    rw at (leb_cut (fits (first_leb old.rest)) (value (first_leb old.rest)) old is)
leb_refused Large fits value old place reasons.LebTooLarge never at is =
    rw at (leb_large fits value old is.0 is.1 is.2 (never is.0 is.3) is.4)
leb_refused Large fits value old place _ never at is = absurd is

is_below : (n bound : ℕ) → n < bound → nat_lt n bound ≡ true
is_below n bound lt = grind (arith, nat_tests)

isnt_below : (n bound : ℕ) → bound ≤ n → nat_lt n bound ≡ false
isnt_below n bound le = grind (arith, nat_tests)

pub unsigned_read : (n : ℕ) (old new : At) → Reads UnsignedLeb n old new → unsigned old ≡ Ok (n, new)
unsigned_read n old new r =
    leb_read UnsignedLeb (λ x. nat_lt (groups x) (2 ^ 64)) groups n old new r r.spelled.shape
    (is_below (groups r.spelling) (2 ^ 64) (subst (λ m. m < 2 ^ 64) r.spelled.value r.spelled.fits)) r.spelled.value

pub unsigned_refused : (old : At) (fault : Fault) → RefusesField (IsLebFault IsLargeUnsigned) UnsignedLeb old fault
    → unsigned old ≡ Err (named_fault fault)
unsigned_refused old fault r = leb_refused IsLargeUnsigned (λ x. nat_lt (groups x) (2 ^ 64)) groups old fault.place fault.reason
    (λ x large. isnt_below (groups x) (2 ^ 64) large) r.place r.reason

-- ---- signed ones

int_yes : (a b : ℤ) → a <ℤ b → int_lt a b ≡ true
int_yes a b h = by (int_lt a b) refl
  where
    by : (t : Bool) → int_lt a b ≡ t → t ≡ true
    by true e = refl
    by false e = absurd (omega (arith, ints))

int_no : (a b : ℤ) → b ≤ℤ a → int_lt a b ≡ false
int_no a b h = by (int_lt a b) refl
  where
    by : (t : Bool) → int_lt a b ≡ t → t ≡ false
    by false e = refl
    by true e = absurd (omega (arith, ints))

fits_yes : (z : ℤ) → FitsSigned w64 z → fits_signed z ≡ true
fits_yes z fits =
    let low : int_lt z (neg_ℤ (pos (2 ^ 63))) ≡ false = int_no z (neg_ℤ (pos (2 ^ 63))) (omega (arith, ints)) in
    let high : int_lt z (pos (2 ^ 63)) ≡ true = int_yes z (pos (2 ^ 63)) (omega (arith, ints)) in
    rw (low, high) refl

fits_no : (z : ℤ) → (FitsSigned w64 z → ⊥) → fits_signed z ≡ false
fits_no z never = by (int_lt z (neg_ℤ (pos (2 ^ 63)))) (int_lt z (pos (2 ^ 63))) refl refl
  where
    by : (s t : Bool) → int_lt z (neg_ℤ (pos (2 ^ 63))) ≡ s → int_lt z (pos (2 ^ 63)) ≡ t → (not s && t) ≡ false
    by true t e f = refl
    by false false e f = refl
    by false true e f = absurd (never (omega (arith, ints)))

pub signed_read : (z : ℤ) (old new : At) → Reads SignedLeb z old new → signed old ≡ Ok (z, new)
signed_read z old new r =
    leb_read SignedLeb (λ x. fits_signed (signed_groups x)) signed_groups z old new r r.spelled.shape
    (fits_yes (signed_groups r.spelling) (subst (FitsSigned w64) r.spelled.value r.spelled.fits)) r.spelled.value

pub signed_refused : (old : At) (fault : Fault) → RefusesField (IsLebFault IsLargeSigned) SignedLeb old fault
    → signed old ≡ Err (named_fault fault)
signed_refused old fault r = leb_refused IsLargeSigned (λ x. fits_signed (signed_groups x)) signed_groups old fault.place fault.reason
    (λ x large. fits_no (signed_groups x) large) r.place r.reason
