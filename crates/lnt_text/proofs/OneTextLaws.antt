-- A number has one plain text.
use Rattle.std.proofs.Common.{◌≡◌, ◌∙◌, ℕ, ◌+◌, ◌*◌, ◌<◌, ◌≤◌, ◌⊎◌, inl, inr, List, [], ◌∷◌, length, refl, sym, ap, arith}
use Rattle.std.proofs.lemmas.Bool.{cases_lt}
use Rattle.std.proofs.lemmas.Bool.Decides.{nat_tests}
use Rattle.std.specs.List.{AllByRecursion}
use Rattle.lnt_text.specs.declared.radix.Radix.TheVariants.{Ten, Sixteen}
use Rattle.lnt_text.specs.Digits.{IsDigit, IsLower, IsPlain, radix_base, digit_value, digits_value, Radix}
use Rattle.lnt_text.specs.Laws.{OneAddress, OneDecimal}
use Rattle.std.proofs.lemmas.Grind.{common_steps}

worth_below : (radix : Radix) (c : ℕ) → IsDigit radix c → digit_value c < radix_base radix
worth_below radix c h = grind (arith, common_steps, nat_tests)

-- what a digit is worth tells it
code_of : (radix : Radix) (c : ℕ) → IsDigit radix c → IsLower c → (c ≡ digit_value c + 48) × (digit_value c < 10) ⊎ (c ≡ digit_value c + 87)
    × (10 ≤ digit_value c)
code_of radix c h l = grind (arith, common_steps, nat_tests)

same_worth : (a b : ℕ) → (a ≡ digit_value a + 48) × (digit_value a < 10) ⊎ (a ≡ digit_value a + 87) × (10 ≤ digit_value a)
    → (b ≡ digit_value b + 48) × (digit_value b < 10) ⊎ (b ≡ digit_value b + 87) × (10 ≤ digit_value b) → digit_value a ≡ digit_value b
    → a ≡ b
same_worth a b h k e = grind (arith, common_steps)

same_digit : (radix : Radix) (a b : ℕ) → IsDigit radix a → IsLower a → IsDigit radix b → IsLower b → digit_value a ≡ digit_value b → a ≡ b
same_digit radix a b h l k m e = same_worth a b (code_of radix a h l) (code_of radix b k m) e

-- numbers with one more digit each are the same only where the digits are, and what stands before them
parts_same : (radix : Radix) (v w a b : ℕ) → a < radix_base radix → b < radix_base radix
    → v * radix_base radix + a ≡ w * radix_base radix + b → (v ≡ w) × (a ≡ b)
parts_same radix v w a b h k e = grind (arith, common_steps)

-- texts of one length
record Same (s t : List ℕ) (v w : ℕ) : Type 0 where
  text : s ≡ t
  before : v ≡ w

same_length : (radix : Radix) (s t : List ℕ) (v w : ℕ) → AllByRecursion (IsDigit radix) s → AllByRecursion IsLower s
    → AllByRecursion (IsDigit radix) t → AllByRecursion IsLower t
    → length s ≡ length t → digits_value (radix_base radix) v s ≡ digits_value (radix_base radix) w t → Same s t v w
same_length radix [] [] v w ds ls dt lt n e = record { text = refl; before = e }
same_length radix [] (b ∷ t) v w ds ls dt lt n e = absurd (omega (arith, n))
same_length radix (a ∷ s) [] v w ds ls dt lt n e = absurd (omega (arith, n))
same_length radix (a ∷ s) (b ∷ t) v w ds ls dt lt n e =
    let rest = same_length radix s t (v * radix_base radix + digit_value a) (w * radix_base radix + digit_value b) ds.1 ls.1 dt.1 lt.1
    (omega (arith, n)) e in
    let parts = parts_same radix v w (digit_value a) (digit_value b) (worth_below radix a ds.0) (worth_below radix b dt.0) rest.before in
    let first = same_digit radix a b ds.0 ls.0 dt.0 lt.0 parts.1 in
    let text = rest.text in
    record { text = cc; before = parts.0 }

-- ---- texts of other lengths

-- the text with so many digits left, and what stands before them
longer : (radix : Radix) (s t : List ℕ) (v : ℕ) → AllByRecursion (IsDigit radix) s → AllByRecursion IsLower s
    → AllByRecursion (IsDigit radix) t → AllByRecursion IsLower t
    → length s ≤ length t → 0 < v → digits_value (radix_base radix) 0 s ≡ digits_value (radix_base radix) v t → ⊥
longer radix s [] v ds ls dt lt n some e =
    let same = same_length radix s [] 0 v ds ls dt lt (omega (arith, n)) e in
    omega (arith, same.before, some)
longer radix s (b ∷ t) v ds ls dt lt n some e = elim (cases_lt (length t) (length s)) [
  | inl all ↦
      let same = same_length radix s (b ∷ t) 0 v ds ls dt lt (omega (arith, n, all)) e in
      omega (arith, same.before, some)
  | inr more ↦ longer radix s t (v * radix_base radix + digit_value b) ds ls dt.1 lt.1 more (grows radix v (digit_value b) some) e
]
  where
    grows : (r : Radix) (k d : ℕ) → 0 < k → 0 < k * radix_base r + d
    grows Ten k d h = omega (arith, h)
    grows Sixteen k d h = omega (arith, h)

-- a digit that isn't 0
worth_some : (radix : Radix) (c : ℕ) → IsDigit radix c → 48 < c → 0 < digit_value c
worth_some radix c h lt = grind (arith, common_steps, nat_tests)

no_longer : (radix : Radix) (s t : List ℕ) (n : ℕ) → IsPlain radix s n → IsPlain radix t n → length s < length t → ⊥
no_longer radix s t n p q lt = grind (arith, common_steps, longer, worth_some)

pub one_plain : (radix : Radix) (s t : List ℕ) (n : ℕ) → IsPlain radix s n → IsPlain radix t n → s ≡ t
one_plain radix s t n p q = elim (cases_lt (length s) (length t)) [
  | inl lt ↦ absurd (no_longer radix s t n p q lt)
  | inr le ↦ elim (cases_lt (length t) (length s)) [
    | inl lt ↦ absurd (no_longer radix t s n q p lt)
    | inr ge ↦ (same_length radix s t 0 0 p.number.digits p.lower q.number.digits q.lower (omega (arith, le, ge))
        (sym p.number.value ∙ q.number.value)).text
  ]
]

pub one_decimal : OneDecimal
one_decimal s t n p q = one_plain Ten s t n p q

pub one_address : OneAddress
one_address s t n p q =
    p.written ∙ ap (λ (digits : List ℕ). 48 ∷ 120 ∷ digits) (one_plain Sixteen p.digits q.digits n p.plain q.plain) ∙ sym q.written
