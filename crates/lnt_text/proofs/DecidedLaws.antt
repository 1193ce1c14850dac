-- Whether a text spells a number, and which one.
use Rattle.std.proofs.Common.{◌≡◌, ℕ, ◌^◌, ◌<◌, ◌≤◌, ◌⊎◌, inl, inr, List, [], ◌∷◌, length, refl, subst, arith}
use Rattle.std.proofs.lemmas.Bool.{cases_eq, cases_lt}
use Rattle.std.specs.List.{AllByRecursion}
use Rattle.lnt_text.specs.declared.radix.Radix.TheVariants.{Ten, Sixteen}
use Rattle.lnt_text.specs.Digits.{IsAddress, IsDecimal, IsDigit, IsNumber, radix_base, digits_value, most_digits, Radix}
use Rattle.std.proofs.lemmas.Grind.{common_steps}

-- ---- digits

-- from the first number up to the second, which is no part
is_within : (low high c : ℕ) → (low ≤ c) × (c < high) ⊎ ((low ≤ c) × (c < high) → ⊥)
is_within low high c = grind (arith, common_steps, cases_lt)

none_of : {A B C : Type 0} → (A → ⊥) → (B → ⊥) → (C → ⊥) → A ⊎ B ⊎ C → ⊥
none_of a b c h = grind (arith, common_steps)

decide_digit : (radix : Radix) (c : ℕ) → IsDigit radix c ⊎ (IsDigit radix c → ⊥)
decide_digit Ten c = is_within 48 58 c
decide_digit Sixteen c = elim (is_within 48 58 c) [
  | inl number ↦ inl (inl number)
  | inr no_number ↦ elim (is_within 65 71 c) [
    | inl capital ↦ inl (inr (inl capital))
    | inr no_capital ↦ elim (is_within 97 103 c) [
      | inl small ↦ inl (inr (inr small))
      | inr no_small ↦ inr (none_of no_number no_capital no_small)
    ]
  ]
]

decide_digits : (radix : Radix) (text : List ℕ) → AllByRecursion (IsDigit radix) text ⊎ (AllByRecursion (IsDigit radix) text → ⊥)
decide_digits radix [] = inl tt
decide_digits radix (c ∷ text) = elim (decide_digit radix c) [
  | inl is ↦ elim (decide_digits radix text) [
    | inl all ↦ inl (is, all)
    | inr other ↦ inr (λ so. other so.1)
  ]
  | inr other ↦ inr (λ so. other so.0)
]

-- ---- numbers

-- The text has one value, so it spells that number or none.
decide_number : (radix : Radix) (text : List ℕ) → ((n : ℕ) × IsNumber radix text n) ⊎ ((n : ℕ) → IsNumber radix text n → ⊥)
decide_number radix text = elim (decide_digits radix text) [
  | inl digits ↦ elim (cases_lt 0 (length text)) [
    | inl some ↦ elim (cases_lt (most_digits radix) (length text)) [
      | inl many ↦ inr (λ n so. omega (arith, many, so.few))
      | inr few ↦ elim (cases_lt (digits_value (radix_base radix) 0 text) (2 ^ 64)) [
        | inl fits ↦ inl (
          digits_value (radix_base radix) 0 text,
          record { digits = digits; some = some; few = few; value = refl; fits = fits },
        )
        | inr large ↦ inr (λ n so. omega (arith, large, so.value, so.fits))
      ]
    ]
    | inr none ↦ inr (λ n so. omega (arith, none, so.some))
  ]
  | inr other ↦ inr (λ n so. other so.digits)
]

pub decide_decimal : (text : List ℕ) → ((n : ℕ) × IsDecimal text n) ⊎ ((n : ℕ) → IsDecimal text n → ⊥)
decide_decimal text = decide_number Ten text

-- `0x`, and then a number
pub decide_address : (text : List ℕ) → ((n : ℕ) × IsAddress text n) ⊎ ((n : ℕ) → IsAddress text n → ⊥)
decide_address [] = inr (λ n so. let written = so.written in absurd cc)
decide_address (a ∷ []) = inr (λ n so. let written = so.written in absurd cc)
decide_address (a ∷ b ∷ text) = elim (cases_eq a 48) [
  | inl is_0 ↦ elim (cases_eq b 120) [
    | inl is_x ↦ elim (decide_number Sixteen text) [
      | inl number ↦ inl (number.0, record { digits = text; written = cc; number = number.1 })
      | inr other ↦ inr (λ n so.
          let written = so.written in
          let same : so.digits ≡ text = cc in
          other n (subst (λ (z : List ℕ). IsNumber Sixteen z n) same so.number))
    ]
    | inr other ↦ inr (λ n so. let written = so.written in other cc)
  ]
  | inr other ↦ inr (λ n so. let written = so.written in other cc)
]
