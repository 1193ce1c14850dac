-- Where the texts of a section end.
use Rattle.std.proofs.Common.{◌≡◌, ◌≢◌, ℕ, zero, suc, ◌-◌, ◌<◌, ◌≤◌, List, [], ◌∷◌, length, get_or, drop, Option, None, refl, ap, arith}
use Rattle.std.proofs.Common.{◌⊎◌, inl, inr, false, IsSome, option_map, is_some}
use Rattle.lnt_wire.specs.FormBytes.{HasNoZero, up_to_zero}
use Rattle.lnt_files.specs.Tables.{TextsEndAt}
use Rattle.std.proofs.lemmas.Grind.{common_steps}
use Rattle.lnt_wire.proofs.TextLemmas.{no_end}

some_mapped : (f : List ℕ → List ℕ) (o : Option (List ℕ)) → IsSome o → IsSome (option_map f o)
some_mapped f o h = grind (arith, common_steps)

-- a zero byte ends a text
zero_ends : (bytes : List ℕ) (i : ℕ) → i < length bytes → get_or bytes i 0 ≡ 0 → IsSome (up_to_zero bytes)
zero_ends [] i lt e = absurd (omega arith)
zero_ends (zero ∷ bytes) i lt e = refl
zero_ends (suc b ∷ bytes) zero lt e = absurd (omega arith)
zero_ends (suc b ∷ bytes) (suc i) lt e = some_mapped (λ text. suc b ∷ text) (up_to_zero bytes) (zero_ends bytes i (omega arith) e)

-- the same after an offset
zero_ends_after : (section : List ℕ) (offset i : ℕ) → offset ≤ i → i < length section → get_or section i 0 ≡ 0
    → IsSome (up_to_zero (drop offset section))
zero_ends_after section zero i le lt e = zero_ends section i lt e
zero_ends_after [] (suc offset) i le lt e = absurd (omega arith)
zero_ends_after (b ∷ section) (suc offset) zero le lt e = absurd (omega arith)
zero_ends_after (b ∷ section) (suc offset) (suc i) le lt e = zero_ends_after section offset i (omega arith) (omega arith) e

-- no zero byte stands from the place on
pub record NoneFrom (place : ℕ) (section : List ℕ) : Type 0 where
  pub none : HasNoZero (drop place section)

no_zero_later : (section : List ℕ) (place offset : ℕ) → place ≤ offset → HasNoZero (drop place section) → HasNoZero (drop offset section)
no_zero_later [] zero zero le h = h
no_zero_later [] zero (suc offset) le h = tt
no_zero_later [] (suc place) zero le h = absurd (omega arith)
no_zero_later [] (suc place) (suc offset) le h = tt
no_zero_later (b ∷ section) zero zero le h = h
no_zero_later (b ∷ section) zero (suc offset) le h = no_zero_later section zero offset (omega arith) h.1
no_zero_later (b ∷ section) (suc place) zero le h = absurd (omega arith)
no_zero_later (b ∷ section) (suc place) (suc offset) le h = no_zero_later section place offset (omega arith) h

pub none_past : (section : List ℕ) → NoneFrom (length section) section
none_past [] = record { none = tt }
none_past (b ∷ section) = record { none = (none_past section).none }

before : (section : List ℕ) (i : ℕ) → i < length section → 0 < get_or section i 0 → HasNoZero (drop (suc i) section)
    → HasNoZero (drop i section)
before [] i lt some h = absurd (omega arith)
before (b ∷ section) zero lt some h = (some, h)
before (b ∷ section) (suc i) lt some h = before section i (omega arith) some h

suc_pred : (n : ℕ) → 0 < n → suc (n - 1) ≡ n
suc_pred n some = omega arith

pub none_before : (section : List ℕ) (end : ℕ) → 0 < end → end ≤ length section → NoneFrom end section → get_or section (end - 1) 0 ≢ 0
    → NoneFrom (end - 1) section
none_before section end some le h other = grind (arith, common_steps, before, suc_pred)

none_is_not_some : (o : Option (List ℕ)) → o ≡ None → IsSome o → ⊥
none_is_not_some o e h = let f : is_some o ≡ false = ap is_some e in absurd cc

split_lt : (m n : ℕ) → (m < n) ⊎ (n ≤ m)
split_lt zero zero = inr (omega arith)
split_lt zero (suc n) = inl (omega arith)
split_lt (suc m) zero = inr (omega arith)
split_lt (suc m) (suc n) = elim (split_lt m n) [ inl lt ↦ inl (omega arith) | inr le ↦ inr (omega arith) ]

below : (section : List ℕ) (end offset : ℕ) → NoneFrom end section → IsSome (up_to_zero (drop offset section)) → offset < end
below section end offset h some = grind (arith, common_steps, split_lt, none_is_not_some, no_end, no_zero_later)

-- the byte before the end is zero, and none after it
pub last_zero : (section : List ℕ) (end : ℕ) → 0 < end → end ≤ length section → NoneFrom end section → get_or section (end - 1) 0 ≡ 0
    → TextsEndAt end section
last_zero section end some le h e = grind (arith, common_steps, below, zero_ends_after)

-- no byte is zero
pub no_zero : (section : List ℕ) → NoneFrom 0 section → TextsEndAt 0 section
no_zero section h = record { texts = λ offset. (below section 0 offset h, λ lt. absurd (omega arith)) }

-- The lemmas of `texts_end`.
pub ruleset texts_end_lemmas = (none_past, none_before, last_zero, no_zero)
