-- Numbers read from the left.
use Rattle.std.proofs.Common.{◌≡◌, ℕ, ◌+◌, ◌*◌, ◌^◌, ◌<◌, ◌≤◌, List, length, get_or, take, drop, arith}
use Rattle.std.proofs.lemmas.List.{drop_more}
use Rattle.std.specs.List.{AllByRecursion}
use Rattle.lnt_text.specs.Digits.{IsDecimal, IsDigit, IsNumber, IsPercentage, radix_base, digit_value, digits_value, most_digits, Radix}
use Rattle.lnt_text.proofs.DigitLemmas.{base_some, value_grows}
use Rattle.std.proofs.lemmas.Grind.{common_steps}

-- the prefix is read, as digits that have this number
pub record IsRead (radix : Radix) (text : List ℕ) (i so_far : ℕ) : Type 0 where
  pub digits : AllByRecursion (IsDigit radix) (take i text)
  pub value : digits_value (radix_base radix) 0 text ≡ digits_value (radix_base radix) so_far (drop i text)
  pub fits : so_far < 2 ^ 64

read_value : (radix : Radix) (text : List ℕ) (i so_far d : ℕ) → i < length text → IsRead radix text i so_far
    → d ≡ digit_value (get_or text i 0)
    → digits_value (radix_base radix) 0 text ≡ digits_value (radix_base radix) (so_far * radix_base radix + d) (drop (i + 1) text)
read_value radix text i so_far d lt r e = grind (arith, common_steps, drop_more)

-- ---- what is no number

pub no_number_of_none : (radix : Radix) (text : List ℕ) → length text ≡ 0 → (n : ℕ) → IsNumber radix text n → ⊥
no_number_of_none radix text e n h = omega (arith, e, h.some)

pub no_number_of_many : (radix : Radix) (text : List ℕ) → most_digits radix < length text → (n : ℕ) → IsNumber radix text n → ⊥
no_number_of_many radix text lt n h = omega (arith, lt, h.few)

pub no_percentage_of_many : (text : List ℕ) → 3 < length text → (n : ℕ) → IsPercentage text n → ⊥
no_percentage_of_many text lt n h = omega (arith, lt, h.few)

pub no_percentage_above : (text : List ℕ) (number : ℕ) → IsDecimal text number → 100 < number → (n : ℕ) → IsPercentage text n → ⊥
no_percentage_above text number is lt n h = omega (arith, is.value, h.number.value, lt, h.most)

-- a number that is too large after a digit stays so
pub too_large : (radix : Radix) (text : List ℕ) (i so_far d : ℕ) → i < length text → IsRead radix text i so_far
    → d ≡ digit_value (get_or text i 0)
    → 2 ^ 64 ≤ so_far * radix_base radix + d → (n : ℕ) → IsNumber radix text n → ⊥
too_large radix text i so_far d lt r e large n h = grind (arith, common_steps, read_value, value_grows, base_some)
