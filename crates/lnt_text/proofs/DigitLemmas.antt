-- Digits, and the number of some digits as it grows from the left.
use Rattle.std.proofs.Common.{◌≡◌, ◌+◌, ◌*◌, ◌^◌, ◌/◌, ◌%◌, ◌<◌, ◌≤◌, ℕ, List, [], ◌∷◌, arith}
use Rattle.std.proofs.Math.Nat.{le-mul_of_pos_right}
use Rattle.std.proofs.lemmas.Bool.Decides.{nat_tests, leb_tells}
use Rattle.std.proofs.lemmas.Grind.{pow_more, common_steps}
use Rattle.lnt_text.specs.Digits.{IsDigit, IsLower, radix_base, digit_code, digit_value, digits_value, Radix}

-- ---- the base

pub base_some : (radix : Radix) → 0 < radix_base radix
base_some radix = grind (arith, common_steps)

-- a number, by its last digit and those before it
pub last_digit : (radix : Radix) (n : ℕ) → n / radix_base radix * radix_base radix + n % radix_base radix ≡ n
last_digit radix n = grind (arith, common_steps)

pub last_digit_below : (radix : Radix) (n : ℕ) → n % radix_base radix < radix_base radix
last_digit_below radix n = grind (arith, common_steps)

-- a number below the base is its last digit
pub lone_digit : (radix : Radix) (n : ℕ) → n / radix_base radix ≡ 0 → n % radix_base radix ≡ n
lone_digit radix n e = grind (arith, common_steps)

pub fewer_digits : (radix : Radix) (n room : ℕ) → n < radix_base radix ^ (room + 1) → n / radix_base radix < radix_base radix ^ room
fewer_digits radix n room h = grind (arith, common_steps, pow_more)

-- ---- the digit that is worth so much

code_low : (d : ℕ) → d < 10 → digit_code d ≡ 48 + d
code_low d h = grind (arith, nat_tests)

code_high : (d : ℕ) → 10 ≤ d → digit_code d ≡ 87 + d
code_high d h = grind (arith, nat_tests)

worth_low : (d : ℕ) → d < 10 → digit_value (48 + d) ≡ d
worth_low d h = grind (arith, nat_tests)

worth_high : (d : ℕ) → 10 ≤ d → digit_value (87 + d) ≡ d
worth_high d h = grind (arith, nat_tests)

pub code_worth : (d : ℕ) → digit_value (digit_code d) ≡ d
code_worth d = grind (arith, common_steps, leb_tells, code_high, worth_high, code_low, worth_low)

pub code_is_digit : (radix : Radix) (d : ℕ) → d < radix_base radix → IsDigit radix (digit_code d)
code_is_digit radix d h = grind (arith, common_steps, code_low, leb_tells, code_high)

pub code_is_lower : (d : ℕ) → IsLower (digit_code d)
code_is_lower d = grind (arith, common_steps, leb_tells, code_high, code_low)

pub code_not_zero : (d : ℕ) → 0 < d → 48 < digit_code d
code_not_zero d h = grind (arith, common_steps, leb_tells, code_high, code_low)

-- ---- the number of some digits

-- more digits never make the number less
pub value_grows : (radix value : ℕ) (text : List ℕ) → 0 < radix → value ≤ digits_value radix value text
value_grows radix value [] h = omega arith
value_grows radix value (c ∷ text) h =
    let more = value_grows radix (value * radix + digit_value c) text h in
    let whole : value ≤ value * radix = le-mul_of_pos_right value h in
    omega (arith, more, whole)
