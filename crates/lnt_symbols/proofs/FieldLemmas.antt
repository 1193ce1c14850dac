-- Fields, read byte by byte.
use Rattle.std.proofs.Common.{◌≡◌, ℕ, ◌+◌, ◌*◌, ◌^◌, ◌<◌, ◌≤◌, true, List, [], ◌∷◌, ◌++◌, length, drop, get_or, arith, Option, Some}
use Rattle.std.proofs.Common.{None, Err}
use Rattle.std.proofs.Math.Nat.{pow-le-pow_right}
use Rattle.std.proofs.lemmas.Grind.{common_steps, pow_more}
use Rattle.lnt_text.specs.Digits.{digit_value, digits_value}
use Rattle.std.proofs.lemmas.List.{drop_more}
use Rattle.std.proofs.lemmas.Bool.Decides.{nat_tests}
use Rattle.lnt_symbols.specs.BreakpadLines.{are_digits, decimal, is_decimal_digit}
use Rattle.lnt_symbols.specs.declared.fault.LineReason.TheVariants.{NumberTooLarge}

-- the parts of a text that begins with a front without a blank
abbrev pub after_front : List ℕ → Option (List ℕ × List ℕ) → Option (List ℕ × List ℕ)
after_front front None = None
after_front front (Some parts) = Some (front ++ parts.0, parts.1)

-- a digit more: there is room for it
pub room_for_digit : (value d k : ℕ) → value < 16 ^ k → d < 16 → k < 16 → value * 16 + d < 2 ^ 64
room_for_digit value d k lt small few =
    let some : 0 < 16 = omega arith in
    let count : k ≤ 15 = omega arith in
    let most : 16 ^ k ≤ 16 ^ 15 = pow-le-pow_right some count in
    omega arith

pub bound_more : (value d k : ℕ) → value < 16 ^ k → d < 16 → value * 16 + d < 16 ^ (k + 1)
bound_more value d k lt small = grind (arith, common_steps, pow_more)

-- more digits never make the number less
pub value_grows : (value : ℕ) (text : List ℕ) → value ≤ digits_value 10 value text
value_grows value [] = omega arith
value_grows value (c ∷ text) =
    let more = value_grows (value * 10 + digit_value c) text in
    omega (arith, more)

value_step : (text : List ℕ) (i value d : ℕ) → i < length text → d ≡ digit_value (get_or text i 0)
    → digits_value 10 value (drop i text) ≡ digits_value 10 (value * 10 + d) (drop (i + 1) text)
value_step text i value d lt is = grind (arith, common_steps, drop_more)

-- a number that is too large after a digit stays so
pub too_large : (text : List ℕ) (i value d : ℕ) → i < length text → are_digits is_decimal_digit text ≡ true
    → digits_value 10 0 text ≡ digits_value 10 value (drop i text) → d ≡ digit_value (get_or text i 0) → 2 ^ 31 ≤ value * 10 + d
    → decimal text ≡ Err NumberTooLarge
too_large text i value d lt all e is big =
    let more : value * 10 + d ≤ digits_value 10 (value * 10 + d) (drop (i + 1) text) = value_grows (value * 10 + d) (drop (i + 1) text) in
    let step : digits_value 10 value (drop i text)
    ≡ digits_value 10 (value * 10 + d) (drop (i + 1) text) = value_step text i value d lt is in
    let large : 2 ^ 31 ≤ digits_value 10 0 text = rw e (rw step (omega arith)) in
    grind (arith, common_steps, nat_tests)
