-- Tables of the digits of all numbers below the square of a base, two for each.
use Rattle.std.proofs.Common.{◌≡◌, ◌∙◌, ℕ, zero, suc, ◌+◌, ◌*◌, ◌/◌, ◌%◌, ◌<◌, List, [], ◌∷◌, slice_index_or, ap, arith}
use Rattle.std.proofs.lemmas.Grind.{common_steps}
use Rattle.lnt_text.specs.Digits.{digit_code}

-- the digits of so many numbers, the first of which is `from`
abbrev pub pairs_from : ℕ → ℕ → ℕ → List ℕ
pairs_from base from zero = []
pairs_from base from (suc count) = digit_code (from / base) ∷ digit_code (from % base) ∷ pairs_from base (suc from) count

-- the digits of the next number
after_pair : (a b k : ℕ) (pairs : List ℕ) → slice_index_or (a ∷ b ∷ pairs) (2 * suc k) 0 ≡ slice_index_or pairs (2 * k) 0
after_pair a b k pairs =
    let e : 2 * suc k ≡ suc (suc (2 * k)) = omega arith in
    ap (λ (at : ℕ). slice_index_or (a ∷ b ∷ pairs) at 0) e

after_second : (a b k : ℕ) (pairs : List ℕ) → slice_index_or (a ∷ b ∷ pairs) (2 * suc k + 1) 0 ≡ slice_index_or pairs (2 * k + 1) 0
after_second a b k pairs =
    let e : 2 * suc k + 1 ≡ suc (suc (2 * k + 1)) = omega arith in
    ap (λ (at : ℕ). slice_index_or (a ∷ b ∷ pairs) at 0) e

first_from : (base from count k n : ℕ) → k < count → n ≡ from + k
    → slice_index_or (pairs_from base from count) (2 * k) 0 ≡ digit_code (n / base)
first_from base from zero k n below same = grind (arith, common_steps)
first_from base from (suc count) zero n below same = ap (λ (m : ℕ). digit_code (m / base)) (omega (arith, same))
first_from base from (suc count) (suc k) n below same =
    after_pair (digit_code (from / base)) (digit_code (from % base)) k (pairs_from base (suc from) count)
    ∙ first_from base (suc from) count k n (omega (arith, below)) (omega (arith, same))

second_from : (base from count k n : ℕ) → k < count → n ≡ from + k
    → slice_index_or (pairs_from base from count) (2 * k + 1) 0 ≡ digit_code (n % base)
second_from base from zero k n below same = grind (arith, common_steps)
second_from base from (suc count) zero n below same = ap (λ (m : ℕ). digit_code (m % base)) (omega (arith, same))
second_from base from (suc count) (suc k) n below same =
    after_second (digit_code (from / base)) (digit_code (from % base)) k (pairs_from base (suc from) count)
    ∙ second_from base (suc from) count k n (omega (arith, below)) (omega (arith, same))

pub first_of_pair : (base count k : ℕ) → k < count → slice_index_or (pairs_from base 0 count) (2 * k) 0 ≡ digit_code (k / base)
first_of_pair base count k below = first_from base 0 count k k below (omega arith)

pub second_of_pair : (base count k : ℕ) → k < count → slice_index_or (pairs_from base 0 count) (2 * k + 1) 0 ≡ digit_code (k % base)
second_of_pair base count k below = second_from base 0 count k k below (omega arith)
