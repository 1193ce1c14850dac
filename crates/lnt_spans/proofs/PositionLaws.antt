-- The order of positions, and its tests.
use Rattle.std.proofs.Common.{◌≡◌, ℕ, true, false, ◌⊎◌, inl, inr, sym, refl, arith}
use Rattle.std.proofs.lemmas.Bool.{cases_Bool}
use Rattle.std.proofs.lemmas.Bool.Decides.{nat_tests}
use Rattle.lnt_spans.specs.Positions.{IsBelow, IsAtMost, is_below, is_at_most, Position}
use Rattle.std.proofs.lemmas.Grind.{common_steps}

-- ---- what the tests say

pub below_from_test : (p q : Position) → is_below p q ≡ true → IsBelow p q
below_from_test p q t = record { address = grind (arith, nat_tests); op = λ e. grind (arith, nat_tests) }

pub at_most_from_test : (p q : Position) → is_at_most p q ≡ true → IsAtMost p q
at_most_from_test p q t = record { address = grind (arith, nat_tests); op = λ e. grind (arith, nat_tests) }

pub at_most_from_not_below : (p q : Position) → is_below p q ≡ false → IsAtMost q p
at_most_from_not_below p q t = record { address = grind (arith, nat_tests); op = λ e. grind (arith, nat_tests) }

pub below_from_not_at_most : (p q : Position) → is_at_most p q ≡ false → IsBelow q p
below_from_not_at_most p q t = record { address = grind (arith, nat_tests); op = λ e. grind (arith, nat_tests) }

pub test_below : (p q : Position) → IsBelow p q → is_below p q ≡ true
test_below p q h = grind (arith, nat_tests)

pub test_at_most : (p q : Position) → IsAtMost p q → is_at_most p q ≡ true
test_at_most p q h = grind (arith, nat_tests)

pub test_not_below : (p q : Position) → IsAtMost q p → is_below p q ≡ false
test_not_below p q h = grind (arith, nat_tests)

pub test_not_at_most : (p q : Position) → IsBelow q p → is_at_most p q ≡ false
test_not_at_most p q h = grind (arith, nat_tests)

-- ---- one position after another

pub below_is_at_most : {p q : Position} → IsBelow p q → IsAtMost p q
below_is_at_most {p} {q} h = record { address = h.address; op = λ e. omega arith }

pub at_most_itself : (p : Position) → IsAtMost p p
at_most_itself p = record { address = omega arith; op = λ e. omega arith }

pub at_most_below : {p q r : Position} → IsAtMost p q → IsBelow q r → IsBelow p r
at_most_below {p} {q} {r} h k = record { address = omega arith; op = λ e. omega arith }

pub below_at_most : {p q r : Position} → IsBelow p q → IsAtMost q r → IsBelow p r
below_at_most {p} {q} {r} h k = record { address = omega arith; op = λ e. omega arith }

pub at_most_trans : {p q r : Position} → IsAtMost p q → IsAtMost q r → IsAtMost p r
at_most_trans {p} {q} {r} h k = record { address = omega arith; op = λ e. omega arith }

pub not_both : {p q : Position} → IsBelow p q → IsAtMost q p → ⊥
not_both {p} {q} h k = let e : p.address ≡ q.address = omega (arith, h.address, k.address) in omega (arith, h.op e, k.op (sym e))

-- ---- which comes first

pub order_cases : (p q : Position) → IsBelow p q ⊎ IsAtMost q p
order_cases p q = elim (cases_Bool (is_below p q)) [ inl e ↦ inl (below_from_test p q e) | inr e ↦ inr (at_most_from_not_below p q e) ]

make : ℕ → ℕ → Position
make address op = record { address = address; op = op }

made : (p : Position) → make p.address p.op ≡ p
unfolding make
made p = refl

-- positions of which neither comes before the other are equal
pub same_position : (p q : Position) → IsAtMost q p → IsAtMost p q → p ≡ q
same_position p q h k = grind (arith, common_steps, make, made)

pub order_three : (p q : Position) → IsBelow p q ⊎ (p ≡ q) ⊎ IsBelow q p
order_three p q = grind (arith, common_steps, order_cases, same_position)

pub origin_first : (p : Position) → IsAtMost (record { address = 0; op = 0 }) p
origin_first p = record { address = omega arith; op = λ e. omega arith }
