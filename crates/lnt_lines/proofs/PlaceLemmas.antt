-- Offsets that rise, and the place of one among them.
use Rattle.std.proofs.Common.{◌≡◌, ℕ, ◌==◌, ◌+◌, ◌<◌, ◌≤◌, true, false, List, length, get_or, Some, None, refl, inl, inr, arith, nat_lt}
use Rattle.std.specs.List.{position, position_or_len}
use Rattle.std.proofs.lemmas.Bool.{cases_lt}
use Rattle.std.proofs.lemmas.Bool.Decides.{eqb_tells, nat_tests}
use Rattle.std.proofs.lemmas.List.Sums.{position_or_len_is}
use Rattle.lnt_header.specs.Joins.{AreRising}

-- Those before low are less than the unit's, and those from high on are greater.
pub record IsBetween (units : List ℕ) (unit low high : ℕ) : Type 0 where
  pub within : low ≤ high
  pub inside : high ≤ length units
  pub before : (k : ℕ) → k < low → get_or units k 0 < unit
  pub past : (k : ℕ) → high ≤ k → k < length units → unit < get_or units k 0

less_is_other : (m n : ℕ) → m < n → (m == n) ≡ false
less_is_other m n lt = grind (arith, nat_tests)

more_is_other : (m n : ℕ) → n < m → (m == n) ≡ false
more_is_other m n lt = grind (arith, nat_tests)

pub other_is : (m n : ℕ) → (m ≡ n → ⊥) → (m == n) ≡ false
other_is m n other = elim (eqb_tells m n) [ inl same ↦ absurd (other same.1) | inr e ↦ e.0 ]

same_is_itself : (m n : ℕ) → m ≡ n → (m == n) ≡ true
same_is_itself m n e = grind (arith, nat_tests)

inside_is : (m n : ℕ) → m < n → nat_lt m n ≡ true
inside_is m n lt = grind (arith, nat_tests)

pub outside_is : (m n : ℕ) → n ≤ m → nat_lt m n ≡ false
outside_is m n le = grind (arith, nat_tests)

pub between_all : (units : List ℕ) (unit : ℕ) → IsBetween units unit 0 (length units)
between_all units unit =
    record { within = omega arith; inside = omega arith; before = λ k lt. absurd (omega arith); past = λ k le lt. absurd (omega arith) }

-- the one in the middle is less
pub between_above : (units : List ℕ) (unit low high middle : ℕ) → AreRising units → IsBetween units unit low high → middle < high
    → get_or units middle 0 < unit → IsBetween units unit (middle + 1) high
between_above units unit low high middle rising b lt less =
    let inside = b.inside in
    let before : (k : ℕ) → k < middle + 1 → get_or units k 0 < unit = λ k below. elim (cases_lt k middle) [
      | inl earlier ↦ omega (arith, rising k middle 0 earlier (omega arith), less)
      | inr later ↦ let here : k ≡ middle = omega arith in rw here less
    ] in
    record { within = omega arith; inside = inside; before = before; past = b.past }

-- it is greater
pub between_below : (units : List ℕ) (unit low high middle : ℕ) → AreRising units → IsBetween units unit low high → low ≤ middle
    → middle < high → unit < get_or units middle 0 → IsBetween units unit low middle
between_below units unit low high middle rising b from lt more =
    let inside = b.inside in
    let past : (k : ℕ) → middle ≤ k → k < length units → unit < get_or units k 0 = λ k le few. elim (cases_lt middle k) [
      | inl later ↦ omega (arith, rising middle k 0 later few, more)
      | inr earlier ↦ let here : k ≡ middle = omega arith in rw here more
    ] in
    record { within = from; inside = omega arith; before = b.before; past = past }

-- it is the one
pub place_found : (units : List ℕ) (unit k : ℕ) → AreRising units → k < length units → get_or units k 0 ≡ unit
    → Some k ≡ position (λ offset. offset == unit) units
place_found units unit k rising lt is =
    let at : position_or_len (λ offset. offset == unit) units ≡ k =
    position_or_len_is (λ offset. offset == unit) units k 0 (omega arith)
    (λ j earlier. less_is_other (get_or units j 0) unit (omega (arith, rising j k 0 earlier lt, is)))
    (λ _. same_is_itself (get_or units k 0) unit is) in
    rw (at, inside_is k (length units) lt) refl

-- none is the one
pub place_missing : (units : List ℕ) (unit low high : ℕ) → IsBetween units unit low high → high ≤ low
    → None ≡ position (λ offset. offset == unit) units
place_missing units unit low high b empty =
    let within = b.within in
    let other : (j : ℕ) → j < length units → (get_or units j 0 == unit) ≡ false = λ j few. elim (cases_lt j low) [
      | inl earlier ↦ less_is_other (get_or units j 0) unit (b.before j earlier)
      | inr later ↦ more_is_other (get_or units j 0) unit (b.past j (omega arith) few)
    ] in
    let at : position_or_len (λ offset. offset == unit) units ≡ length units =
    position_or_len_is (λ offset. offset == unit) units (length units) 0 (omega arith) other (λ lt. absurd (omega arith)) in
    rw (at, outside_is (length units) (length units) (omega arith)) refl

-- The lemmas of `place_of`.
pub ruleset place_of_lemmas = (between_all, between_above, between_below)
