-- A byte divided by another one, by a product with a reciprocal.
use Rattle.std.proofs.Common.{Fits, ◌≡◌, ℕ, ◌+◌, ◌-◌, ◌*◌, ◌/◌, ◌%◌, ◌<◌, ◌≤◌, sym, ap, subst, ◌∙◌, arith, w8, w32}
use Rattle.std.proofs.Math.Nat.{mod-add-div, mod-lt, mod-eq-sub-div-mul, div-le_self, div-mul-le_self, div-eq_of_lt-le}
use Rattle.std.proofs.Math.Nat.{le-div_iff_mul-le, mul-le-mul, mul-le-mul_left, mul-le-mul_right, mul_comm}

-- a product between two multiples of 65536, by its parts
between : (low mid high qrt qr st s qu tr u t a : ℕ) → mid ≡ qrt + qr + st + s → low ≡ qu + qrt → high ≡ low + 65536 → 65536 ≡ u + tr
    → qu ≤ qr → st + t ≤ tr → a ≡ s + qr → a < t
    → (low ≤ mid) × (mid < high)
between low mid high qrt qr st s qu tr u t a e f g w x y z lt = (omega arith, omega arith)

exact : (a r : ℕ) → 0 < r → r < 256 → a < 256 → a * (65536 / r + 1) / 65536 ≡ a / r
exact a r some small byte =
    let q = a / r in
    let s = a % r in
    let t = 65536 / r in
    let u = 65536 % r in
    let parts : a ≡ s + r * q = sym (mod-add-div a r) in
    let whole : 65536 ≡ u + r * t = sym (mod-add-div 65536 r) in
    let s_lt : s < r = mod-lt a some in
    let u_lt : u < r = mod-lt 65536 some in
    let many : 256 ≤ t = (le-div_iff_mul-le some).1 (omega arith) in
    let mid : a * (t + 1) ≡ q * r * t + q * r + s * t + s = ap (λ (n : ℕ). n * (t + 1)) parts ∙ grind arith in
    let low : q * 65536 ≡ q * u + q * r * t = ap (λ (n : ℕ). q * n) whole ∙ grind arith in
    let high : (q + 1) * 65536 ≡ q * 65536 + 65536 = omega arith in
    let less : q * u ≤ q * r = mul-le-mul_left q (omega (arith, u_lt)) in
    let more : (s + 1) * t ≤ r * t = mul-le-mul_right {m = s + 1} {n = r} t (omega (arith, s_lt)) in
    let sum : (s + 1) * t ≡ s * t + t = grind arith in
    let short : s * t + t ≤ r * t = subst (λ (n : ℕ). n ≤ r * t) sum more in
    let a_is : a ≡ s + q * r = parts ∙ ap (λ (n : ℕ). s + n) (mul_comm r q) in
    let both = between (q * 65536) (a * (t + 1)) ((q + 1) * 65536) (q * r * t) (q * r) (s * t) s (q * u) (r * t) u t a mid low high whole
    less short a_is (omega (arith, many, byte)) in
    div-eq_of_lt-le 65536 both.0 both.1

pub quotient : (n a r m : ℕ) → n ≡ a → 0 < r → r < 256 → a < 256 → m ≡ 65536 / r + 1 → n * m / 65536 ≡ a / r
quotient n a r m same some small byte is = ap (λ (k : ℕ). k * m / 65536) same ∙ ap (λ (k : ℕ). a * k / 65536) is ∙ exact a r some small byte

pub product_fits : (n a r m : ℕ) → n ≡ a → a < 256 → m ≡ 65536 / r + 1 → Fits w32 (n * m)
product_fits n a r m same byte is =
    let least : n ≤ 255 = omega (arith, same, byte) in
    let most : m ≤ 65537 = omega (arith, is, div-le_self 65536 r) in
    let product : n * m ≤ 255 * 65537 = mul-le-mul {n₁ = n} {m₁ = m} {n₂ = 255} {m₂ = 65537} least most in
    omega (arith, product)

pub quotient_fits : (n a r m : ℕ) → n ≡ a → 0 < r → r < 256 → a < 256 → m ≡ 65536 / r + 1 → Fits w8 (n * m / 65536)
quotient_fits n a r m same some small byte is = rw (quotient n a r m same some small byte is) (omega (arith, div-le_self a r, byte))

pub product_within : (n a r m : ℕ) → n ≡ a → 0 < r → r < 256 → a < 256 → m ≡ 65536 / r + 1 → n * m / 65536 * r ≤ a
product_within n a r m same some small byte is = rw (quotient n a r m same some small byte is) (div-mul-le_self a r)

pub multiple_fits : (n a r m : ℕ) → n ≡ a → 0 < r → r < 256 → a < 256 → m ≡ 65536 / r + 1 → Fits w8 (n * m / 65536 * r)
multiple_fits n a r m same some small byte is = omega (arith, product_within n a r m same some small byte is, byte)

pub rest : (n a r m : ℕ) → n ≡ a → 0 < r → r < 256 → a < 256 → m ≡ 65536 / r + 1 → a - n * m / 65536 * r ≡ a % r
rest n a r m same some small byte is = rw (quotient n a r m same some small byte is) (sym (mod-eq-sub-div-mul a r))

-- The lemmas of `divided`.
pub ruleset divided_lemmas = (quotient, rest, quotient_fits, product_fits, product_within, multiple_fits)
