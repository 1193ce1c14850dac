-- How many comparisons a bisection still has to make.
use Rattle.std.proofs.Common.{◌≡◌, ℕ, zero, suc, ◌+◌, ◌*◌, ◌^◌, ◌<◌, ◌≤◌, arith, refl}
use Rattle.std.proofs.Math.Nat.{pow-suc}

-- The count has risen from `start`, and with the comparisons that `left` spans may still take it rises by no more than the
-- number of binary digits of n.
pub record IsBounded (n start count left : ℕ) : Type 0 where
  pub rises : start ≤ count
  pub bound : (digits : ℕ) → n < 2 ^ digits → (more : ℕ) × (left < 2 ^ more) × (count + more ≤ start + digits)

halved : (left half more : ℕ) → 0 < left → left < 2 ^ more → 2 * half ≤ left → (less : ℕ) × (more ≡ suc less) × (half < 2 ^ less)
halved left half zero h k l = absurd (omega arith)
halved left half (suc less) h k l = let e : 2 ^ suc less ≡ 2 ^ less * 2 = pow-suc 2 less in (less, refl, omega arith)

pub bounded_half : (n start count left half : ℕ) → 0 < left → 2 * half ≤ left → IsBounded n start count left
    → IsBounded n start (count + 1) half
bounded_half n start count left half h l b = let rises = b.rises in record {
  rises = omega arith;
  bound = λ digits k.
      let f = b.bound digits k in
      let g = halved left half f.0 h f.1 l in
      (g.0, g.2, omega (arith, f.2, g.1));
}

pub bounded_next : (n start count left : ℕ) → n < 2 ^ 64 → start ≤ 2 ^ 63 → 0 < left → IsBounded n start count left → count + 1 < 2 ^ 64
bounded_next n start count left h k l b =
    let f = b.bound 64 h in
    let g = halved left 0 f.0 l f.1 (omega arith) in
    omega (arith, f.2, g.1)
