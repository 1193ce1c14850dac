-- Special operations.
use Rattle.std.proofs.Common.{◌≡◌, ℕ, ◌+◌, ◌/◌, ◌%◌, ◌<◌, ◌≤◌, sym, arith}
use Rattle.std.proofs.Math.Nat.{div-eq_of_lt, mod-eq_of_lt}

-- a number below the range: no advance
pub few_advance : (number last range : ℕ) → last + 1 ≡ range → number ≤ last → 0 ≡ number / range
few_advance number last range e le = let lt : number < range = omega arith in sym (div-eq_of_lt {n = number} {m = range} lt)

pub few_above : (number last range : ℕ) → last + 1 ≡ range → number ≤ last → number ≡ number % range
few_above number last range e le = let lt : number < range = omega arith in sym (mod-eq_of_lt {n = number} {m = range} lt)
