-- One byte is its own only spelling, and that of a number below 256.
use Rattle.std.proofs.Common.{◌≡◌, ℕ, ◌<◌, [], ◌∷◌, arith}
use Rattle.lnt_wire.specs.declared.format.Order.{Order}
use Rattle.lnt_wire.specs.Bytes.{Exactly, IsCode}
use Rattle.lnt_wire.specs.Numbers.{number_bytes}
use Rattle.lnt_wire.proofs.LengthLaws.{same_prefix}
use Rattle.std.proofs.lemmas.Grind.{common_steps}

-- one byte
pub byte_code : IsCode (λ (k : ℕ). Exactly (k ∷ []))
byte_code = grind (arith, common_steps, same_prefix)

-- the same as a number
pub one_digit : (order : Order) (n : ℕ) → n < 256 → number_bytes order 1 n ≡ n ∷ []
one_digit order n lt = grind (arith, common_steps)
