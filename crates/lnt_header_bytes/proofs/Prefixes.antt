-- The bytes that a read moved past.
use Rattle.std.proofs.Common.{◌≡◌, ℕ, ◌-◌, List, ◌++◌, length, take, arith, length-append}
use Rattle.std.proofs.Math.Seq.{take-append_seam}
use Rattle.std.proofs.lemmas.Grind.{common_steps}

pub prefix_taken : (x : List ℕ) {bytes all left y : List ℕ} → all ≡ x ++ y → left ≡ y → bytes ≡ take (length all - length left) all
    → bytes ≡ x
prefix_taken x {y = y} whole left_is bytes_are = grind (arith, common_steps, length-append, take-append_seam)
