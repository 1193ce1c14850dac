use Rattle.std.proofs.Common.{◌≡◌, ◌==◌, ℕ, ◌<◌, get_or, false}
use Rattle.lnt_answers.proofs.addresses.place_of.Given as goal

abbrev pub invariant-loop-place : goal.invariant-loop-place
invariant-loop-place l = (k : ℕ) → k < l.place → (get_or l.text k 0 == l.byte) ≡ false
