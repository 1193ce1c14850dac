use Rattle.std.specs.Prelude.{◌≡◌, ◌≤◌, ◌+◌, true}
use Rattle.lnt_text.specs.declared.radix.Radix.TheVariants.{Sixteen}
use Rattle.lnt_text.proofs.DelimitedLemmas.{HasDigits}
use Rattle.lnt_text.proofs.delimited.hexadecimal_until.Given as goal

abbrev pub invariant-loop-i : goal.invariant-loop-i
invariant-loop-i l = l.is_number ≡ true → l.i ≤ l.at + 16 → HasDigits Sixteen l.text l.at l.i l.value
