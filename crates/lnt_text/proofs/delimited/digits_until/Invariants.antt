use Rattle.lnt_text.specs.declared.radix.Radix.TheVariants.{Ten}
use Rattle.lnt_text.proofs.DelimitedLemmas.{HasDigits}
use Rattle.lnt_text.proofs.delimited.digits_until.Given as goal

abbrev pub invariant-loop-i : goal.invariant-loop-i
invariant-loop-i l = HasDigits Ten l.text l.at l.i l.value
