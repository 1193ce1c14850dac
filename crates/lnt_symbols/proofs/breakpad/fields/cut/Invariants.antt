use Rattle.std.proofs.Common.{◌≡◌, take, drop}
use Rattle.lnt_symbols.specs.BreakpadLines.{cut}
use Rattle.lnt_symbols.proofs.FieldLemmas.{after_front}
use Rattle.lnt_symbols.proofs.breakpad.fields.cut.Given as goal

abbrev pub invariant-loop-i : goal.invariant-loop-i
invariant-loop-i l = cut l.text ≡ after_front (take l.i l.text) (cut (drop l.i l.text))
