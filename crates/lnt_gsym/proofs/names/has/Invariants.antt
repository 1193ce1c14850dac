use Rattle.std.proofs.Common.{◌≡◌, drop}
use Rattle.lnt_gsym.specs.GsymAnswers.{has}
use Rattle.lnt_gsym.proofs.names.has.Given as goal

abbrev pub invariant-loop-c : goal.invariant-loop-c
invariant-loop-c l = has l.byte (drop l.c-index l.text) ≡ has l.byte l.text
