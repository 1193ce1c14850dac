use Rattle.std.proofs.Common.{◌≡◌, ◌++◌, take, drop}
use Rattle.lnt_wire.specs.FirstValues.{first_text}
use Rattle.lnt_gsym.proofs.names.first_text.Given as goal

abbrev pub invariant-loop-i : goal.invariant-loop-i
invariant-loop-i l = first_text l.bytes ≡ take l.i l.bytes ++ first_text (drop l.i l.bytes)
