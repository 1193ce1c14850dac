use Rattle.std.proofs.Common.{take}
use Rattle.lnt_wire.specs.FormBytes.{HasNoZero}
use Rattle.lnt_wire.proofs.strings.text_size.Given as goal

abbrev pub invariant-loop-i : goal.invariant-loop-i
invariant-loop-i l = HasNoZero (take l.i l.bytes)
