use Rattle.std.proofs.Common.{take}
use Rattle.lnt_wire.specs.Leb128.{AreHigh}
use Rattle.lnt_ops.proofs.extended.is_leb.Given as goal

abbrev pub invariant-loop-i : goal.invariant-loop-i
invariant-loop-i l = AreHigh (take l.i l.bytes)
