use Rattle.std.proofs.Common.{take, All}
use Rattle.lnt_records.specs.PathLines.{IsPlainByte}
use Rattle.lnt_records.proofs.path_records.plain.plain_field.Given as goal

abbrev pub invariant-loop-i : goal.invariant-loop-i
invariant-loop-i l = All IsPlainByte (take l.i l.text)
