use Rattle.std.proofs.Common.{take, All}
use Rattle.lnt_records.specs.PathLines.{IsPlainByte}
use Rattle.lnt_records.proofs.path_records.field.is_plain.Given as goal

abbrev pub invariant-loop-byte : goal.invariant-loop-byte
invariant-loop-byte l = All IsPlainByte (take l.byte-index l.field)
