use Rattle.std.proofs.Common.{take}
use Rattle.lnt_wire.specs.Bytes.{Appends}
use Rattle.lnt_wire.specs.Leb128.{UnsignedLeb}
use Rattle.lnt_header.specs.Joins.{Each}
use Rattle.lnt_ops.proofs.put.add_numbers.Given as goal

abbrev pub invariant-loop-number : goal.invariant-loop-number
invariant-loop-number l = Appends (Each UnsignedLeb) (take l.number-index l.fn.numbers) l.fn.out.items l.out.items
