use Rattle.std.proofs.Common.{take}
use Rattle.lnt_wire.specs.Bytes.{Appends}
use Rattle.lnt_header.specs.Joins.{Each}
use Rattle.lnt_ops.specs.OpBytes.{OpBytes}
use Rattle.lnt_ops.proofs.put.add_ops.Given as goal

abbrev pub invariant-loop-op : goal.invariant-loop-op
invariant-loop-op l = Appends (Each (OpBytes l.fn.numbers)) (take l.op-index l.fn.ops) l.fn.out.items l.out.items
