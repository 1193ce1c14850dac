use Rattle.std.proofs.Common.{take}
use Rattle.lnt_wire.specs.Bytes.{Appends}
use Rattle.lnt_wire.specs.FormBytes.{FormBytes}
use Rattle.lnt_header.specs.Joins.{Each}
use Rattle.lnt_header_bytes.proofs.encode.add_values.Given as goal

abbrev pub invariant-loop-value : goal.invariant-loop-value
invariant-loop-value l = Appends (Each (FormBytes l.fn.format l.fn.order)) (take l.value-index l.fn.values) l.fn.out.items l.out.items
