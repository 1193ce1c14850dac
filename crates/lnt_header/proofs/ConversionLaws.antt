-- A header in another format and byte order can be read too, and admits what it admitted.
use Rattle.std.proofs.Common.{List, [], ◌∷◌, arith}
use Rattle.std.specs.List.{AllByRecursion}
use Rattle.lnt_wire.specs.declared.format.Format.{Format}
use Rattle.lnt_wire.specs.declared.format.Order.{Order}
use Rattle.lnt_header.specs.Conversion.{in_format, in_order}
use Rattle.lnt_header.specs.HeaderRules.{AreHeaderNumbers, IsHeader, HeaderParts}
use Rattle.lnt_header.specs.OpRules.{Admits}
use Rattle.lnt_header.specs.declared.numbers.NumberParts.{NumberParts}
use Rattle.lnt_header.specs.declared.op.Op.{Op}
use Rattle.std.proofs.lemmas.Grind.{common_steps}

numbers_in_order : (h : NumberParts) (order : Order) → AreHeaderNumbers h → AreHeaderNumbers (in_order h order)
numbers_in_order h order n = grind (arith, common_steps)

pub header_in_format : (h : HeaderParts) (format : Format) (order : Order) → IsHeader h → IsHeader (in_format h format order)
header_in_format h format order is = grind (arith, common_steps, numbers_in_order)

pub op_in_order : (h : NumberParts) (order : Order) (op : Op) → Admits h op → Admits (in_order h order) op
op_in_order h order op a = grind (arith, common_steps)

pub ops_in_order : (h : NumberParts) (order : Order) (ops : List Op) → AllByRecursion (Admits h) ops
    → AllByRecursion (Admits (in_order h order)) ops
ops_in_order h order [] all = tt
ops_in_order h order (op ∷ ops) all = (op_in_order h order op all.0, ops_in_order h order ops all.1)
