-- A unit has no more operations than bytes.
use Rattle.std.proofs.Common.{ℕ, ◌≤◌, List, [], ◌∷◌, length, ap, arith, length-append}
use Rattle.lnt_wire.specs.declared.format.Order.{Order}
use Rattle.lnt_header.specs.declared.numbers.NumberParts.{NumberParts}
use Rattle.lnt_header.specs.declared.op.Op.{Op}
use Rattle.lnt_header.specs.Joins.{Each}
use Rattle.lnt_ops.proofs.OpLaws.{op_is_some}
use Rattle.lnt_ops.specs.OpBytes.{OpBytes}
use Rattle.lnt_header.specs.declared.unit_parts.UnitParts.{UnitParts}
use Rattle.lnt_unit.specs.UnitBytes.{UnitBytesIn}
use Rattle.lnt_unit.proofs.UnitLaws.{header_of}
use Rattle.lnt_unit.proofs.ReadLaws.{program_within}
use Rattle.std.proofs.lemmas.Grind.{common_steps}

-- each operation is spelled by a byte or more
pub few_ops : (h : NumberParts) (ops : List Op) (program : List ℕ) → Each (OpBytes h) ops program → length ops ≤ length program
few_ops h [] program spelled = omega arith
few_ops h (op ∷ ops) program spelled =
    omega (
      arith,
      op_is_some h op spelled.prefix spelled.first,
      few_ops h ops spelled.back spelled.second,
      ap length spelled.joined,
      length-append spelled.prefix spelled.back,
    )

-- the operations of a unit
pub ops_within : (order : Order) (unit : UnitParts) (bytes : List ℕ) → UnitBytesIn order unit bytes → length unit.ops ≤ length bytes
ops_within order unit bytes p = grind (arith, common_steps, few_ops, program_within, header_of)
