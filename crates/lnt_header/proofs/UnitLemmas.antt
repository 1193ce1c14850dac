-- Units by their parts, tested.
use Rattle.std.proofs.Common.{◌≡◌, ap, ℕ, List, arith}
use Rattle.lnt_header.specs.declared.fault.UnitFault.{UnitFault}
use Rattle.lnt_header.specs.declared.op.Op.{Op}
use Rattle.lnt_header.specs.HeaderRules.{IsHeader, HeaderParts, IsUnit}
use Rattle.lnt_header.specs.HeaderTests.{IsFirstNot, IsPartsFault, IsUnitFault}
use Rattle.lnt_header.proofs.FirstLaws.{first_is_wrong}
use Rattle.lnt_header.specs.OpRules.{Admits}
use Rattle.lnt_header.specs.declared.unit_parts.UnitParts.{UnitParts}
use Rattle.std.proofs.lemmas.Grind.{common_steps}

-- a header's fault is a unit's
pub header_fault : (unit : UnitParts) (fault : UnitFault) → IsPartsFault fault unit.header → IsUnitFault fault unit
header_fault unit fault h = grind (arith, common_steps)

pub no_header_first : (unit : UnitParts) → (IsHeader unit.header → ⊥) → IsUnit unit → ⊥
no_header_first unit none is = none is.header

pub no_ops : (unit : UnitParts) (index : ℕ) → IsFirstNot (Admits unit.header.numbers) unit.ops index → IsUnit unit → ⊥
no_ops unit index first is = first_is_wrong first is.ops

-- the first operation that isn't admitted, where the header is known by other names
pub first_op : (unit : UnitParts) (header : HeaderParts) (ops : List Op) (index : ℕ) → header ≡ unit.header → ops ≡ unit.ops
    → IsFirstNot (Admits header.numbers) ops index → IsFirstNot (Admits unit.header.numbers) unit.ops index
first_op unit header ops index same all first = rw (← same, ← all) first

parts_with : HeaderParts → List Op → UnitParts
parts_with header ops = record { header = header; ops = ops }

-- parts that were taken apart and put together again
pub same_parts : (unit : UnitParts) (header : HeaderParts) → header ≡ unit.header → record { header = header; ops = unit.ops } ≡ unit
unfolding parts_with
same_parts unit header same = ap (λ (h : HeaderParts). parts_with h unit.ops) same

-- The lemmas of `Unit::new`.
pub ruleset unit_lemmas = (no_header_first, no_ops, header_fault)
