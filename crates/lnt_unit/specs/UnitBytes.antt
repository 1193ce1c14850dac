-- The bytes of units and of a section (DWARF 5, section 6.2.4).
use Rattle.std.specs.Prelude.{◌≡◌, ℕ, List}
use Rattle.lnt_wire.specs.declared.format.Order.{Order}
use Rattle.lnt_header.specs.declared.unit_parts.UnitParts.{UnitParts}
use Rattle.lnt_header.specs.Joins.{Each, PlacedFrom}
use Rattle.lnt_ops.specs.OpBytes.{OpBytes}
use Rattle.lnt_header_bytes.specs.HeaderBytes.{HeaderBytes}

-- The bytes of a unit: its header, and one encoding of each operation in order.
pub record UnitBytes (unit : UnitParts) (bytes : List ℕ) : Type 0 where
  pub program : List ℕ
  pub operations : Each (OpBytes unit.header.numbers) unit.ops program
  pub whole : HeaderBytes unit.header program bytes

-- the bytes of a unit in this byte order
pub record UnitBytesIn (order : Order) (unit : UnitParts) (bytes : List ℕ) : Type 0 where
  pub order_is : unit.header.numbers.order ≡ order
  pub spelled : UnitBytes unit bytes

-- The units from an offset on, each with its own offset.
abbrev pub UnitsFrom : Order → ℕ → List (ℕ × UnitParts) → List ℕ → Type 0
UnitsFrom order = PlacedFrom (λ unit. UnitBytesIn order unit.1)

-- A section is the bytes of its units, one after another, and nothing else.
abbrev pub SectionBytes : Order → List (ℕ × UnitParts) → List ℕ → Type 0
SectionBytes order units bytes = UnitsFrom order 0 units bytes
