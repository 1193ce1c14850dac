-- Which units have bytes, and in which format (DWARF 5, sections 6.2.4 and 7.4).
use Rattle.std.specs.Prelude.{ℕ, List, ◌≡◌, ◌≤◌, ◌++◌, length}
use Rattle.lnt_wire.specs.Bytes.{IsShortest}
use Rattle.lnt_header.specs.Joins.{Each}
use Rattle.lnt_header_bytes.specs.Large.{IsTooLong}
use Rattle.lnt_ops.specs.OpBytes.{OpBytes}
use Rattle.lnt_header.specs.declared.unit_parts.UnitParts.{UnitParts}
use Rattle.lnt_wire.specs.declared.format.Order.{Order}
use Rattle.lnt_wire.specs.declared.format.Format.{Format}
use Rattle.lnt_wire.specs.FrameBytes.{FrameBytes}
use Rattle.std.specs.List.{AllByRecursion}
use Rattle.lnt_header_bytes.specs.Spelled.{FitsFields, LengthsFit, HasSmallOffsets}
use Rattle.lnt_ops.specs.Spelled.{FitsOp}
use Rattle.lnt_wire.specs.declared.format.Format.TheVariants.{D64}
use Rattle.lnt_unit.specs.UnitBytes.{UnitBytes}
use Rattle.lnt_header.specs.HeaderRules.{IsUnit}

-- ---- units that are too long for their format (DWARF 5, section 7.4)

-- Even with the shortest header and the shortest program, the unit's length is too large for its format.
pub record IsTooLongUnit (unit : UnitParts) : Type 0 where
  pub program : List ℕ
  pub shortest : IsShortest (Each (OpBytes unit.header.numbers)) unit.ops program
  pub too_long : IsTooLong unit.header program

-- ---- the least length of a frame that begins with some bytes. No public contract speaks of this.

-- Each frame that begins with these bytes, or is a prefix of them, has n bytes or more, whatever follows.
pub record IsLeastSize (order : Order) (bytes : List ℕ) (n : ℕ) : Type 0 where
  pub least : (frame : Format × List ℕ) (spelling after more : List ℕ) → FrameBytes order frame spelling
      → spelling ++ after ≡ bytes ++ more → n ≤ length spelling

-- ---- units that have bytes

-- The numbers of a unit are ones that its fields and operands can say in the 64-bit format. `UnitParts` holds no others.
pub record FitsUnit (unit : UnitParts) : Type 0 where
  pub header : FitsFields unit.header
  pub ops : AllByRecursion FitsOp unit.ops

-- The unit's length, with the shortest fields and the shortest program, is one that its format can say.
abbrev pub UnitLengthsFit : UnitParts → Type 0
UnitLengthsFit unit = (program : List ℕ) → IsShortest (Each (OpBytes unit.header.numbers)) unit.ops program → LengthsFit unit.header program

-- ---- what is allowed has an encoding

-- A unit that `Unit::new` allows has an encoding exactly if its format can represent its offsets and its length. In the 64-bit
-- format no offset is too large.
pub record AllowedUnitIsSpelled : Type 0 where
  pub spelled : (unit : UnitParts) → IsUnit unit → FitsUnit unit → HasSmallOffsets unit.header → UnitLengthsFit unit → (bytes : List ℕ)
      × UnitBytes unit bytes
  pub allowed : (unit : UnitParts) (bytes : List ℕ) → UnitBytes unit bytes → IsUnit unit × FitsUnit unit × HasSmallOffsets unit.header
      × UnitLengthsFit unit
  pub wide : (unit : UnitParts) → unit.header.format ≡ D64 → HasSmallOffsets unit.header
