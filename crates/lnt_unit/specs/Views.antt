-- A unit in a buffer: its header with its program, and how far its operations were read.
use Rattle.std.specs.Prelude.{◌≡◌, ℕ, ◌+◌, ◌^◌, ◌<◌, List, length}
use Rattle.lnt_header.specs.Parts.{HeaderParts}
use Rattle.lnt_header.specs.declared.op.Op.{Op}
use Rattle.lnt_header_bytes.specs.HeaderBytes.{HeaderBytesIn}
use Rattle.lnt_unit.specs.Units.{BufferedUnit}
use Rattle.lnt_header.specs.declared.unit_parts.UnitParts.{UnitParts}
use Rattle.lnt_unit.specs.UnitBytes.{UnitBytesIn}

-- the bytes, the header, and the program with the offset of the section at which it begins
pub record View : Type 0 where
  pub unit : BufferedUnit
  pub header : HeaderParts
  pub program : List ℕ
  pub place : ℕ

-- The header with the program encodes the bytes, and the program ends where they do, below 2 ^ 64.
pub record IsUnitView (view : View) : Type 0 where
  pub spelled : HeaderBytesIn view.unit.order (view.header, view.program) view.unit.bytes
  pub end : view.place + length view.program ≡ view.unit.offset + length view.unit.bytes
  pub room : view.place + length view.program < 2 ^ 64

-- the unit of these operations
abbrev pub with_ops : View → List Op → UnitParts
with_ops view ops = record { header = view.header; ops = ops }

-- The bytes are the unit of this many operations.
pub record HasCount (view : View) (count : ℕ) : Type 0 where
  pub ops : List Op
  pub spelled : UnitBytesIn view.unit.order (with_ops view ops) view.unit.bytes
  pub count_is : count ≡ length ops
