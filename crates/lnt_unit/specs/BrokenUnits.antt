-- What a fault says of the bytes in which no unit was found.
use Rattle.std.specs.Prelude.{◌≡◌, ℕ, ◌+◌, ◌<◌, List, ◌++◌, length}
use Rattle.lnt_wire.specs.Bytes.{NoneSpelled}
use Rattle.lnt_wire.specs.declared.format.Order.{Order}
use Rattle.lnt_wire.specs.declared.fault.Fault.{Fault}
use Rattle.lnt_header.specs.Parts.{HeaderParts}
use Rattle.lnt_header_bytes.specs.Broken.{Broken, IsFirstField}
use Rattle.lnt_header_bytes.specs.HeaderBytes.{HeaderBytesIn}
use Rattle.lnt_ops.specs.Programs.{BrokenProgram}
use Rattle.lnt_header.specs.declared.unit_parts.UnitParts.{UnitParts}
use Rattle.lnt_unit.specs.UnitBytes.{UnitBytesIn, SectionBytes}

-- The bytes, at the offset, begin with a header and a program. The program is at the place, and ends where the unit does.
pub record BeginsWithHeader (order : Order) (offset : ℕ) (bytes : List ℕ) (header : HeaderParts) (place : ℕ) (program : List ℕ) : Type 0
  where
    pub prefix : List ℕ
    pub more : List ℕ
    pub spelled : HeaderBytesIn order (header, program) prefix
    pub joined : bytes ≡ prefix ++ more
    pub ends : place + length program ≡ offset + length prefix

-- The bytes, at the offset, don't begin with a unit, and the fault is true at its place. If they don't begin with a header and a
-- program, it is that of the header's first field that isn't valid; if they do, that of the program's first operation that isn't
-- valid.
pub record BrokenUnit (order : Order) (fault : Fault) (offset : ℕ) (bytes : List ℕ) : Type 0 where
  pub broken : Broken (UnitBytesIn order) order fault offset bytes
  pub in_header : NoneSpelled (HeaderBytesIn order) bytes → IsFirstField order fault.reason broken.before broken.from
  pub in_program : (header : HeaderParts) (place : ℕ) (program : List ℕ) → BeginsWithHeader order offset bytes header place program
      → BrokenProgram header.numbers place program fault

-- A section is broken after some units that it begins with: more bytes follow, and they don't begin with a unit.
pub record IsTrueFault (order : Order) (fault : Fault) (section : List ℕ) : Type 0 where
  pub units : List (ℕ × UnitParts)
  pub prefix : List ℕ
  pub rest : List ℕ
  pub sound : SectionBytes order units prefix
  pub some : 0 < length rest
  pub split : section ≡ prefix ++ rest
  pub broken : BrokenUnit order fault (length prefix) rest

-- No list of units encodes the section, and the fault is true of it.
pub record BrokenSection (order : Order) (fault : Fault) (section : List ℕ) : Type 0 where
  pub none : (units : List (ℕ × UnitParts)) → SectionBytes order units section → ⊥
  pub true_fault : IsTrueFault order fault section
