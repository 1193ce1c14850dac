-- What is encoded is read back, whatever follows: no encoding is a prefix of another, and each encodes one value. And what
-- whole walks over a unit and over a section say.
use Rattle.std.specs.Prelude.{◌≡◌, ◌≤◌, ℕ, List, ◌++◌, length, false, Some}
use Rattle.std.specs.List.{AllByRecursion, AllZip}
use Rattle.lnt_wire.specs.declared.format.Order.{Order}
use Rattle.lnt_wire.specs.declared.fault.Fault.{Fault}
use Rattle.lnt_wire.specs.Bytes.{IsCode}
use Rattle.lnt_wire.specs.Frames.{EndsBy}
use Rattle.lnt_header.specs.HeaderRules.{IsHeader}
use Rattle.lnt_header.specs.OpRules.{Admits, StandsFor}
use Rattle.lnt_header.specs.declared.op.Op.{Op}
use Rattle.lnt_header.specs.declared.op.OpView.{OpView}
use Rattle.lnt_ops.specs.Walks.{Ends, Fails, GivesEach, Walk}
use Rattle.lnt_unit.specs.Units as stream
use Rattle.lnt_header.specs.declared.unit_parts.UnitParts.{UnitParts}
use Rattle.lnt_unit.specs.BrokenUnits.{BrokenSection, BrokenUnit, IsTrueFault}
use Rattle.lnt_unit.specs.UnitBytes.{UnitBytesIn, SectionBytes}
use Rattle.lnt_unit.specs.Views.{IsUnitView, View, with_ops}

-- units
abbrev pub OneSpelling : Type 0
OneSpelling = (order : Order) → IsCode (UnitBytesIn order)

-- Whole sections: the units of one section are the same, and so are their offsets. One with a fault has none.
pub record OneSection : Type 0 where
  pub units : (order : Order) (us vs : List (ℕ × UnitParts)) (bytes : List ℕ) → SectionBytes order us bytes → SectionBytes order vs bytes
      → us ≡ vs
  pub fault : (order : Order) (fault : Fault) (units : List (ℕ × UnitParts)) (bytes : List ℕ) → IsTrueFault order fault bytes
      → SectionBytes order units bytes → ⊥

-- At most one fault is true of a section, at one place and for one reason, after the same units.
pub record OneTrueFault : Type 0 where
  pub fault : (order : Order) (section : List ℕ) (fault other : Fault) → IsTrueFault order fault section → IsTrueFault order other section
      → fault ≡ other
  pub units : (order : Order) (section : List ℕ) (fault other : Fault) → (one : IsTrueFault order fault section)
      → (two : IsTrueFault order other section) → one.units ≡ two.units

-- ---- whole walks

-- A walk over the program of a view that has given nothing yet, as `ops` gives it.
pub record BeginsOf (view : View) (walk : Walk) : Type 0 where
  pub header_is : walk.numbers ≡ view.header.numbers
  pub place_is : walk.at.place ≡ view.place
  pub rest_is : walk.at.rest ≡ view.program
  pub order_is : walk.at.order ≡ view.header.numbers.order
  pub going : walk.failed ≡ false

-- What was given stands for these operations, which the header admits. They are at most as many as the program has bytes.
pub record AreGiven (view : View) (items : List OpView) (ops : List Op) : Type 0 where
  pub stand : AllZip StandsFor items ops
  pub admitted : AllByRecursion (Admits view.header.numbers) ops
  pub few : length items ≤ length view.program

-- A walk over a unit in a buffer, from first to last: what it gives are operations, in order. If it ends after them, the bytes
-- are those of the unit of the header and these operations. If it fails after them, the bytes are those of no unit, and the fault
-- says why.
pub record WholeWalk : Type 0 where
  pub given : (view : View) (start now : Walk) (items : List OpView) → BeginsOf view start → GivesEach items start now → (ops : List Op)
      × AreGiven view items ops
  pub all : (view : View) (start now end : Walk) (items : List OpView) → IsUnitView view → BeginsOf view start → GivesEach items start now
      → Ends now end → (ops : List Op) × AreGiven view items ops × UnitBytesIn view.unit.order (with_ops view ops) view.unit.bytes
  pub broken : (view : View) (start now end : Walk) (items : List OpView) (fault : Fault) → IsHeader view.header → IsUnitView view
      → BeginsOf view start → GivesEach items start now → Fails fault now end
      → BrokenUnit view.unit.order fault view.unit.offset view.unit.bytes

-- What a fault of `next_unit` says, and one of the current unit, after units that were given: no list of units encodes the
-- section, whatever follows, and the fault is true of it. After frames that encode no unit, the fault of `next_unit` is true of
-- what is left.
pub record FaultOfSection : Type 0 where
  pub next : (order : Order) (units : List (ℕ × UnitParts)) (prefix rest : List ℕ) (fault : Fault) → SectionBytes order units prefix
      → EndsBy (record { place = length prefix; rest = rest; order = order }) (Some fault) → BrokenSection order fault (prefix ++ rest)
  pub here : (order : Order) (units : List (ℕ × UnitParts)) (prefix more : List ℕ) (unit : stream.BufferedUnit) (fault : Fault)
      → SectionBytes order units prefix
      → stream.IsWholeUnit unit → unit.offset ≡ length prefix → unit.order ≡ order → BrokenUnit order fault unit.offset unit.bytes
      → BrokenSection order fault (prefix ++ (unit.bytes ++ more))
  pub alone : (order : Order) (offset : ℕ) (rest : List ℕ) (fault : Fault)
      → EndsBy (record { place = offset; rest = rest; order = order }) (Some fault) → BrokenUnit order fault offset rest
