-- What the bodies of this crate say of one step, which proofs of lnt_dump use too. No public contract speaks of it.
use Rattle.std.specs.Prelude.{◌≡◌, ℕ, List, [], ◌∷◌, ◌++◌, false, ◌≢◌, length, Bool, true, Option, Some, None}
use Rattle.lnt_header.specs.declared.op.Op.{Op}
use Rattle.lnt_wire.specs.declared.format.Order.{Order}
use Rattle.lnt_wire.specs.Reading.{At, Reads}
use Rattle.lnt_ops.specs.Stepping.{OpsSoFar}
use Rattle.lnt_ops.specs.Walks.{Walk}
use Rattle.lnt_unit.specs.UnitBytes.{UnitBytesIn, SectionBytes}
use Rattle.lnt_unit.specs.Views.{View}
use Rattle.lnt_header.specs.declared.unit_parts.UnitParts.{UnitParts}
use Rattle.lnt_wire.specs.Bytes.{Appends, IsShortest}
use Rattle.lnt_wire.specs.declared.fault.Fault.{Fault}
use Rattle.lnt_wire.specs.declared.fault.Reason.TheVariants as reasons
use Rattle.lnt_wire.specs.declared.format.Format.{Format}
use Rattle.lnt_header.specs.Encoding.{NoSpelling}
use Rattle.lnt_header.specs.Joins.{Each}
use Rattle.lnt_unit.specs.BrokenUnits.{BrokenUnit}
use Rattle.lnt_header.specs.Conversion.{unit_in_format}
use Rattle.lnt_unit.specs.Converting.{units_in_format}
use Rattle.lnt_unit.specs.declared.convert.ConvertFault.{ConvertFault}
use Rattle.lnt_unit.specs.declared.convert.ConvertFault.TheVariants.{Malformed, TooLarge, Memory}

-- ---- what the bodies of this crate say of one step, which proofs of lnt_lines use too. No public contract speaks of it.

-- A walk over the program is after these operations, and none failed.
pub record HasGiven (view : View) (ops : List Op) (walk : Walk) : Type 0 where
  pub header_is : walk.numbers ≡ view.header.numbers
  pub going : walk.failed ≡ false
  pub so : OpsSoFar view.header.numbers view.place view.program ops walk.at

-- The read moved past the bytes of a unit, which was appended with its offset.
pub record AddsUnit (order : Order) (before after : List (ℕ × UnitParts)) (old new : At) : Type 0 where
  pub unit : ℕ × UnitParts
  pub added : after ≡ before ++ unit ∷ []
  pub here : unit.0 ≡ old.place
  pub read : Reads (UnitBytesIn order) unit.1 old new

-- ---- one unit in another format and order

-- The bytes spell a unit, and its shortest spelling in this format and order was added.
pub record ConvertsBytes (order : Order) (format : Format) (to : Order) (bytes old new : List ℕ) : Type 0 where
  pub unit : UnitParts
  pub spelled : UnitBytesIn order unit bytes
  pub put : Appends (UnitBytesIn to) (unit_in_format unit format to) old new

-- The bytes are those of a unit that has no encoding in this format and order.
pub record IsLarge (order : Order) (format : Format) (to : Order) (bytes : List ℕ) : Type 0 where
  pub unit : UnitParts
  pub spelled : UnitBytesIn order unit bytes
  pub none : NoSpelling (UnitBytesIn to) (unit_in_format unit format to)

-- Why a unit isn't converted that stands in these bytes, from the offset on: they begin with no unit, or it has no encoding. Want of
-- memory says nothing.
abbrev pub IsUnitStop : Order → Format → Order → ℕ → List ℕ → ConvertFault → Type 0
IsUnitStop order format to offset bytes (Malformed fault) = BrokenUnit order fault offset bytes
IsUnitStop order format to offset bytes (TooLarge place) = (place ≡ offset) × IsLarge order format to bytes
IsUnitStop order format to offset bytes Memory = Unit {0}

-- whether the unit has a spelling in this format and order
abbrev pub IsSaid : Bool → Format → Order → UnitParts → Type 0
IsSaid true format to unit = (bytes : List ℕ) × IsShortest (UnitBytesIn to) (unit_in_format unit format to) bytes
IsSaid false format to unit = NoSpelling (UnitBytesIn to) (unit_in_format unit format to)

-- The read moved past the bytes of a unit, and it is known whether that has an encoding in this format and order.
pub record JudgesUnit (order : Order) (format : Format) (to : Order) (converts : Bool) (old new : At) : Type 0 where
  pub unit : UnitParts
  pub read : Reads (UnitBytesIn order) unit old new
  pub said : IsSaid converts format to unit

-- the fault, or want of memory
abbrev pub IsReportedAs : Fault → ConvertFault → Type 0
IsReportedAs fault (Malformed told) = (told ≡ fault) × (fault.reason ≢ reasons.Memory)
IsReportedAs fault (TooLarge place) = ⊥
IsReportedAs fault Memory = fault.reason ≡ reasons.Memory

-- The units of the section up to a cursor, each in this format and order, are these bytes.
pub record ConvertedTo (order : Order) (section : List ℕ) (format : Format) (to : Order) (at : At) (bytes : List ℕ) : Type 0 where
  pub units : List (ℕ × UnitParts)
  pub prefix : List ℕ
  pub whole : section ≡ prefix ++ at.rest
  pub sound : SectionBytes order units prefix
  pub place_is : at.place ≡ length prefix
  pub order_is : at.order ≡ order
  pub put : Each (IsShortest (UnitBytesIn to)) (units_in_format units format to) bytes

-- the first unit that has no encoding, where there was none or this one, and the unit at an offset is judged
abbrev pub first_large : Option ℕ → Bool → ℕ → Option ℕ
first_large (Some first) converts offset = Some first
first_large None true offset = None
first_large None false offset = Some offset
