-- Units and sections in another format and byte order.
use Rattle.std.specs.Prelude.{◌≡◌, ℕ, List, map, ◌∷◌, ◌++◌}
use Rattle.lnt_wire.specs.declared.format.Format.{Format}
use Rattle.lnt_wire.specs.declared.format.Order.{Order}
use Rattle.lnt_wire.specs.Bytes.{IsShortest, Appends}
use Rattle.lnt_header.specs.Conversion.{unit_in_format}
use Rattle.lnt_header.specs.Joins.{Each}
use Rattle.lnt_unit.specs.UnitBytes.{UnitBytesIn, SectionBytes}
use Rattle.lnt_header.specs.declared.unit_parts.UnitParts.{UnitParts}
use Rattle.lnt_header.specs.Encoding.{NoSpelling}
use Rattle.lnt_unit.specs.BrokenUnits.{BrokenSection, BrokenUnit}
use Rattle.lnt_unit.specs.declared.convert.ConvertFault.{ConvertFault}
use Rattle.lnt_unit.specs.declared.convert.ConvertFault.TheVariants.{Malformed, TooLarge, Memory}
use Rattle.lnt_wire.specs.Reading.{At, Reads}

-- each of the units in this format and order
abbrev pub units_in_format : List (ℕ × UnitParts) → Format → Order → List UnitParts
units_in_format units format order = map (λ unit. unit_in_format unit.1 format order) units

-- The result is a section of the same units as this one, each in this format and order, and in its shortest encoding. Their
-- offsets are those of the result.
pub record IsConverted (order : Order) (section : List ℕ) (format : Format) (to : Order) (result : List ℕ) : Type 0 where
  pub units : List (ℕ × UnitParts)
  pub others : List (ℕ × UnitParts)
  pub sound : SectionBytes order units section
  pub same : map (λ unit. unit.1) others ≡ units_in_format units format to
  pub spelled : SectionBytes to others result
  pub shortest : Each (IsShortest (UnitBytesIn to)) (units_in_format units format to) result

-- ---- why a section has no conversion to a format and a byte order

-- No bytes spell the unit at this offset in this format and order, and some spell each unit before it.
pub record IsFirstLarge (format : Format) (to : Order) (units : List (ℕ × UnitParts)) (offset : ℕ) : Type 0 where
  pub before : List (ℕ × UnitParts)
  pub unit : UnitParts
  pub past : List (ℕ × UnitParts)
  pub joined : units ≡ before ++ (offset, unit) ∷ past
  pub prefix : List ℕ
  pub spelled : Each (UnitBytesIn to) (units_in_format before format to) prefix
  pub none : NoSpelling (UnitBytesIn to) (unit_in_format unit format to)

-- The section has such a unit at the offset.
pub record HasFirstLarge (order : Order) (section : List ℕ) (format : Format) (to : Order) (offset : ℕ) : Type 0 where
  pub units : List (ℕ × UnitParts)
  pub sound : SectionBytes order units section
  pub first : IsFirstLarge format to units offset

-- Why a section isn't converted. Want of memory says nothing of it.
abbrev pub IsConvertFault : Order → List ℕ → Format → Order → ConvertFault → Type 0
IsConvertFault order section format to (Malformed fault) = BrokenSection order fault section
IsConvertFault order section format to (TooLarge offset) = HasFirstLarge order section format to offset
IsConvertFault order section format to Memory = Unit {0}

-- ---- a unit that is converted, from the bytes in which it stands

-- ---- one unit

-- The read moved past the bytes of a unit, and its shortest spelling in this format and order was added.
pub record ConvertsUnit (order : Order) (format : Format) (to : Order) (old new : At) (text_old text_new : List ℕ) : Type 0 where
  pub unit : UnitParts
  pub read : Reads (UnitBytesIn order) unit old new
  pub put : Appends (UnitBytesIn to) (unit_in_format unit format to) text_old text_new

-- The bytes that are left begin with a unit that has no encoding in this format and order.
pub record IsLargeUnit (order : Order) (format : Format) (to : Order) (at : At) : Type 0 where
  pub unit : UnitParts
  pub next : At
  pub read : Reads (UnitBytesIn order) unit at next
  pub none : NoSpelling (UnitBytesIn to) (unit_in_format unit format to)

-- Why the unit at a cursor isn't converted: the bytes that are left begin with no unit, or with one that has no encoding in this format
-- and order. Want of memory says nothing.
abbrev pub IsNextStop : Order → Format → Order → At → ConvertFault → Type 0
IsNextStop order format to at (Malformed fault) = BrokenUnit order fault at.place at.rest
IsNextStop order format to at (TooLarge place) = (place ≡ at.place) × IsLargeUnit order format to at
IsNextStop order format to at Memory = Unit {0}

-- ---- units one after the other

-- The section has a conversion to this format and order.
pub record Converts (order : Order) (section : List ℕ) (format : Format) (to : Order) : Type 0 where
  pub bytes : List ℕ
  pub converted : IsConverted order section format to bytes
