-- A section that is converted and handed to a writer, page by page.
use Rattle.std.proofs.Common.{◌≡◌, ℕ, ◌+◌, ◌<◌, List, [], ◌∷◌, ◌++◌, length, Option, refl, sym, ap, subst, append_assoc, append-nil}
use Rattle.lnt_wire.specs.Reading.{At}
use Rattle.lnt_wire.specs.Bytes.{IsShortest}
use Rattle.lnt_wire.specs.declared.format.Format.{Format}
use Rattle.lnt_wire.specs.declared.format.Order.{Order}
use Rattle.lnt_header.specs.Conversion.{unit_in_format}
use Rattle.lnt_header.specs.Joins.{Each, PlacedFrom}
use Rattle.lnt_header.specs.declared.unit_parts.UnitParts.{UnitParts}
use Rattle.lnt_unit.specs.ConversionSteps.{ConvertedTo}
use Rattle.lnt_unit.specs.Converting.{Converts, ConvertsUnit, IsNextStop, IsConverted, units_in_format}
use Rattle.lnt_unit.specs.UnitBytes.{UnitBytesIn, UnitsFrom}
use Rattle.lnt_unit.specs.declared.convert.ConvertFault.{ConvertFault}
use Rattle.lnt_unit.specs.declared.convert.ConvertFault.TheVariants.{Memory}
use Rattle.lnt_unit.proofs.ConvertedLaws.{converted_all, converted_long, converted_more, converted_none, stops_by_memory}
use Rattle.lnt_unit.proofs.UnitLaws.{one_spelling, unit_is_some}
use Rattle.lnt_older.specs.Upgradable.{AreLeft}
use Rattle.lnt_older.proofs.PlacedLaws.{left_after, left_all}
use Rattle.lnt_dump.proofs.PagedWalks.{IsWalk, PagedTo, walk_begun}

-- The bytes are those of the unit, which has an encoding in this format and order.
pub record CanBeConverted (order : Order) (format : Format) (to : Order) (unit : ℕ × UnitParts) (bytes : List ℕ) : Type 0 where
  pub spelled : UnitBytesIn order unit.1 bytes
  pub newer : List ℕ
  pub put : IsShortest (UnitBytesIn to) (unit_in_format unit.1 format to) newer

-- The units up to a cursor were converted to this text, and those that are left can be converted.
pub record ConvertingTo (order : Order) (section : List ℕ) (format : Format) (to : Order) (at : At) (text : List ℕ) : Type 0 where
  pub done : ConvertedTo order section format to at text
  pub left : AreLeft (λ (o : Order). CanBeConverted order format to) at

module _ (order : Order) (section : List ℕ) (format : Format) (to : Order) where
  can_convert : (offset : ℕ) (units : List (ℕ × UnitParts)) (bytes newer : List ℕ) → UnitsFrom order offset units bytes
      → Each (IsShortest (UnitBytesIn to)) (units_in_format units format to) newer
      → PlacedFrom (CanBeConverted order format to) offset units bytes
  can_convert offset [] bytes newer none all = none
  can_convert offset (unit ∷ units) bytes newer (prefix, back, here, so, joined, rest) all = (
    prefix,
    back,
    here,
    record { spelled = so; newer = all.prefix; put = all.first },
    joined,
    can_convert (offset + length prefix) units back all.back rest all.second,
  )

  -- with what the units are converted to that are left, the text is the section converted
  rest_converted : (units : List (ℕ × UnitParts)) (at : At) (text : List ℕ) → ConvertedTo order section format to at text
      → PlacedFrom (CanBeConverted order format to) at.place units at.rest
      → (more : List ℕ) × IsConverted order section format to (text ++ more)
  rest_converted [] at text p none = (
    [],
    subst (IsConverted order section format to) (sym (append-nil text)) (converted_all order section format to at text p (ap length none)),
  )
  rest_converted (unit ∷ units) at text p (prefix, back, here, so, joined, rest) =
      let next : At = record { place = at.place + length prefix; rest = back; order = at.order } in
      let one : ConvertsUnit order format to at next [] so.newer = record {
        unit = unit.1;
        read = record { spelling = prefix; spelled = so.spelled; whole = joined; place = refl; order = refl };
        put = record { spelling = so.newer; spelled = so.put; joined = refl };
      } in
      let before : ConvertedTo order section format to at (text ++ []) =
      subst (ConvertedTo order section format to at) (sym (append-nil text)) p in
      let all = rest_converted units next (text ++ so.newer)
      (converted_more order section format to text at next [] so.newer before one) rest in
      (so.newer ++ all.0, subst (IsConverted order section format to) (append_assoc text so.newer all.0) all.1)

  converting_more : (at next : At) (text old new : List ℕ) → ConvertingTo order section format to at (text ++ old)
      → ConvertsUnit order format to at next old new → ConvertingTo order section format to next (text ++ new)
  converting_more at next text old new p c = record {
    done = converted_more order section format to text at next old new p.done c;
    left = left_after (λ (o : Order). CanBeConverted order format to) (UnitBytesIn order) c.unit at next c.read
        (unit_is_some order c.unit c.read.spelling c.read.spelled)
        (λ unit y m so e. ((one_spelling order).one unit.1 c.unit y c.read.spelling m next.rest so.spelled c.read.spelled e).1) p.left;
  }

  pub section_walk : IsWalk (ConvertingTo order section format to) (ConvertsUnit order format to) (IsConverted order section format to)
  section_walk = record {
    more = converting_more;
    all = λ at text p ended. converted_all order section format to at text p.done ended;
    rest = λ at text p. rest_converted p.left.0 at text p.done p.left.1;
  }

  pub section_begun : (at : At) (old : Option (List ℕ)) (page : List ℕ) → Converts order section format to → at.rest ≡ section
      → at.place ≡ 0 → at.order ≡ order → page ≡ [] → PagedTo (ConvertingTo order section format to) at old old page
  section_begun at old page c rest place ordered empty =
      let all = c.converted in
      walk_begun (ConvertingTo order section format to) at old page (record {
        done = converted_none order section format to at rest place ordered;
        left = left_all (λ (o : Order). CanBeConverted order format to) order section at
            (all.units, can_convert 0 all.units section c.bytes all.sound all.shortest) rest place ordered;
      }) empty

  -- only want of memory stops it
  pub section_stops : (at : At) (old now : Option (List ℕ)) (page : List ℕ) (stop : ConvertFault) → Converts order section format to
      → PagedTo (ConvertingTo order section format to) at old now page → 0 < length at.rest → IsNextStop order format to at stop
      → stop ≡ Memory
  section_stops at old now page stop c p some is = stops_by_memory order section format to at p.text stop c p.made.done some is

pub unit_long : (order : Order) (format : Format) (to : Order) (at next : At) (old new : List ℕ)
    → ConvertsUnit order format to at next old new → length next.rest < length at.rest
unit_long order format to at next old new c = converted_long order format to at next old new c
