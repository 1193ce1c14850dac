-- Sections that are judged, unit by unit, whether they have a conversion.
use Rattle.std.proofs.Common.{◌≡◌, ℕ, ◌<◌, List, [], ◌∷◌, ◌++◌, length, refl, sym, subst, append_assoc, Bool, true, false, Option, Some}
use Rattle.std.proofs.Common.{None, arith}
use Rattle.lnt_wire.specs.Reading.{At}
use Rattle.lnt_wire.specs.declared.fault.Fault.{Fault}
use Rattle.lnt_wire.specs.declared.format.Format.{Format}
use Rattle.lnt_wire.specs.declared.format.Order.{Order}
use Rattle.lnt_unit.specs.BrokenUnits.{BrokenUnit}
use Rattle.lnt_unit.specs.Converting.{Converts, units_in_format, IsFirstLarge, HasFirstLarge, IsConvertFault}
use Rattle.lnt_wire.specs.Bytes.{IsShortest}
use Rattle.lnt_header.specs.Joins.{Each}
use Rattle.lnt_unit.specs.UnitBytes.{UnitBytesIn}
use Rattle.lnt_unit.specs.ConversionSteps.{JudgesUnit, IsSaid, IsReportedAs, first_large}
use Rattle.lnt_unit.proofs.ConvertedLaws.{units_more, each_spelled, whole_converted}
use Rattle.lnt_header_bytes.proofs.TableReaders.{empty_list}
use Rattle.lnt_unit.specs.declared.convert.ConvertFault.{ConvertFault}
use Rattle.lnt_unit.specs.declared.convert.ConvertFault.TheVariants.{Malformed, TooLarge, Memory}
use Rattle.lnt_header.specs.declared.unit_parts.UnitParts.{UnitParts}
use Rattle.lnt_unit.proofs.SectionLaws as sections
use Rattle.std.proofs.lemmas.Grind.{common_steps}

-- the first of the units that has no encoding, if there is one
abbrev pub IsConversionJudged : Format → Order → List (ℕ × UnitParts) → Option ℕ → Type 0
IsConversionJudged format to units None = (bytes : List ℕ) × Each (IsShortest (UnitBytesIn to)) (units_in_format units format to) bytes
IsConversionJudged format to units (Some offset) = IsFirstLarge format to units offset

-- the units up to a cursor, of which it is told which is the first that nothing spells
pub record JudgedTo (order : Order) (section : List ℕ) (format : Format) (to : Order) (large : Option ℕ) (at : At) : Type 0 where
  pub units : List (ℕ × UnitParts)
  pub so : sections.UnitsSoFar order section units at
  pub judged : IsConversionJudged format to units large

pub judged_none : (order : Order) (section : List ℕ) (format : Format) (to : Order) (at : At) → at.rest ≡ section → at.place ≡ 0
    → at.order ≡ order → JudgedTo order section format to None at
judged_none order section format to at rest place ordered = grind (arith, common_steps)

still_first : (format : Format) (to : Order) (units : List (ℕ × UnitParts)) (unit : ℕ × UnitParts) (offset : ℕ)
    → IsFirstLarge format to units offset → IsFirstLarge format to (units ++ unit ∷ []) offset
still_first format to units unit offset f = grind (arith, common_steps, append_assoc)

next_judged : (format : Format) (to : Order) (units : List (ℕ × UnitParts)) (offset : ℕ) (unit : UnitParts) (large : Option ℕ)
    (converts : Bool) → IsConversionJudged format to units large → IsSaid converts format to unit
    → IsConversionJudged format to (units ++ (offset, unit) ∷ []) (first_large large converts offset)
next_judged format to units offset unit (Some first) converts p s = still_first format to units (offset, unit) first p
next_judged format to units offset unit None true p s =
    (p.0 ++ s.0, units_more format to units (offset, unit) p.0 (p.0 ++ s.0) p.1 (record { spelling = s.0; spelled = s.1; joined = refl }))
next_judged format to units offset unit None false p s =
    record {
      before = units;
      unit = unit;
      past = [];
      joined = refl;
      prefix = p.0;
      spelled = each_spelled to (units_in_format units format to) p.0 p.1;
      none = s;
    }

pub judged_more : (order : Order) (section : List ℕ) (format : Format) (to : Order) (large : Option ℕ) (converts : Bool) (offset : ℕ)
    (at next : At) → JudgedTo order section format to large at → JudgesUnit order format to converts at next → offset ≡ at.place
    → JudgedTo order section format to (first_large large converts offset) next
judged_more order section format to large converts offset at next p j here = record {
  units = p.units ++ (offset, j.unit) ∷ [];
  so = sections.one_more_unit order section p.units (offset, j.unit) at next p.so j.read here;
  judged = next_judged format to p.units offset j.unit large converts p.judged j.said;
}

pub judged_long : (order : Order) (format : Format) (to : Order) (converts : Bool) (at next : At)
    → JudgesUnit order format to converts at next → length next.rest < length at.rest
judged_long order format to converts at next j = sections.unit_long order j.unit at next j.read

pub judged_sound : (order : Order) (section : List ℕ) (format : Format) (to : Order) (large : Option ℕ) (at : At)
    → JudgedTo order section format to large at → large ≡ None → length at.rest ≡ 0 → Converts order section format to
judged_sound order section format to large at p is ended = grind (arith, common_steps, empty_list, whole_converted)

pub judged_large : (order : Order) (section : List ℕ) (format : Format) (to : Order) (large : Option ℕ) (offset : ℕ) (at : At)
    → JudgedTo order section format to large at → large ≡ Some offset → length at.rest ≡ 0 → HasFirstLarge order section format to offset
judged_large order section format to large offset at p is ended = grind (arith, common_steps, empty_list)

-- a unit that isn't there
pub judged_broken : (order : Order) (section : List ℕ) (format : Format) (to : Order) (large : Option ℕ) (at : At) (fault : Fault)
    (stop : ConvertFault) → JudgedTo order section format to large at → 0 < length at.rest
    → ((IsReportedAs fault Memory → ⊥) → BrokenUnit order fault at.place at.rest) → IsReportedAs fault stop
    → IsConvertFault order section format to stop
judged_broken order section format to large at fault (Malformed found) p some broken is =
    subst (λ (f : Fault). IsConvertFault order section format to (Malformed f)) (sym is.0)
    (sections.section_broken order section p.units fault at p.so some (broken is.1))
judged_broken order section format to large at fault (TooLarge place) p some broken is = absurd is
judged_broken order section format to large at fault Memory p some broken is = tt

-- The lemmas of `judge_conversion`.
pub ruleset judge_conversion_lemmas = (judged_none, judged_more, judged_sound, judged_large, judged_long)
