-- Units of a section that are converted one after another.
use Rattle.std.proofs.Common.{◌≡◌, ℕ, ◌+◌, ◌<◌, List, [], ◌∷◌, ◌++◌, length, refl, sym, ap, subst, ◌∙◌, append_assoc, arith, append-nil}
use Rattle.std.proofs.Common.{length-append, map}
use Rattle.lnt_wire.specs.Reading.{At}
use Rattle.lnt_wire.specs.Bytes.{IsShortest, Appends}
use Rattle.lnt_wire.specs.declared.format.Format.{Format}
use Rattle.lnt_wire.specs.declared.format.Order.{Order}
use Rattle.lnt_wire.proofs.LengthLaws.{same_rest}
use Rattle.lnt_header.specs.Encoding.{NoSpelling}
use Rattle.lnt_header.specs.Joins.{Each}
use Rattle.lnt_header.proofs.ReaderLaws.{each_push}
use Rattle.lnt_header_bytes.proofs.TableReaders.{empty_list}
use Rattle.lnt_unit.specs.BrokenUnits.{BrokenUnit, IsTrueFault}
use Rattle.lnt_unit.specs.Converting.{Converts, ConvertsUnit, IsNextStop, units_in_format, IsConverted}
use Rattle.lnt_unit.specs.ConversionSteps.{ConvertedTo}
use Rattle.lnt_header.specs.Conversion.{unit_in_format}
use Rattle.lnt_unit.proofs.UnitLaws.{no_section, one_spelling, unit_is_some, units_push}
use Rattle.lnt_unit.specs.UnitBytes.{UnitBytesIn, UnitsFrom, SectionBytes}
use Rattle.lnt_unit.specs.declared.convert.ConvertFault.{ConvertFault}
use Rattle.lnt_unit.specs.declared.convert.ConvertFault.TheVariants.{Malformed, TooLarge, Memory}
use Rattle.lnt_header.specs.declared.unit_parts.UnitParts.{UnitParts}
use Rattle.std.proofs.lemmas.Grind.{common_steps}

-- the bytes of one more unit
pub units_more : (format : Format) (to : Order) (units : List (ℕ × UnitParts)) (unit : ℕ × UnitParts) (old new : List ℕ)
    → Each (IsShortest (UnitBytesIn to)) (units_in_format units format to) old
    → Appends (UnitBytesIn to) (unit_in_format unit.1 format to) old new
    → Each (IsShortest (UnitBytesIn to)) (units_in_format (units ++ unit ∷ []) format to) new
units_more format to units unit old new all more =
    let one = each_push (IsShortest (UnitBytesIn to)) (units_in_format units format to) (unit_in_format unit.1 format to) old more.spelling
    all more.spelled in
    subst (λ (z : List ℕ). Each (IsShortest (UnitBytesIn to)) (units_in_format (units ++ unit ∷ []) format to) z) (sym more.joined)
    (subst (λ (us : List UnitParts). Each (IsShortest (UnitBytesIn to)) us (old ++ more.spelling)) (sym (joined units)) one)
  where
    joined : (us : List (ℕ × UnitParts))
        → units_in_format (us ++ unit ∷ []) format to ≡ units_in_format us format to ++ unit_in_format unit.1 format to ∷ []
    joined [] = refl
    joined (u ∷ us) = ap (λ (l : List UnitParts). unit_in_format u.1 format to ∷ l) (joined us)

-- the shortest spellings are spellings
pub each_spelled : (to : Order) (units : List UnitParts) (bytes : List ℕ) → Each (IsShortest (UnitBytesIn to)) units bytes
    → Each (UnitBytesIn to) units bytes
each_spelled to [] bytes p = p
each_spelled to (unit ∷ units) bytes p = record {
  prefix = p.prefix;
  back = p.back;
  first = p.first.spelled;
  second = each_spelled to units p.back p.second;
  joined = p.joined;
}

-- no unit was converted yet
pub converted_none : (order : Order) (section : List ℕ) (format : Format) (to : Order) (at : At) → at.rest ≡ section → at.place ≡ 0
    → at.order ≡ order → ConvertedTo order section format to at []
converted_none order section format to at rest place ordered =
    record { units = []; prefix = []; whole = sym rest; sound = refl; place_is = place; order_is = ordered; put = refl }

-- added after other bytes
past : {X : Type 0} (P : X → List ℕ → Type 0) (x : X) (done old new : List ℕ) → Appends P x old new
    → Appends P x (done ++ old) (done ++ new)
past P x done old new p = grind (arith, common_steps, append_assoc)

-- one more unit, after bytes that were handed on
pub converted_more : (order : Order) (section : List ℕ) (format : Format) (to : Order) (done : List ℕ) (at next : At) (old new : List ℕ)
    → ConvertedTo order section format to at (done ++ old)
    → ConvertsUnit order format to at next old new → ConvertedTo order section format to next (done ++ new)
converted_more order section format to done at next old new p c =
    let unit : ℕ × UnitParts = (at.place, c.unit) in
    let r = c.read in
    record {
      units = p.units ++ unit ∷ [];
      prefix = p.prefix ++ r.spelling;
      whole = p.whole ∙ ap (λ (z : List ℕ). p.prefix ++ z) r.whole ∙ sym (append_assoc p.prefix r.spelling next.rest);
      sound = units_push order 0 p.units unit p.prefix r.spelling p.sound (omega (arith, p.place_is)) r.spelled;
      place_is = omega (arith, r.place, p.place_is, length-append p.prefix r.spelling);
      order_is = r.order ∙ p.order_is;
      put = units_more format to p.units unit (done ++ old) (done ++ new) p.put
          (past (UnitBytesIn to) (unit_in_format c.unit format to) done old new c.put);
    }

-- each unit shortens the rest
pub converted_long : (order : Order) (format : Format) (to : Order) (at next : At) (old new : List ℕ)
    → ConvertsUnit order format to at next old new → length next.rest < length at.rest
converted_long order format to at next old new c =
    omega (arith, ap length c.read.whole, length-append c.read.spelling next.rest, unit_is_some order c.unit c.read.spelling c.read.spelled)

-- Units with their offsets from this one on.
record Placed (order : Order) (offset : ℕ) (units : List UnitParts) (bytes : List ℕ) : Type 0 where
  others : List (ℕ × UnitParts)
  same : map (λ unit. unit.1) others ≡ units
  spelled : UnitsFrom order offset others bytes

placed : (order : Order) (offset : ℕ) (units : List UnitParts) (bytes : List ℕ) → Each (IsShortest (UnitBytesIn order)) units bytes
    → Placed order offset units bytes
placed order offset [] bytes p = record { others = []; same = refl; spelled = p }
placed order offset (unit ∷ units) bytes p =
    let rest = placed order (offset + length p.prefix) units p.back p.second in
    record {
      others = (offset, unit) ∷ rest.others;
      same = ap (λ (l : List UnitParts). unit ∷ l) rest.same;
      spelled = (p.prefix, p.back, refl, p.first.spelled, p.joined, rest.spelled);
    }

-- all units
pub whole_converted : (order : Order) (section : List ℕ) (format : Format) (to : Order) (units : List (ℕ × UnitParts)) (bytes : List ℕ)
    → SectionBytes order units section → Each (IsShortest (UnitBytesIn to)) (units_in_format units format to) bytes
    → IsConverted order section format to bytes
whole_converted order section format to units bytes sound put =
    let all = placed to 0 (units_in_format units format to) bytes put in
    record { units = units; others = all.others; sound = sound; same = all.same; spelled = all.spelled; shortest = put }

pub converted_all : (order : Order) (section : List ℕ) (format : Format) (to : Order) (at : At) (bytes : List ℕ)
    → ConvertedTo order section format to at bytes → length at.rest ≡ 0 → IsConverted order section format to bytes
converted_all order section format to at bytes p ended = grind (arith, common_steps, empty_list, append-nil, whole_converted)

-- ---- why a unit of a section that has a conversion isn't converted

-- some bytes spell the unit after those that stand before it, since some spell each unit
spelled_past : (order : Order) (format : Format) (to : Order) (k l : ℕ) (units others : List (ℕ × UnitParts)) (unit : UnitParts)
    (prefix here rest whole put : List ℕ) → UnitsFrom order k units prefix → UnitsFrom order l others whole
    → whole ≡ prefix ++ (here ++ rest) → UnitBytesIn order unit here
    → Each (IsShortest (UnitBytesIn to)) (units_in_format others format to) put
    → NoSpelling (UnitBytesIn to) (unit_in_format unit format to) → ⊥
spelled_past order format to k l [] [] unit prefix here rest whole put p q e spelled all none =
    omega (
      arith,
      ap length q,
      ap length e,
      length-append prefix (here ++ rest),
      length-append here rest,
      unit_is_some order unit here spelled,
    )
spelled_past order format to k l [] (u ∷ us) unit prefix here rest whole put p q e spelled all none =
    let joined : q.0 ++ q.1 ≡ here ++ rest = sym q.4 ∙ e ∙ ap (λ (z : List ℕ). z ++ (here ++ rest)) p in
    let same = (one_spelling order).one u.1 unit q.0 here q.1 rest q.3 spelled joined in
    none all.prefix (subst (λ (v : UnitParts). UnitBytesIn to (unit_in_format v format to) all.prefix) same.0 all.first.spelled)
spelled_past order format to k l (v ∷ vs) [] unit prefix here rest whole put p q e spelled all none =
    omega (
      arith,
      unit_is_some order v.1 p.0 p.3,
      ap length p.4,
      length-append p.0 p.1,
      ap length q,
      ap length e,
      length-append prefix (here ++ rest),
    )
spelled_past order format to k l (v ∷ vs) (u ∷ us) unit prefix here rest whole put p q e spelled all none =
    let past_prefix = here ++ rest in
    let joined : q.0 ++ q.1 ≡ p.0 ++ (p.1 ++ past_prefix) =
    sym q.4 ∙ e ∙ ap (λ (z : List ℕ). z ++ past_prefix) p.4 ∙ append_assoc p.0 p.1 past_prefix in
    let same = (one_spelling order).one u.1 v.1 q.0 p.0 q.1 (p.1 ++ past_prefix) q.3 p.3 joined in
    let past : q.1 ≡ p.1 ++ past_prefix = same_rest q.0 p.0 q.1 (p.1 ++ past_prefix) same.1 joined in
    spelled_past order format to (k + length p.0) (l + length q.0) vs us unit p.1 here rest q.1 all.back p.5 q.5 past spelled
    all.second none

-- of a section that has a conversion each unit that is left has one: only want of memory stops it
pub stops_by_memory : (order : Order) (section : List ℕ) (format : Format) (to : Order) (at : At) (bytes : List ℕ) (stop : ConvertFault)
    → Converts order section format to → ConvertedTo order section format to at bytes → 0 < length at.rest
    → IsNextStop order format to at stop → stop ≡ Memory
stops_by_memory order section format to at bytes (Malformed fault) all p some b =
    let t : IsTrueFault order fault section = record {
      units = p.units;
      prefix = p.prefix;
      rest = at.rest;
      sound = p.sound;
      some = some;
      split = p.whole;
      broken = subst (λ (n : ℕ). BrokenUnit order fault n at.rest) p.place_is b;
    } in
    absurd (no_section order fault section t all.converted.units all.converted.sound)
stops_by_memory order section format to at bytes (TooLarge place) all p some b =
    let large = b.1 in
    absurd (spelled_past order format to 0 0 p.units all.converted.units large.unit p.prefix large.read.spelling large.next.rest section
    all.bytes p.sound all.converted.sound (p.whole ∙ ap (λ (z : List ℕ). p.prefix ++ z) large.read.whole) large.read.spelled
    all.converted.shortest large.none)
stops_by_memory order section format to at bytes Memory all p some b = refl

-- The lemmas of `convert_section`.
pub ruleset convert_section_lemmas = (converted_none, converted_all, converted_long)
