-- Units one after the other.
use Rattle.std.proofs.Common.{◌≡◌, ℕ, ◌<◌, List, [], ◌∷◌, ◌++◌, length, refl, sym, ap, subst, ◌∙◌, append_assoc, arith}
use Rattle.std.proofs.lemmas.List.{append-nil, length-append}
use Rattle.lnt_wire.specs.Reading.{At, Reads}
use Rattle.lnt_wire.specs.declared.fault.Fault.{Fault}
use Rattle.lnt_wire.specs.declared.format.Order.{Order}
use Rattle.lnt_unit.specs.BrokenUnits.{BrokenUnit, IsTrueFault, BrokenSection}
use Rattle.lnt_unit.proofs.UnitLaws.{unit_is_some, units_push, no_section}
use Rattle.lnt_unit.specs.ConversionSteps.{AddsUnit}
use Rattle.lnt_unit.specs.UnitBytes.{UnitBytesIn, SectionBytes}
use Rattle.lnt_header.specs.declared.unit_parts.UnitParts.{UnitParts}
use Rattle.std.proofs.lemmas.Grind.{common_steps}

-- the units that were read up to the cursor
pub record UnitsSoFar (order : Order) (bytes : List ℕ) (units : List (ℕ × UnitParts)) (cursor : At) : Type 0 where
  pub prefix : List ℕ
  pub whole : bytes ≡ prefix ++ cursor.rest
  pub joined : SectionBytes order units prefix
  pub place : cursor.place ≡ length prefix
  pub order_is : cursor.order ≡ order

pub no_units : (order : Order) (bytes : List ℕ) (cursor : At) → cursor.rest ≡ bytes → cursor.place ≡ 0 → cursor.order ≡ order
    → UnitsSoFar order bytes [] cursor
no_units order bytes cursor rest place order_is =
    record { prefix = []; whole = sym rest; joined = refl; place = place; order_is = order_is }

pub one_more_unit : (order : Order) (bytes : List ℕ) (units : List (ℕ × UnitParts)) (unit : ℕ × UnitParts) (old new : At)
    → UnitsSoFar order bytes units old → Reads (UnitBytesIn order) unit.1 old new
    → unit.0 ≡ old.place → UnitsSoFar order bytes (units ++ unit ∷ []) new
one_more_unit order bytes units unit old new so_far r here = record {
  prefix = so_far.prefix ++ r.spelling;
  whole = so_far.whole ∙ ap (λ (z : List ℕ). so_far.prefix ++ z) r.whole ∙ sym (append_assoc so_far.prefix r.spelling new.rest);
  joined = units_push order 0 units unit so_far.prefix r.spelling so_far.joined (omega (arith, here, so_far.place)) r.spelled;
  place = omega (arith, r.place, so_far.place, length-append so_far.prefix r.spelling);
  order_is = r.order ∙ so_far.order_is;
}

-- a unit has bytes
pub unit_long : (order : Order) (unit : UnitParts) (old new : At) → Reads (UnitBytesIn order) unit old new
    → length new.rest < length old.rest
unit_long order unit old new r =
    omega (arith, ap length r.whole, length-append r.spelling new.rest, unit_is_some order unit r.spelling r.spelled)

-- a unit that was added is one more, and has bytes
pub unit_added : (order : Order) (bytes : List ℕ) (before after : List (ℕ × UnitParts)) (old new : At)
    → UnitsSoFar order bytes before old → AddsUnit order before after old new → UnitsSoFar order bytes after new
unit_added order bytes before after old new so_far s = rw s.added (one_more_unit order bytes before s.unit old new so_far s.read s.here)

pub unit_added_long : (order : Order) (before after : List (ℕ × UnitParts)) (old new : At) → AddsUnit order before after old new
    → length new.rest < length old.rest
unit_added_long order before after old new s = unit_long order s.unit.1 old new s.read

-- nothing is left
pub all_units : (order : Order) (bytes : List ℕ) (units : List (ℕ × UnitParts)) (cursor : At) → UnitsSoFar order bytes units cursor
    → cursor.rest ≡ [] → SectionBytes order units bytes
all_units order bytes units cursor so_far nothing = subst (λ (z : List ℕ). SectionBytes order units z)
    (sym (so_far.whole ∙ ap (λ (z : List ℕ). so_far.prefix ++ z) nothing ∙ append-nil so_far.prefix)) so_far.joined

-- no unit begins what is left
true_fault : (order : Order) (bytes : List ℕ) (units : List (ℕ × UnitParts)) (fault : Fault) (cursor : At)
    → UnitsSoFar order bytes units cursor → 0 < length cursor.rest
    → BrokenUnit order fault cursor.place cursor.rest → IsTrueFault order fault bytes
true_fault order bytes units fault cursor so_far some b = grind (arith, common_steps)

pub section_broken : (order : Order) (bytes : List ℕ) (units : List (ℕ × UnitParts)) (fault : Fault) (cursor : At)
    → UnitsSoFar order bytes units cursor → 0 < length cursor.rest
    → BrokenUnit order fault cursor.place cursor.rest → BrokenSection order fault bytes
section_broken order bytes units fault cursor so_far some b =
    let t = true_fault order bytes units fault cursor so_far some b in
    record { none = no_section order fault bytes t; true_fault = t }

-- The lemmas of `decode_section`.
pub ruleset decode_section_lemmas = (no_units, unit_added, unit_added_long, all_units)
