-- Walks over the units of a section.
use Rattle.std.proofs.Common.{◌≡◌, ◌∙◌, ℕ, ◌+◌, ◌<◌, ◌≤◌, List, [], ◌∷◌, ◌++◌, length, length-append, inr, refl, sym, ap, arith}
use Rattle.std.proofs.Common.{append_assoc, All}
use Rattle.std.proofs.lemmas.List.{append-nil, nil_from_length}
use Rattle.std.proofs.lemmas.List.Elements.{All-cons, All-nil, All-weaker}
use Rattle.std.proofs.lemmas.List.Kept.{AllPairs-cons}
use Rattle.lnt_header.specs.Joins.{AreRising, PlacedFrom}
use Rattle.lnt_wire.specs.Reading.{At, Reads}
use Rattle.lnt_wire.specs.declared.format.Order.{Order}
use Rattle.lnt_older.specs.OlderUnits.{AnyBytes, AnyParts, ReadsFive, ReadsOlder, five_parts, older_parts, unit_header}
use Rattle.lnt_older.specs.Upgradable.{IsUnitNext, AreLeft}
use Rattle.lnt_older.specs.Sections.{HasOlder, older_offsets}
use Rattle.lnt_older.specs.declared.unit.OlderUnit.{OlderUnit}
use Rattle.lnt_older.proofs.PlacedLaws.{left_after, placed_more}
use Rattle.lnt_older.proofs.UpgradeLaws.{any_once, five_read, older_read, some_bytes}
use Rattle.std.proofs.lemmas.Grind.{common_steps}

-- The bytes are those of the unit.
abbrev pub IsSpelled : Order → ℕ × AnyParts → List ℕ → Type 0
IsSpelled order = λ unit. AnyBytes order unit.1

pub any_long : (at next : At) (parts : AnyParts) → Reads (AnyBytes at.order) parts at next → length next.rest < length at.rest
any_long at next parts r = grind (arith, common_steps, length-append, some_bytes)

-- ---- the units that are left

module _ (Says : Order → ℕ × AnyParts → List ℕ → Type 0)
    (spelled : (order : Order) (unit : ℕ × AnyParts) (bytes : List ℕ) → Says order unit bytes → AnyBytes order unit.1 bytes) where
  pub unit_next : (at : At) → AreLeft Says at → 0 < length at.rest → IsUnitNext at
  unit_next at ([], none) some = absurd (omega (arith, some, ap length none))
  unit_next at (unit ∷ units, (prefix, back, here, so, joined, rest)) some = (unit.1, prefix, back, spelled at.order unit prefix so, joined)

  pub fewer_left : (at next : At) (parts : AnyParts) → AreLeft Says at → Reads (AnyBytes at.order) parts at next → AreLeft Says next
  fewer_left at next parts left r = left_after Says (AnyBytes at.order) parts at next r (some_bytes at.order parts r.spelling r.spelled)
      (λ unit y m so e. any_once at.order unit.1 parts y r.spelling m next.rest (spelled at.order unit y so) r.spelled e) left

-- ---- the units up to a cursor

-- Units of the section stand before a cursor, each of which is so (Says).
pub record WalkedTo (Says : Order → ℕ × AnyParts → List ℕ → Type 0) (order : Order) (section : List ℕ) (at : At)
    (units : List (ℕ × AnyParts)) : Type 0 where
  pub done : List ℕ
  pub sound : PlacedFrom (Says order) 0 units done
  pub joined : section ≡ done ++ at.rest
  pub place : at.place ≡ length done
  pub order_is : at.order ≡ order

module _ (Says : Order → ℕ × AnyParts → List ℕ → Type 0) (order : Order) (section : List ℕ) where
  pub walked_none : (at : At) → at.rest ≡ section → at.place ≡ 0 → at.order ≡ order → WalkedTo Says order section at []
  walked_none at rest place ordered = record { done = []; sound = refl; joined = sym rest; place = place; order_is = ordered }

  pub walked_more : (at next : At) (units : List (ℕ × AnyParts)) (parts : AnyParts) → WalkedTo Says order section at units
      → (r : Reads (AnyBytes at.order) parts at next) → Says at.order (at.place, parts) r.spelling
      → WalkedTo Says order section next (units ++ (at.place, parts) ∷ [])
  walked_more at next units parts w r so = grind (arith, common_steps, placed_more, append_assoc, length-append)

  pub walked_all : (at : At) (units : List (ℕ × AnyParts)) → WalkedTo Says order section at units → length at.rest ≡ 0
      → PlacedFrom (Says order) 0 units section
  walked_all at units w ended = rw (w.joined, nil_from_length at.rest ended, append-nil) w.sound

-- ---- the older ones among them

older_more : (units more : List (ℕ × AnyParts)) → older_offsets (units ++ more) ≡ older_offsets units ++ older_offsets more
older_more [] more = refl
older_more ((offset, five_parts format body) ∷ units) more = older_more units more
older_more ((offset, older_parts header program) ∷ units) more = ap (λ (l : List ℕ). offset ∷ l) (older_more units more)

later_on : {low high : ℕ} (offsets : List ℕ) → low ≤ high → All (λ (other : ℕ). high ≤ other) offsets
    → All (λ (other : ℕ). low ≤ other) offsets
later_on {low} {high} offsets le all = grind (arith, common_steps)

-- each unit has bytes, so it stands after those before it
older_from : (order : Order) (offset : ℕ) (units : List (ℕ × AnyParts)) (bytes : List ℕ) → PlacedFrom (IsSpelled order) offset units bytes
    → All (λ (other : ℕ). offset ≤ other) (older_offsets units)
older_from order offset [] bytes h = All-nil (λ (other : ℕ). offset ≤ other)
older_from order offset ((place, five_parts format body) ∷ units) bytes h =
    later_on (older_offsets units) (omega arith) (older_from order (offset + length h.0) units h.1 h.5)
older_from order offset ((place, older_parts header program) ∷ units) bytes h =
    All-cons (λ (other : ℕ). offset ≤ other) place (older_offsets units) (omega (arith, h.2))
    (later_on (older_offsets units) (omega arith) (older_from order (offset + length h.0) units h.1 h.5))

older_rise : (order : Order) (offset : ℕ) (units : List (ℕ × AnyParts)) (bytes : List ℕ) → PlacedFrom (IsSpelled order) offset units bytes
    → AreRising (older_offsets units)
older_rise order offset [] bytes h = λ i j d lt few. absurd (omega (arith, few))
older_rise order offset ((place, five_parts format body) ∷ units) bytes h = older_rise order (offset + length h.0) units h.1 h.5
older_rise order offset ((place, older_parts header program) ∷ units) bytes h =
    AllPairs-cons (λ (one other : ℕ). one < other) place (older_offsets units)
    (All-weaker (λ (other : ℕ). offset + length h.0 ≤ other) (λ (other : ℕ). place < other)
    (λ other le. omega (arith, h.2, some_bytes order (older_parts header program) h.0 h.3))
    (older_offsets units) (older_from order (offset + length h.0) units h.1 h.5)) (older_rise order (offset + length h.0) units h.1 h.5)

-- The older ones among the units up to a cursor are at these offsets.
pub record OlderTo (order : Order) (section : List ℕ) (at : At) (older : List ℕ) : Type 0 where
  pub units : List (ℕ × AnyParts)
  pub walked : WalkedTo IsSpelled order section at units
  pub older_are : older ≡ older_offsets units

module _ (order : Order) (section : List ℕ) where
  older_next : (at next : At) (older new : List ℕ) (parts : AnyParts) → OlderTo order section at older
      → Reads (AnyBytes at.order) parts at next → new ≡ older ++ older_offsets ((at.place, parts) ∷ []) → OlderTo order section next new
  older_next at next older new parts o r more = record {
    units = o.units ++ (at.place, parts) ∷ [];
    walked = walked_more IsSpelled order section at next o.units parts o.walked r r.spelled;
    older_are = more ∙ rw o.older_are (sym (older_more o.units ((at.place, parts) ∷ [])));
  }

  -- one of version 5 is passed over
  pub five_passed : (at next : At) (older bytes : List ℕ) → OlderTo order section at older → ReadsFive bytes at next
      → OlderTo order section next older
  five_passed at next older bytes o r =
      older_next at next older older (five_parts r.format r.body) o (five_read bytes at next r) (sym (append-nil older))

  -- the offset of an older one is kept
  pub older_passed : (at next : At) (older new : List ℕ) (offset : ℕ) (unit : OlderUnit) → OlderTo order section at older
      → ReadsOlder unit at next → offset ≡ at.place → new ≡ older ++ offset ∷ [] → OlderTo order section next new
  older_passed at next older new offset unit o r here added =
      older_next at next older new (older_parts (unit_header unit 8 r.directories r.files) unit.program.now) o
      (older_read unit 8 at next (inr (inr refl)) r) (rw here at added)

  pub older_found : (at : At) (older : List ℕ) → OlderTo order section at older → length at.rest ≡ 0
      → HasOlder order section older × AreRising older
  older_found at older o ended =
      let sound = walked_all IsSpelled order section at o.units o.walked ended in (
        record { units = o.units; sound = sound; older_are = o.older_are },
        rw o.older_are (older_rise order 0 o.units section sound),
      )

pub older_long : (at next : At) (unit : OlderUnit) → ReadsOlder unit at next → length next.rest < length at.rest
older_long at next unit r = grind (arith, common_steps, any_long, older_read)
