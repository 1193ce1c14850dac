-- Under one order units and sections have one value for their bytes, and no unit begins another.
use Rattle.std.proofs.Common.{◌≡◌, ℕ, ◌+◌, ◌<◌, List, [], ◌∷◌, ◌++◌, length, refl, sym, ap, subst, ◌∙◌, append_assoc, arith}
use Rattle.std.proofs.lemmas.List.{length-append, append-nil}
use Rattle.lnt_wire.specs.declared.format.Order.{Order}
use Rattle.lnt_wire.specs.declared.fault.Fault.{Fault}
use Rattle.lnt_wire.specs.Bytes.{NoneSpelled}
use Rattle.lnt_wire.proofs.LengthLaws.{same_rest, length-initial}
use Rattle.lnt_header.specs.Parts.{HeaderParts}
use Rattle.lnt_header.specs.declared.op.Op.{Op}
use Rattle.lnt_header_bytes.specs.HeaderBytes.{HeaderBytesIn}
use Rattle.lnt_header.specs.Joins.{Each}
use Rattle.lnt_header_bytes.proofs.HeaderLaws.{same_header}
use Rattle.lnt_ops.proofs.OpLaws.{same_program}
use Rattle.lnt_ops.specs.OpBytes.{OpBytes}
use Rattle.lnt_header.specs.declared.unit_parts.UnitParts.{UnitParts}
use Rattle.lnt_unit.specs.BrokenUnits.{IsTrueFault}
use Rattle.lnt_unit.specs.Laws.{OneSpelling, OneSection}
use Rattle.lnt_unit.specs.UnitBytes.{UnitBytesIn, UnitsFrom, SectionBytes}
use Rattle.std.proofs.lemmas.Grind.{common_steps}

-- ---- units

-- a header and the operations of its program
pub unit_found : (order : Order) (unit : UnitParts) (program bytes : List ℕ) → HeaderBytesIn order (unit.header, program) bytes
    → Each (OpBytes unit.header.numbers) unit.ops program → UnitBytesIn order unit bytes
unit_found order unit program bytes p ops = grind (arith, common_steps)

-- the header of a unit with its program
pub header_of : (order : Order) (unit : UnitParts) (x : List ℕ) → (p : UnitBytesIn order unit x)
    → HeaderBytesIn order (unit.header, p.spelled.program) x
header_of order unit x p = record { order_is = p.order_is; spelled = p.spelled.whole }

parts_of : HeaderParts → List Op → UnitParts
parts_of header ops = record { header = header; ops = ops }

parts_are : (unit : UnitParts) → parts_of unit.header unit.ops ≡ unit
unfolding parts_of
parts_are unit = refl

same_unit : (order : Order) (u v : UnitParts) (x y r s : List ℕ) → UnitBytesIn order u x → UnitBytesIn order v y → x ++ r ≡ y ++ s → (u ≡ v)
    × (x ≡ y)
same_unit order u v x y r s p q e =
    let left = p.spelled in
    let right = q.spelled in
    let found = same_header u.header v.header left.program right.program x y r s (p.order_is ∙ sym q.order_is) left.whole right.whole e in
    let operations : Each (OpBytes u.header.numbers) v.ops left.program =
    subst (λ (h : HeaderParts). Each (OpBytes h.numbers) v.ops left.program) (sym found.header)
    (subst (λ (z : List ℕ). Each (OpBytes v.header.numbers) v.ops z) (sym found.program) right.operations) in
    let ops : u.ops ≡ v.ops =
    same_program u.header.numbers left.whole.counted.numbers u.ops v.ops left.program left.operations operations in
    let parts : parts_of u.header u.ops ≡ parts_of v.header v.ops = ap (λ (h : HeaderParts). parts_of h u.ops) found.header
    ∙ ap (parts_of v.header) ops in
    (sym (parts_are u) ∙ parts ∙ parts_are v, found.bytes)

pub one_spelling : OneSpelling
one_spelling order = record { one = λ u v x y r s p q e. same_unit order u v x y r s p q e }

-- a unit has some byte
pub unit_is_some : (order : Order) (unit : UnitParts) (x : List ℕ) → UnitBytesIn order unit x → 0 < length x
unit_is_some order unit x p = grind (arith, common_steps, length-append, length-initial)

-- ---- sections

-- the bytes of a section of one more unit
pub units_push : (order : Order) (offset : ℕ) (units : List (ℕ × UnitParts)) (unit : ℕ × UnitParts) (prefix more : List ℕ)
    → UnitsFrom order offset units prefix
    → unit.0 ≡ offset + length prefix → UnitBytesIn order unit.1 more → UnitsFrom order offset (units ++ unit ∷ []) (prefix ++ more)
units_push order offset [] unit prefix more joined here spelled = (
  more,
  [],
  here ∙ ap (λ (z : List ℕ). offset + length z) joined ∙ omega arith,
  spelled,
  ap (λ (z : List ℕ). z ++ more) joined
      ∙ sym (append-nil more),
  refl,
)
units_push order offset (first ∷ units) unit prefix more (a, b, at, first_spelled, whole, rest) here spelled =
    let size : length prefix ≡ length a + length b = ap length whole ∙ length-append a b in (
      a,
      b ++ more,
      at,
      first_spelled,
      ap (λ (z : List ℕ). z ++ more) whole ∙ append_assoc a b more,
      units_push order (offset + length a) units unit b more rest (omega (arith, here, size)) spelled,
    )

same_place : (u v : ℕ × UnitParts) → u.0 ≡ v.0 → u.1 ≡ v.1 → u ≡ v
same_place (m, x) (n, y) places parts = cc (places, parts)

-- the units of the same bytes
pub same_units : (order : Order) (offset : ℕ) (us vs : List (ℕ × UnitParts)) (x : List ℕ) → UnitsFrom order offset us x
    → UnitsFrom order offset vs x → us ≡ vs
same_units order offset [] [] x p q = refl
same_units order offset [] (v ∷ vs) x p q =
    absurd (omega (arith, unit_is_some order v.1 q.0 q.3, ap length p, ap length q.4, length-append q.0 q.1))
same_units order offset (u ∷ us) [] x p q =
    absurd (omega (arith, unit_is_some order u.1 p.0 p.3, ap length q, ap length p.4, length-append p.0 p.1))
same_units order offset (u ∷ us) (v ∷ vs) x p q =
    let all : p.0 ++ p.1 ≡ q.0 ++ q.1 = sym p.4 ∙ q.4 in
    let one = same_unit order u.1 v.1 p.0 q.0 p.1 q.1 p.3 q.3 all in
    let heads : u ≡ v = same_place u v (p.2 ∙ sym q.2) one.0 in
    let past : p.1 ≡ q.1 = same_rest p.0 q.0 p.1 q.1 one.1 all in
    let later : UnitsFrom order (offset + length p.0) vs p.1 =
    subst (λ (z : List ℕ). UnitsFrom order (offset + length z) vs p.1) (sym one.1)
    (subst (λ (z : List ℕ). UnitsFrom order (offset + length q.0) vs z) (sym past) q.5) in
    let tails : us ≡ vs = same_units order (offset + length p.0) us vs p.1 p.5 later in
    cc (heads, tails)

-- no other list goes past the units that stand before bytes that no unit begins
none_past : (order : Order) (k l : ℕ) (units others : List (ℕ × UnitParts)) (prefix rest whole : List ℕ) → UnitsFrom order k units prefix
    → UnitsFrom order l others whole → whole ≡ prefix ++ rest → NoneSpelled (UnitBytesIn order) rest → 0 < length rest → ⊥
none_past order k l [] [] prefix rest whole p q e none some =
    omega (arith, ap length p, ap length q, ap length e, length-append prefix rest)
none_past order k l [] (u ∷ us) prefix rest whole p q e none some = none u.1 q.0 q.1 q.3 (sym q.4 ∙ e ∙ ap (λ (z : List ℕ). z ++ rest) p)
none_past order k l (v ∷ vs) [] prefix rest whole p q e none some =
    omega (arith, unit_is_some order v.1 p.0 p.3, ap length p.4, length-append p.0 p.1, ap length q, ap length e, length-append prefix rest)
none_past order k l (v ∷ vs) (u ∷ us) prefix rest whole p q e none some =
    let all : q.0 ++ q.1 ≡ p.0 ++ (p.1 ++ rest) = sym q.4 ∙ e ∙ ap (λ (z : List ℕ). z ++ rest) p.4 ∙ append_assoc p.0 p.1 rest in
    let same = same_unit order u.1 v.1 q.0 p.0 q.1 (p.1 ++ rest) q.3 p.3 all in
    let past : q.1 ≡ p.1 ++ rest = same_rest q.0 p.0 q.1 (p.1 ++ rest) same.1 all in
    none_past order (k + length p.0) (l + length q.0) vs us p.1 rest q.1 p.5 q.5 past none some

pub no_section : (order : Order) (fault : Fault) (section : List ℕ) → IsTrueFault order fault section → (units : List (ℕ × UnitParts))
    → SectionBytes order units section → ⊥
no_section order fault section t units q =
    none_past order 0 0 t.units units t.prefix t.rest section t.sound q t.split t.broken.broken.none t.some

pub one_section : OneSection
one_section = record {
  units = λ order us vs bytes p q. same_units order 0 us vs bytes p q;
  fault = λ order fault units bytes t q. no_section order fault bytes t units q;
}
