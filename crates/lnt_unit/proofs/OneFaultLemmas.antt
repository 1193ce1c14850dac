-- Of one section at most one fault is true.
use Rattle.std.proofs.Common.{◌≡◌, ℕ, ◌+◌, List, [], ◌∷◌, ◌++◌, length, get_or, refl, sym, ap, subst, ◌∙◌, append_assoc, arith, inl, inr}
use Rattle.std.proofs.Common.{length-append}
use Rattle.std.proofs.lemmas.Bool.{cases_eq}
use Rattle.lnt_wire.specs.Bytes.{NoneSpelled}
use Rattle.lnt_wire.specs.FrameBytes.{version_five, initial_length}
use Rattle.lnt_wire.specs.Numbers.{number_bytes, offset_size}
use Rattle.lnt_wire.specs.declared.fault.Fault.{Fault}
use Rattle.lnt_wire.specs.declared.fault.Reason.{Reason}
use Rattle.lnt_wire.specs.declared.fault.Reason.TheVariants.{Truncated, ReservedLength, VersionNotFive, AddressSize, SegmentSelector}
use Rattle.lnt_wire.specs.declared.fault.Reason.TheVariants.{HeaderLength, MaxOpsZero, LineRangeZero, OpcodeBaseZero, StandardLength}
use Rattle.lnt_wire.specs.declared.fault.Reason.TheVariants.{UnknownForm, EmptyFormat, LebTooLarge, ExtendedLength, Memory}
use Rattle.lnt_wire.specs.declared.format.Order.{Order}
use Rattle.lnt_wire.proofs.LengthLaws.{same_rest}
use Rattle.lnt_header.specs.Parts.{HeaderParts}
use Rattle.lnt_header_bytes.specs.HeaderBytes.{HeaderBytesIn, unit_body}
use Rattle.lnt_header_bytes.proofs.FirstFieldLaws.{first_field_one}
use Rattle.lnt_ops.proofs.OpFaultLaws.{program_one}
use Rattle.lnt_unit.specs.BrokenUnits.{BeginsWithHeader, BrokenUnit, IsTrueFault}
use Rattle.lnt_unit.specs.Laws.{OneTrueFault}
use Rattle.lnt_unit.proofs.UnitLaws.{one_spelling, same_units}
use Rattle.lnt_unit.specs.UnitBytes.{UnitBytesIn, UnitsFrom}
use Rattle.lnt_header.specs.declared.unit_parts.UnitParts.{UnitParts}
use Rattle.std.proofs.lemmas.Grind.{common_steps}

-- ---- whether two faults are one

-- which of the reasons it is, and the numbers that it tells
kind : Reason → ℕ
kind Truncated = 0
kind ReservedLength = 1
kind (VersionNotFive version) = 2
kind (AddressSize size) = 3
kind (SegmentSelector size) = 4
kind HeaderLength = 5
kind MaxOpsZero = 6
kind LineRangeZero = 7
kind OpcodeBaseZero = 8
kind (StandardLength opcode given) = 9
kind (UnknownForm code) = 10
kind EmptyFormat = 11
kind LebTooLarge = 12
kind ExtendedLength = 13
kind Memory = 14

first_number : Reason → ℕ
first_number (VersionNotFive version) = version
first_number (AddressSize size) = size
first_number (SegmentSelector size) = size
first_number (StandardLength opcode given) = opcode
first_number (UnknownForm code) = code
first_number _ = 0

second_number : Reason → ℕ
second_number (StandardLength opcode given) = given
second_number _ = 0

reason_with : ℕ → ℕ → ℕ → Reason
reason_with kind m n =
    get_or (Truncated ∷ ReservedLength ∷ VersionNotFive m ∷ AddressSize m ∷ SegmentSelector m ∷ HeaderLength ∷ MaxOpsZero ∷ LineRangeZero ∷
    OpcodeBaseZero ∷ StandardLength m n ∷ UnknownForm m ∷ EmptyFormat ∷ LebTooLarge ∷ ExtendedLength ∷ []) kind Memory

reason_is : (reason : Reason) → reason_with (kind reason) (first_number reason) (second_number reason) ≡ reason
unfolding kind first_number second_number reason_with
reason_is Truncated = refl
reason_is ReservedLength = refl
reason_is (VersionNotFive version) = refl
reason_is (AddressSize size) = refl
reason_is (SegmentSelector size) = refl
reason_is HeaderLength = refl
reason_is MaxOpsZero = refl
reason_is LineRangeZero = refl
reason_is OpcodeBaseZero = refl
reason_is (StandardLength opcode given) = refl
reason_is (UnknownForm code) = refl
reason_is EmptyFormat = refl
reason_is LebTooLarge = refl
reason_is ExtendedLength = refl
reason_is Memory = refl

fault_of : ℕ → Reason → Fault
fault_of place reason = record { place = place; reason = reason }

fault_is : (fault : Fault) → fault_of fault.place fault.reason ≡ fault
unfolding fault_of
fault_is fault = refl

pub same_fault : (fault other : Fault) → fault.place ≡ other.place → fault.reason ≡ other.reason → fault ≡ other
same_fault fault other places reasons =
    sym (fault_is fault) ∙ ap (λ (n : ℕ). fault_of n fault.reason) places ∙ ap (fault_of other.place) reasons ∙ fault_is other

same_reason : (one other : Reason) → kind one ≡ kind other → first_number one ≡ first_number other → second_number one ≡ second_number other
    → one ≡ other
same_reason one other kinds firsts seconds =
    sym (reason_is one) ∙ ap (λ (k : ℕ). reason_with k (first_number one) (second_number one)) kinds
    ∙ ap (λ (m : ℕ). reason_with (kind other) m (second_number one)) firsts
    ∙ ap (reason_with (kind other) (first_number other)) seconds ∙ reason_is other

-- what can't be two is one
reasons_agree : (one other : Reason) → ((one ≡ other → ⊥) → ⊥) → one ≡ other
reasons_agree one other not_two = grind (arith, common_steps, cases_eq, kind, first_number, second_number, same_reason)

places_agree : (m n : ℕ) → ((m ≡ n → ⊥) → ⊥) → m ≡ n
places_agree m n not_two = elim (cases_eq m n) [ inl same ↦ same | inr apart ↦ absurd (not_two apart) ]

faults_agree : (fault other : Fault) → ((fault ≡ other → ⊥) → ⊥) → fault ≡ other
faults_agree fault other not_two = grind (arith, common_steps, same_fault, places_agree, reasons_agree)

-- ---- where no unit begins the bytes

-- a header with its program, which begins the bytes
begins_with : (order : Order) (offset : ℕ) (header : HeaderParts) (program x more bytes : List ℕ) → HeaderBytesIn order (header, program) x
    → x ++ more ≡ bytes → (place : ℕ) × BeginsWithHeader order offset bytes header place program
begins_with order offset header program x more bytes p e =
    let h = p.spelled in
    let head =
    version_five header.numbers.order ++ (header.numbers.address_size ∷ 0 ∷ []) ++ number_bytes header.numbers.order (offset_size
    header.format) (length h.fields)
    ++ h.fields in
    let initial = initial_length header.format header.numbers.order (length (unit_body header h.fields program)) in
    let size : length x ≡ length initial + (length head + length program) =
    omega (arith, ap length h.joined, length-append initial (head ++ program), length-append head program) in (
      offset + (length initial + length head),
      record { prefix = x; more = more; spelled = p; joined = sym e; ends = omega (arith, size) },
    )

-- two faults of the same bytes are one
pub broken_one : (order : Order) (offset : ℕ) (bytes : List ℕ) (fault other : Fault) → BrokenUnit order fault offset bytes
    → BrokenUnit order other offset bytes → fault ≡ other
broken_one order offset bytes fault other f g = faults_agree fault other (λ apart.
    let none : NoneSpelled (HeaderBytesIn order) bytes = λ unit x more p e.
    let begins = begins_with order offset unit.0 unit.1 x more bytes p e in
    let found =
    program_one unit.0.numbers begins.0 unit.1 fault other p.spelled.counted.numbers (f.in_program unit.0 begins.0 unit.1 begins.1)
    (g.in_program unit.0 begins.0 unit.1 begins.1) in
    apart (same_fault fault other found.0 found.1) in
    let found =
    first_field_one order fault.reason other.reason f.broken.before g.broken.before f.broken.from g.broken.from (f.in_header none)
    (g.in_header none) (sym f.broken.split ∙ g.broken.split) in
    apart (same_fault fault other (omega (arith, f.broken.place, g.broken.place, ap length found.1)) found.0))

-- ---- the units before it

record SameStart (x y r s : List ℕ) : Type 0 where
  bytes : x ≡ y
  past : r ≡ s

-- the units before bytes that no unit begins are the same
same_start : (order : Order) (k l : ℕ) (us vs : List (ℕ × UnitParts)) (x y r s : List ℕ) → UnitsFrom order k us x → UnitsFrom order l vs y
    → x ++ r ≡ y ++ s → NoneSpelled (UnitBytesIn order) r → NoneSpelled (UnitBytesIn order) s → SameStart x y r s
same_start order k l [] [] x y r s p q e none none' =
    record { bytes = p ∙ sym q; past = ap (λ (z : List ℕ). z ++ r) (sym p) ∙ e ∙ ap (λ (z : List ℕ). z ++ s) q }
same_start order k l [] (v ∷ vs) x y r s p q e none none' = absurd (none v.1 q.0 (q.1 ++ s) q.3
    (sym (append_assoc q.0 q.1 s) ∙ ap (λ (z : List ℕ). z ++ s) (sym q.4) ∙ sym e ∙ ap (λ (z : List ℕ). z ++ r) p))
same_start order k l (u ∷ us) [] x y r s p q e none none' = absurd (none' u.1 p.0 (p.1 ++ r) p.3
    (sym (append_assoc p.0 p.1 r) ∙ ap (λ (z : List ℕ). z ++ r) (sym p.4) ∙ e ∙ ap (λ (z : List ℕ). z ++ s) q))
same_start order k l (u ∷ us) (v ∷ vs) x y r s p q e none none' =
    let all : p.0 ++ (p.1 ++ r) ≡ q.0 ++ (q.1 ++ s) =
    sym (ap (λ (z : List ℕ). z ++ r) p.4 ∙ append_assoc p.0 p.1 r) ∙ e ∙ ap (λ (z : List ℕ). z ++ s) q.4 ∙ append_assoc q.0 q.1 s in
    let one = (one_spelling order).one u.1 v.1 p.0 q.0 (p.1 ++ r) (q.1 ++ s) p.3 q.3 all in
    let rest =
    same_start order (k + length p.0) (l + length q.0) us vs p.1 q.1 r s p.5 q.5 (same_rest p.0 q.0 (p.1 ++ r) (q.1 ++ s) one.1 all) none
    none' in
    record { bytes = p.4 ∙ ap (λ (z : List ℕ). z ++ p.1) one.1 ∙ ap (λ (z : List ℕ). q.0 ++ z) rest.bytes ∙ sym q.4; past = rest.past }

-- the bytes of the units before two true faults
same_prefix_of : (order : Order) (section : List ℕ) (fault other : Fault) → (f : IsTrueFault order fault section)
    → (g : IsTrueFault order other section) → SameStart f.prefix g.prefix f.rest g.rest
same_prefix_of order section fault other f g = grind (arith, common_steps, same_start)

true_faults_agree : (order : Order) (section : List ℕ) (fault other : Fault) → IsTrueFault order fault section
    → IsTrueFault order other section → fault ≡ other
true_faults_agree order section fault other f g =
    let start = same_prefix_of order section fault other f g in
    let there : BrokenUnit order other (length f.prefix) f.rest =
    subst (λ (z : List ℕ). BrokenUnit order other (length z) f.rest) (sym start.bytes)
    (subst (λ (z : List ℕ). BrokenUnit order other (length g.prefix) z) (sym start.past) g.broken) in
    broken_one order (length f.prefix) f.rest fault other f.broken there

units_agree : (order : Order) (section : List ℕ) (fault other : Fault) → (f : IsTrueFault order fault section)
    → (g : IsTrueFault order other section) → f.units ≡ g.units
units_agree order section fault other f g =
    let start = same_prefix_of order section fault other f g in
    same_units order 0 f.units g.units f.prefix f.sound (subst (λ (z : List ℕ). UnitsFrom order 0 g.units z) (sym start.bytes) g.sound)

pub one_true_fault : OneTrueFault
one_true_fault = record { fault = true_faults_agree; units = units_agree }
