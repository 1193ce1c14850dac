-- An operation by its first byte, and by what stands after it.
use Rattle.std.proofs.Common.{◌≡◌, ℕ, ◌<◌, ◌≤◌, List, [], ◌∷◌, ◌++◌, length, refl, sym, ap, subst, ◌∙◌, append_assoc, arith}
use Rattle.std.proofs.lemmas.List.{nil_from_length, length-append}
use Rattle.lnt_wire.specs.Reading.{At, Reads, RefusesField, Refuses, IsCutShort}
use Rattle.lnt_wire.specs.Bytes.{NoneSpelled}
use Rattle.lnt_wire.specs.declared.fault.Fault.{Fault}
use Rattle.lnt_wire.specs.Numbers.{NumberBytes}
use Rattle.lnt_header.specs.declared.numbers.NumberParts.{NumberParts}
use Rattle.lnt_header.specs.declared.op.Op.TheVariants as ops
use Rattle.lnt_header.specs.declared.op.OpView.{OpView}
use Rattle.lnt_header.specs.declared.op.OpView.TheVariants as views
use Rattle.lnt_header.proofs.ByteLaws.{one_digit}
use Rattle.lnt_ops.proofs.OpLaws.{op_is_some}
use Rattle.lnt_ops.specs.OpBytes.{OpBytes}
use Rattle.lnt_ops.specs.OpFaults.{IsOpFault, IsFirstFault}
use Rattle.lnt_ops.proofs.FaultLemmas.{refuses_op}
use Rattle.lnt_ops.proofs.OpFaultLaws.{first_none}
use Rattle.lnt_ops.specs.OpSteps.{GivesOp, GivesAfter, RefusesAfter}
use Rattle.std.proofs.lemmas.Grind.{common_steps}

-- ---- a cursor that stands where another does

reads_from : {X : Type 0} (P : X → List ℕ → Type 0) (v : X) (old ahead new : At) → ahead.place ≡ old.place → ahead.rest ≡ old.rest
    → ahead.order ≡ old.order → Reads P v ahead new → Reads P v old new
reads_from P v old ahead new place rest order r = grind (arith, common_steps)

-- ---- the first byte

byte_is : (h : NumberParts) (k : ℕ) (old middle : At) → (r : Reads (NumberBytes old.order 1) k old middle) → r.spelling ≡ k ∷ []
byte_is h k old middle r = r.spelled.spelled ∙ one_digit old.order k r.spelled.fits

pub gives_special : (h : NumberParts) (k : ℕ) (old ahead middle : At) → ahead.place ≡ old.place → ahead.rest ≡ old.rest
    → ahead.order ≡ old.order → Reads (NumberBytes ahead.order 1) k ahead middle
    → h.opcode_base ≤ k → GivesOp h (views.Special k) old middle
gives_special h k old ahead middle place rest order r le =
    let spelled : OpBytes h (ops.Special k) r.spelling = (le, r.spelled.fits, byte_is h k ahead middle r) in
    let read : Reads (OpBytes h) (ops.Special k) ahead middle = record {
      spelling = r.spelling;
      spelled = spelled;
      whole = r.whole;
      place = r.place;
      order = r.order;
    } in
    record {
      op = ops.Special k;
      stands = refl;
      admitted = le;
      reads = reads_from (OpBytes h) (ops.Special k) old ahead middle place rest order read;
    }

pub gives_after : (h : NumberParts) (k : ℕ) (view : OpView) (old ahead middle new : At) → ahead.place ≡ old.place → ahead.rest ≡ old.rest
    → ahead.order ≡ old.order → Reads (NumberBytes ahead.order 1) k ahead middle → GivesAfter h k view middle new → GivesOp h view old new
gives_after h k view old ahead middle new place rest order r g =
    grind (arith, common_steps, byte_is, append_assoc, length-append, reads_from)

-- nothing is left, so no operation is
pub first_opcode : (h : NumberParts) (old ahead : At) (fault : Fault) → ahead.place ≡ old.place → ahead.rest ≡ old.rest
    → RefusesField (IsCutShort 1) (NumberBytes ahead.order 1) ahead fault → Refuses (IsFirstFault h) (OpBytes h) old fault
first_opcode h old ahead fault place rest r = grind (arith, common_steps, nil_from_length, op_is_some, length-append)

pub refuses_opcode : (h : NumberParts) (old ahead : At) (fault : Fault) → ahead.place ≡ old.place → ahead.rest ≡ old.rest
    → RefusesField (IsCutShort 1) (NumberBytes ahead.order 1) ahead fault → Refuses (IsOpFault h.address_size) (OpBytes h) old fault
refuses_opcode h old ahead fault place rest r = refuses_op h old fault (first_opcode h old ahead fault place rest r)

pub first_after : (h : NumberParts) (k : ℕ) (old ahead middle : At) (fault : Fault) → ahead.place ≡ old.place → ahead.rest ≡ old.rest
    → Reads (NumberBytes ahead.order 1) k ahead middle → k < h.opcode_base → RefusesAfter h k middle fault
    → Refuses (IsFirstFault h) (OpBytes h) old fault
first_after h k old ahead middle fault place rest r lt s =
    let first = byte_is h k ahead middle r in
    let whole : old.rest ≡ (k ∷ s.before) ++ s.left =
    sym rest ∙ r.whole ∙ ap (λ (z : List ℕ). z ++ middle.rest) first ∙ ap (λ (z : List ℕ). k ∷ z) s.split in
    record {
      before = k ∷ s.before;
      left = s.left;
      split = whole;
      place = omega (arith, s.place, r.place, place, ap length first);
      reason = s.reason;
      none = subst (NoneSpelled (OpBytes h)) (sym whole) (first_none h fault.reason (k ∷ s.before) s.left (omega (arith, lt)) s.reason);
    }

pub refuses_after : (h : NumberParts) (k : ℕ) (old ahead middle : At) (fault : Fault) → ahead.place ≡ old.place → ahead.rest ≡ old.rest
    → Reads (NumberBytes ahead.order 1) k ahead middle → k < h.opcode_base → RefusesAfter h k middle fault
    → Refuses (IsOpFault h.address_size) (OpBytes h) old fault
refuses_after h k old ahead middle fault place rest r lt s =
    refuses_op h old fault (first_after h k old ahead middle fault place rest r lt s)

-- The lemmas of `read_op`.
pub ruleset read_op_lemmas = (gives_special, gives_after, first_opcode, first_after, refuses_opcode, refuses_after)
