-- Readers of a field, one after another: what they read together, and why nothing is read.
use Rattle.std.proofs.Common.{◌≡◌, ℕ, zero, suc, ◌<◌, List, [], ◌∷◌, ◌++◌, length, refl, sym, ap, subst, ◌∙◌, append_assoc, add-zero, arith}
use Rattle.std.proofs.lemmas.List.{length-append, append-nil}
use Rattle.lnt_wire.specs.Reading.{At, Reads, Refuses}
use Rattle.lnt_wire.specs.Bytes.{NoneSpelled, IsCode}
use Rattle.lnt_wire.specs.declared.format.Order.{Order}
use Rattle.lnt_wire.specs.declared.fault.Fault.{Fault}
use Rattle.lnt_wire.specs.declared.fault.Reason.{Reason}
use Rattle.lnt_wire.proofs.CodeLaws.{peel}
use Rattle.lnt_wire.proofs.LengthLaws.{same_rest}
use Rattle.lnt_header.specs.FieldFaults.{IsCutField, FirstOf, FirstOfSeveral}
use Rattle.lnt_header.specs.FieldFaults.IsCutField.{number, text, leb, block, sized_block, operation}
use Rattle.lnt_header.specs.FieldFaults.FirstOf.{second}
use Rattle.lnt_header.specs.FieldFaults.FirstOfSeveral.{next}
use Rattle.lnt_header.specs.Joins.{Each, Both, Several}
use Rattle.std.proofs.lemmas.Grind.{common_steps}

-- the first is not there
pub none_first : {X Y : Type 0} (P : X → List ℕ → Type 0) (Q : X → Y → List ℕ → Type 0) (bytes : List ℕ) → NoneSpelled P bytes
    → NoneSpelled (Both P Q) bytes
none_first P Q bytes none v spelling more t e = grind (arith, common_steps, append_assoc)

-- the first is there, and the second isn't
pub none_second : {X Y : Type 0} (P : X → List ℕ → Type 0) (Q : X → Y → List ℕ → Type 0) → IsCode P → (u : X) (x bytes middle : List ℕ)
    → P u x → bytes ≡ x ++ middle → NoneSpelled (Q u) middle → NoneSpelled (Both P Q) bytes
none_second P Q code u x bytes middle p whole none v spelling more t e = grind (arith, common_steps, append_assoc, same_rest)

-- ---- readers of a cursor

-- a cut field, whatever stands before it
pub cut_later : (prefix before left : List ℕ) → IsCutField before left → IsCutField (prefix ++ before) left
cut_later prefix before left (number size small short) = number size small short
cut_later prefix before left (text h) = text h
cut_later prefix before left (leb h) = leb h
cut_later prefix before left (block n spelling rest p e lt) = block n spelling rest p e lt
cut_later prefix before left (sized_block order size n spelling rest small p e lt) = sized_block order size n spelling rest small p e lt
cut_later prefix before left (operation n earlier spelling p e lt) =
    operation n (prefix ++ earlier) spelling p (ap (λ (z : List ℕ). prefix ++ z) e ∙ sym (append_assoc prefix earlier (0 ∷ spelling))) lt

-- no value of one kind, since there is none of another that each such value has
pub refuses_map : {X Y : Type 0} {IsSo : Reason → List ℕ → List ℕ → Type 0} (P : X → List ℕ → Type 0) (Q : Y → List ℕ → Type 0)
    (part : Y → X) (old : At) (fault : Fault)
    → ((y : Y) (x : List ℕ) → Q y x → P (part y) x) → Refuses IsSo P old fault → Refuses IsSo Q old fault
refuses_map P Q part old fault is r = grind (arith, common_steps)

pub reads_map : {X Y : Type 0} (P : X → List ℕ → Type 0) (Q : Y → List ℕ → Type 0) (v : X) (w : Y) (old new : At)
    → ((x : List ℕ) → P v x → Q w x) → Reads P v old new → Reads Q w old new
reads_map P Q v w old new is r = grind (arith, common_steps)

pub reads_both : {X Y : Type 0} (P : X → List ℕ → Type 0) (Q : Order → X → Y → List ℕ → Type 0) (u : X) (v : Y) (old middle new : At)
    → Reads P u old middle → Reads (Q middle.order u) v middle new → Reads (Both P (Q old.order)) (u, v) old new
reads_both P Q u v old middle new r s =
    let second : Q old.order u v s.spelling = subst (λ (o : Order). Q o u v s.spelling) r.order s.spelled in
    record {
      spelling = r.spelling ++ s.spelling;
      spelled = record { prefix = r.spelling; back = s.spelling; first = r.spelled; second = second; joined = refl };
      whole = r.whole ∙ ap (λ (z : List ℕ). r.spelling ++ z) s.whole ∙ sym (append_assoc r.spelling s.spelling new.rest);
      place = omega (arith, s.place, r.place, length-append r.spelling s.spelling);
      order = s.order ∙ r.order;
    }

-- ---- the first part that isn't there

pub first_refused : {X Y : Type 0} {OfFirst : Reason → List ℕ → List ℕ → Type 0} {OfSecond : X → Reason → List ℕ → List ℕ → Type 0}
    (P : X → List ℕ → Type 0) (Q : X → Y → List ℕ → Type 0) (old : At) (fault : Fault)
    → Refuses OfFirst P old fault → Refuses (FirstOf P OfFirst OfSecond) (Both P Q) old fault
first_refused P Q old fault r = grind (arith, common_steps, none_first)

pub second_refused : {X Y : Type 0} {OfFirst : Reason → List ℕ → List ℕ → Type 0} (OfSecond : Order → X → Reason → List ℕ → List ℕ → Type 0)
    (P : X → List ℕ → Type 0) (Q : Order → X → Y → List ℕ → Type 0) (u : X)
    (old middle : At) (fault : Fault) → IsCode P → Reads P u old middle → Refuses (OfSecond middle.order u) (Q middle.order u) middle fault
    → Refuses (FirstOf P OfFirst (OfSecond old.order)) (Both P (Q old.order)) old fault
second_refused OfSecond P Q u old middle fault code r s =
    let none : NoneSpelled (Q old.order u) middle.rest = subst (λ (o : Order). NoneSpelled (Q o u) middle.rest) r.order s.none in
    let so : OfSecond old.order u fault.reason s.before s.left = subst (λ (o : Order). OfSecond o u fault.reason s.before s.left) r.order
    s.reason in
    record {
      before = r.spelling ++ s.before;
      left = s.left;
      split = r.whole ∙ ap (λ (z : List ℕ). r.spelling ++ z) s.split ∙ sym (append_assoc r.spelling s.before s.left);
      place = omega (arith, s.place, r.place, length-append r.spelling s.before);
      reason = second u r.spelling s.before r.spelled refl so;
      none = none_second P (Q old.order) code u r.spelling old.rest middle.rest r.spelled r.whole none;
    }

-- ---- lists

pub each_push : {X : Type 0} (P : X → List ℕ → Type 0) (us : List X) (u : X) (x y : List ℕ) → Each P us x → P u y
    → Each P (us ++ u ∷ []) (x ++ y)
each_push P [] u x y p q = record {
  prefix = y;
  back = [];
  first = q;
  second = refl;
  joined = ap (λ (z : List ℕ). z ++ y) p ∙ sym (append-nil y);
}
each_push P (v ∷ us) u x y p q = record {
  prefix = p.prefix;
  back = p.back ++ y;
  first = p.first;
  second = each_push P us u p.back y p.second q;
  joined = ap (λ (z : List ℕ). z ++ y) p.joined ∙ append_assoc p.prefix p.back y;
}

pub reads_none : {X : Type 0} (P : X → List ℕ → Type 0) (at : At) → Reads (Each P) [] at at
reads_none P at = record { spelling = []; spelled = refl; whole = refl; place = sym (add-zero at.place); order = refl }

pub reads_more : {X : Type 0} (P : Order → X → List ℕ → Type 0) (us : List X) (u : X) (old middle new : At)
    → Reads (Each (P old.order)) us old middle → Reads (P middle.order) u middle new → Reads (Each (P old.order)) (us ++ u ∷ []) old new
reads_more P us u old middle new r s = grind (arith, common_steps, each_push, append_assoc, length-append)

-- no list goes on where no value stands
pub none_several : {X : Type 0} (P : X → List ℕ → Type 0) (n : ℕ) (us : List X) (x rest bytes : List ℕ) → IsCode P → Each P us x
    → length us < n → bytes ≡ x ++ rest → NoneSpelled P rest → NoneSpelled (Several n P) bytes
none_several P n [] x rest bytes code p lt whole none [] y more q e = omega (arith, q.0)
none_several P n [] x rest bytes code p lt whole none (v ∷ vs) y more q e =
    none v q.1.prefix (q.1.back ++ more) q.1.first
    (sym (append_assoc q.1.prefix q.1.back more) ∙ ap (λ (z : List ℕ). z ++ more) (sym q.1.joined) ∙ e ∙ whole
    ∙ ap (λ (z : List ℕ). z ++ rest) p)
none_several P n (u ∷ us) x rest bytes code p lt whole none [] y more q e = omega (arith, q.0)
none_several P zero (u ∷ us) x rest bytes code p lt whole none (v ∷ vs) y more q e = omega arith
none_several P (suc n) (u ∷ us) x rest bytes code p lt whole none (v ∷ vs) y more q e =
    let one = peel code v u y x more rest q.1 p (e ∙ whole) in
    none_several P n us p.back rest (p.back ++ rest) code p.second (omega arith) refl none vs q.1.back more (omega (arith, q.0), q.1.second)
    one.past

pub several_refused : {X : Type 0} (OfOne : Order → Reason → List ℕ → List ℕ → Type 0) (P : Order → X → List ℕ → Type 0) (n : ℕ)
    (us : List X) (old middle : At) (fault : Fault) → IsCode (P old.order)
    → Reads (Each (P old.order)) us old middle → length us < n → Refuses (OfOne middle.order) (P middle.order) middle fault
    → Refuses (FirstOfSeveral n (P old.order) (OfOne old.order)) (Several n (P old.order)) old fault
several_refused OfOne P n us old middle fault code r lt s =
    let none : NoneSpelled (P old.order) middle.rest = subst (λ (o : Order). NoneSpelled (P o) middle.rest) r.order s.none in
    let so : OfOne old.order fault.reason s.before s.left = subst (λ (o : Order). OfOne o fault.reason s.before s.left) r.order s.reason in
    record {
      before = r.spelling ++ s.before;
      left = s.left;
      split = r.whole ∙ ap (λ (z : List ℕ). r.spelling ++ z) s.split ∙ sym (append_assoc r.spelling s.before s.left);
      place = omega (arith, s.place, r.place, length-append r.spelling s.before);
      reason = next us r.spelling s.before lt r.spelled refl so;
      none = none_several (P old.order) n us r.spelling middle.rest old.rest code r.spelled lt r.whole none;
    }
