-- Operations that were read one after another.
use Rattle.std.proofs.Common.{◌≡◌, ℕ, ◌<◌, List, [], ◌∷◌, ◌++◌, length, refl, sym, ap, subst, ◌∙◌, append_assoc, add-zero, arith, true}
use Rattle.std.proofs.Common.{false, ◌⊎◌, inl, inr, true≢false}
use Rattle.std.proofs.lemmas.List.{nil_from_length, length-append, append-nil}
use Rattle.std.specs.List.{AllByRecursion}
use Rattle.lnt_wire.specs.Reading.{At, Refuses}
use Rattle.lnt_wire.specs.Bytes.{NoneSpelled, IsCode}
use Rattle.lnt_wire.specs.declared.fault.Fault.{Fault}
use Rattle.lnt_wire.proofs.CodeLaws.{peel}
use Rattle.lnt_header.specs.declared.numbers.NumberParts.{NumberParts}
use Rattle.lnt_header.specs.declared.op.Op.{Op}
use Rattle.lnt_header.specs.declared.op.OpView.{OpView}
use Rattle.lnt_header.specs.HeaderRules.{AreHeaderNumbers}
use Rattle.lnt_header.specs.Joins.{Each}
use Rattle.lnt_header.proofs.ReaderLaws.{each_push}
use Rattle.lnt_header.specs.OpRules.{Admits, StandsFor}
use Rattle.lnt_ops.proofs.FaultLemmas.{op_fault, op_later}
use Rattle.lnt_ops.proofs.OpLaws.{op_code, op_is_some}
use Rattle.lnt_ops.proofs.ViewLaws.{same_op}
use Rattle.lnt_ops.specs.OpBytes.{OpBytes}
use Rattle.lnt_ops.specs.OpFaults.{IsFirstFault}
use Rattle.lnt_ops.specs.OpSteps.{GivesOp}
use Rattle.lnt_ops.specs.Programs.{BrokenProgram}
use Rattle.lnt_ops.specs.Stepping.{StandsForSome, OpsSoFar}
use Rattle.lnt_ops.specs.Walks.{Walk, Ends, GivesOperation, Fails}
use Rattle.std.proofs.lemmas.Grind.{common_steps}

-- no list fills the bytes, where after some values no other follows
pub none_filled : {X : Type 0} (P : X → List ℕ → Type 0) (us : List X) (x rest bytes : List ℕ) → IsCode P → Each P us x → 0 < length rest
    → bytes ≡ x ++ rest → NoneSpelled P rest → (vs : List X) → Each P vs bytes → ⊥
none_filled P us x rest bytes code p some whole none [] q = omega (arith, some, ap length whole, ap length q, length-append x rest)
none_filled P [] x rest bytes code p some whole none (v ∷ vs) q =
    none v q.prefix q.back q.first (sym q.joined ∙ whole ∙ ap (λ (z : List ℕ). z ++ rest) p)
none_filled P (u ∷ us) x rest bytes code p some whole none (v ∷ vs) q =
    let one = peel code v u bytes x [] rest q p (append-nil bytes ∙ whole) in
    none_filled P us p.back rest q.back code p.second some (sym (append-nil q.back) ∙ one.past) none vs q.second

all_more : (h : NumberParts) (us : List Op) (u : Op) → AllByRecursion (Admits h) us → Admits h u → AllByRecursion (Admits h) (us ++ u ∷ [])
all_more h [] u all is = (is, tt)
all_more h (v ∷ us) u all is = (all.0, all_more h us u all.1 is)

pub ops_none : (h : NumberParts) (place : ℕ) (program : List ℕ) (at : At) → at.place ≡ place → at.rest ≡ program → at.order ≡ h.order
    → OpsSoFar h place program [] at
ops_none h place program at placed rest order =
    record { prefix = []; spelled = refl; admitted = tt; whole = sym rest; place_is = placed ∙ sym (add-zero place); order_is = order }

pub ops_more : (h : NumberParts) (place : ℕ) (program : List ℕ) (ops : List Op) (op : Op) (view : OpView) (at new : At)
    → OpsSoFar h place program ops at → GivesOp h view at new → StandsFor view op → OpsSoFar h place program (ops ++ op ∷ []) new
ops_more h place program ops op view at new so g stands =
    let r = g.reads in
    let same : g.op ≡ op = same_op view g.op op g.stands stands in
    record {
      prefix = so.prefix ++ r.spelling;
      spelled = each_push (OpBytes h) ops op so.prefix r.spelling so.spelled (subst (λ (o : Op). OpBytes h o r.spelling) same r.spelled);
      admitted = all_more h ops op so.admitted (subst (Admits h) same g.admitted);
      whole = so.whole ∙ ap (λ (z : List ℕ). so.prefix ++ z) r.whole ∙ sym (append_assoc so.prefix r.spelling new.rest);
      place_is = omega (arith, r.place, so.place_is, length-append so.prefix r.spelling);
      order_is = r.order ∙ so.order_is;
    }

pub is_view : (h : NumberParts) (view : OpView) (at new : At) → GivesOp h view at new → StandsForSome view
is_view h view at new g = record { op = g.op; stands = g.stands }

-- each operation shortens the rest
pub op_long : (h : NumberParts) (view : OpView) (at new : At) → GivesOp h view at new → length new.rest < length at.rest
op_long h view at new g =
    let r = g.reads in omega (arith, op_is_some h g.op r.spelling r.spelled, ap length r.whole, length-append r.spelling new.rest)

pub ops_spelled : (h : NumberParts) (place : ℕ) (program : List ℕ) (ops : List Op) (at : At) → OpsSoFar h place program ops at
    → length at.rest ≡ 0 → Each (OpBytes h) ops program
ops_spelled h place program ops at so none = grind (arith, common_steps, nil_from_length, append-nil)

pub ops_admitted : (h : NumberParts) (place : ℕ) (program : List ℕ) (ops : List Op) (at : At) → OpsSoFar h place program ops at
    → AllByRecursion (Admits h) ops
ops_admitted h place program ops at so = so.admitted

pub ops_broken : (h : NumberParts) (place : ℕ) (program : List ℕ) (ops : List Op) (at : At) (fault : Fault) → AreHeaderNumbers h
    → OpsSoFar h place program ops at → 0 < length at.rest
    → Refuses (IsFirstFault h) (OpBytes h) at fault → BrokenProgram h place program fault
ops_broken h place program ops at fault header so some r = record {
  before = so.prefix ++ r.before;
  left = r.left;
  split = so.whole ∙ ap (λ (z : List ℕ). so.prefix ++ z) r.split ∙ sym (append_assoc so.prefix r.before r.left);
  place_is = omega (arith, r.place, so.place_is, length-append so.prefix r.before);
  reason = op_later h.address_size fault.reason so.prefix r.before r.left (op_fault h fault.reason r.before r.left r.reason);
  first = record { ops = ops; prefix = so.prefix; fields = r.before; sound = so.spelled; joined = refl; fault = r.reason };
  none = none_filled (OpBytes h) ops so.prefix at.rest program (op_code h header) so.spelled some so.whole r.none;
}

-- ---- walks

pub walk_more : (h : NumberParts) (place : ℕ) (program : List ℕ) (ops : List Op) (op : Op) (view : OpView) (old new : Walk)
    → old.numbers ≡ h
    → OpsSoFar h place program ops old.at → GivesOperation view old new → StandsFor view op
    → (new.numbers ≡ h) × (new.failed ≡ false) × OpsSoFar h place program (ops ++ op ∷ []) new.at
walk_more h place program ops op view old new same so s stands =
    let gives : GivesOp h view old.at new.at = subst (λ (g : NumberParts). GivesOp g view old.at new.at) same s.gives in
    (s.header_is ∙ same, s.goes_on, ops_more h place program ops op view old.at new.at so gives stands)

pub walk_broken : (h : NumberParts) (place : ℕ) (program : List ℕ) (ops : List Op) (fault : Fault) (old new : Walk) → AreHeaderNumbers h
    → old.numbers ≡ h → OpsSoFar h place program ops old.at → Fails fault old new → BrokenProgram h place program fault
walk_broken h place program ops fault old new header same so f =
    let refuses : Refuses (IsFirstFault h) (OpBytes h) old.at fault = subst
    (λ (g : NumberParts). Refuses (IsFirstFault g) (OpBytes g) old.at fault) same f.first in
    ops_broken h place program ops old.at fault header so f.some refuses

at_end : (walk : Walk) → walk.failed ≡ false → (walk.failed ≡ true) ⊎ (length walk.at.rest ≡ 0) → length walk.at.rest ≡ 0
at_end walk going (inl failed) = absurd (true≢false (sym failed ∙ going))
at_end walk going (inr empty) = empty

pub walk_done : (h : NumberParts) (place : ℕ) (program : List ℕ) (ops : List Op) (old new : Walk) → old.failed ≡ false
    → OpsSoFar h place program ops old.at → Ends old new → Each (OpBytes h) ops program
walk_done h place program ops old new going so e = ops_spelled h place program ops old.at so (at_end old going e.ended)

-- The lemmas of `read_ops`.
pub ruleset read_ops_lemmas = (ops_none, ops_more, ops_spelled, ops_admitted, walk_done, is_view)
