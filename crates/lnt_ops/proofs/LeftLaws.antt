-- Walks over a program whose operations are known, from some place on.
use Rattle.std.proofs.Common.{◌≡◌, ℕ, List, [], ◌∷◌, ◌++◌, length, refl, sym, ap, subst, ◌∙◌, arith, true, false, ◌⊎◌, inl, inr, drop}
use Rattle.std.proofs.Common.{true≢false, append-nil, length-append}
use Rattle.std.proofs.Math.Seq.{drop-append_seam}
use Rattle.lnt_wire.proofs.CodeLaws.{peel}
use Rattle.lnt_wire.proofs.LengthLaws.{same_rest}
use Rattle.lnt_wire.specs.declared.fault.Fault.{Fault}
use Rattle.lnt_header.specs.declared.numbers.NumberParts.{NumberParts}
use Rattle.lnt_header.specs.declared.op.Op.{Op}
use Rattle.lnt_header.specs.declared.op.OpView.{OpView}
use Rattle.lnt_header.specs.HeaderRules.{AreHeaderNumbers}
use Rattle.lnt_header.specs.Joins.{Each}
use Rattle.lnt_header.specs.OpRules.{StandsFor}
use Rattle.lnt_ops.proofs.OpLaws.{op_code, op_is_some}
use Rattle.lnt_ops.specs.Walks.{OperationsAreLeft, IsPlace, Walk, Ends, GivesOperation, Fails}
use Rattle.lnt_ops.specs.OpBytes.{OpBytes}
use Rattle.lnt_ops.specs.OpSteps.{GivesOp}
use Rattle.std.proofs.lemmas.Grind.{common_steps}

-- The view stands for the first of the operations, and the others are left.
pub record IsNextOf (h : NumberParts) (later : List Op) (view : OpView) (new : Walk) : Type 0 where
  pub op : Op
  pub others : List Op
  pub later_is : later ≡ op ∷ others
  pub stands : StandsFor view op
  pub left : OperationsAreLeft h others new

-- the next operation
pub left_next : (h : NumberParts) (later : List Op) (view : OpView) (old new : Walk) → AreHeaderNumbers h → OperationsAreLeft h later old
    → GivesOperation view old new → IsNextOf h later view new
left_next h [] view old new header left s =
    let r = s.gives.reads in
    absurd (omega (
      arith,
      ap length left.spelled,
      ap length r.whole,
      length-append r.spelling new.at.rest,
      op_is_some old.numbers s.gives.op
          r.spelling r.spelled,
    ))
left_next h (op ∷ later) view old new header left s =
    let gives : GivesOp h view old.at new.at = subst (λ (g : NumberParts). GivesOp g view old.at new.at) left.header_is s.gives in
    let r = gives.reads in
    let t = left.spelled in
    let both = sym t.joined ∙ r.whole in
    let found = (op_code h header).one op gives.op t.prefix r.spelling t.back new.at.rest t.first r.spelled both in
    let rest : t.back ≡ new.at.rest = same_rest t.prefix r.spelling t.back new.at.rest found.1 both in
    record {
      op = op;
      others = later;
      later_is = refl;
      stands = subst (StandsFor view) (sym found.0) gives.stands;
      left = record { header_is = s.header_is ∙ left.header_is; going = s.goes_on; spelled = subst (Each (OpBytes h) later) rest t.second };
    }

-- none is left
pub left_ends : (h : NumberParts) (later : List Op) (old new : Walk) → OperationsAreLeft h later old → Ends old new → later ≡ []
left_ends h [] old new left e = refl
left_ends h (op ∷ later) old new left e = absurd (by_end e.ended)
  where
    by_end : (old.failed ≡ true) ⊎ (length old.at.rest ≡ 0) → ⊥
    by_end (inl failed) = true≢false (sym failed ∙ left.going)
    by_end (inr empty) = let t = left.spelled in omega
        (arith, empty, ap length t.joined, length-append t.prefix t.back, op_is_some h op t.prefix t.first)

-- none is refused
pub left_fails : (h : NumberParts) (later : List Op) (fault : Fault) (old new : Walk) → OperationsAreLeft h later old
    → Fails fault old new → ⊥
left_fails h [] fault old new left f = omega (arith, f.some, ap length left.spelled)
left_fails h (op ∷ later) fault old new left f =
    let t = left.spelled in
    f.refuses.none op t.prefix t.back (subst (λ (g : NumberParts). OpBytes g op t.prefix) (sym left.header_is) t.first) (sym t.joined)

-- the operations after some that a prefix of the program spells
pub each_after : (h : NumberParts) (earlier all : List Op) (prefix rest program : List ℕ) → AreHeaderNumbers h
    → Each (OpBytes h) earlier prefix
    → Each (OpBytes h) all program → program ≡ prefix ++ rest → (later : List Op) × (all ≡ earlier ++ later) × Each (OpBytes h) later rest
each_after h [] all prefix rest program header p q whole =
    (all, refl, subst (Each (OpBytes h) all) (whole ∙ ap (λ (z : List ℕ). z ++ rest) p) q)
each_after h (op ∷ earlier) [] prefix rest program header p q whole =
    absurd (omega (
      arith,
      ap length q,
      ap length whole,
      length-append prefix rest,
      ap length p.joined,
      length-append p.prefix p.back,
      op_is_some h op p.prefix p.first,
    ))
each_after h (op ∷ earlier) (other ∷ all) prefix rest program header p q whole =
    let one = peel (op_code h header) other op program prefix [] rest q p (append-nil program ∙ whole) in
    let more = each_after h earlier all p.back rest q.back header p.second q.second (sym (append-nil q.back) ∙ one.past) in
    (more.0, cc (one.value, more.1), more.2)

-- a place stays one, once it is known what the whole program is
pub place_found : (h : NumberParts) (earlier all : List Op) (prefix rest program : List ℕ) → AreHeaderNumbers h
    → Each (OpBytes h) earlier prefix
    → Each (OpBytes h) all program → program ≡ prefix ++ rest
    → (later : List Op) × (all ≡ earlier ++ later) × IsPlace h program earlier later (length prefix)
place_found h earlier all prefix rest program header p q whole = grind (arith, common_steps, each_after)

-- a walk that begins at a place has the later operations before it
pub left_at : (h : NumberParts) (program : List ℕ) (earlier later : List Op) (place : ℕ) (walk : Walk)
    → IsPlace h program earlier later place
    → walk.numbers ≡ h → walk.failed ≡ false → walk.at.rest ≡ drop place program → OperationsAreLeft h later walk
left_at h program earlier later place walk is header going rest = grind (arith, common_steps, drop-append_seam)
