-- A view stands for one operation.
use Rattle.std.proofs.Common.{◌≡◌, ℕ, ◌<◌, List, [], ◌∷◌, length, refl, sym, ap, subst, ◌∙◌, arith}
use Rattle.lnt_wire.proofs.CodeLaws.{unsigned_code}
use Rattle.lnt_wire.specs.Leb128.{IsLeb, UnsignedLeb}
use Rattle.lnt_header.specs.declared.op.Op.{Op}
use Rattle.lnt_header.specs.declared.op.Op.TheVariants as ops
use Rattle.lnt_header.specs.declared.op.OpView.{OpView}
use Rattle.lnt_header.specs.declared.op.OpView.TheVariants as views
use Rattle.lnt_header.specs.declared.op.Operands.{Operands}
use Rattle.lnt_header.specs.declared.op.Operands.TheVariants.{Spelled, Listed}
use Rattle.lnt_header.specs.OpRules.{AreOperands, Coding, coding, coding_of, op_of, StandsFor}
use Rattle.lnt_ops.proofs.OpLaws.{same_whole}

some_leb : (bytes : List ℕ) → IsLeb bytes → 0 < length bytes
some_leb [] p = absurd p
some_leb (b ∷ bytes) p = omega arith

-- each number has some byte
pub leb_is_some : (n : ℕ) (bytes : List ℕ) → UnsignedLeb n bytes → 0 < length bytes
leb_is_some n bytes p = some_leb bytes p.shape

same_operands : (operands : Operands) (us vs : List ℕ) → AreOperands operands us → AreOperands operands vs → us ≡ vs
same_operands (Spelled bytes) us vs p q = same_whole unsigned_code leb_is_some us vs bytes.now bytes.now p q refl
same_operands (Listed listed) us vs p q = sym p ∙ q

-- the operands of an unknown standard operation; of others none
abbrev pub operands_of : Op → List ℕ
operands_of (ops.UnknownStandard k operands) = operands
operands_of op = []

pub is_op_of : (view : OpView) (op : Op) → StandsFor view op → op ≡ op_of view (operands_of op)
is_op_of (views.UnknownStandard j spelled) (ops.UnknownStandard k operands) p = ap (λ (i : ℕ). ops.UnknownStandard i operands) (sym p.0)
is_op_of (views.UnknownExtended c bytes) (ops.UnknownExtended d operand) p =
    ap (λ (i : ℕ). ops.UnknownExtended i operand) (sym p.0) ∙ ap (ops.UnknownExtended c) (sym p.1)
is_op_of view (ops.Special d) p = grind arith
is_op_of view op p = grind arith

-- whether the operands of an unknown standard operation are asked for
abbrev pub IsListed : Coding → Type 0
IsListed (Coding.unknown_standard k operands) = Unit {0}
IsListed c = ⊥

coded_alike : (view : OpView) (operands : List ℕ) → (IsListed (coding_of view) → ⊥) → coding (op_of view operands) ≡ coding_of view
coded_alike (views.UnknownStandard j spelled) operands known = absurd (known tt)
coded_alike view operands known = refl

-- how an operation is coded that the view stands for
pub is_coded : (view : OpView) (op : Op) (c : Coding) → StandsFor view op → coding_of view ≡ c → (IsListed c → ⊥) → coding op ≡ c
is_coded view op c stands e known =
    ap coding (is_op_of view op stands) ∙ coded_alike view (operands_of op) (λ listed. known (subst IsListed e listed)) ∙ e

same_listed : (view : OpView) (u v : Op) → StandsFor view u → StandsFor view v → op_of view (operands_of u) ≡ op_of view (operands_of v)
same_listed (views.UnknownStandard i spelled) (ops.UnknownStandard j us) (ops.UnknownStandard k vs) p q =
    ap (ops.UnknownStandard i) (same_operands spelled us vs p.1 q.1)
same_listed (views.UnknownStandard i spelled) (ops.UnknownStandard j us) v p q = absurd q
same_listed (views.UnknownStandard i spelled) u v p q = absurd p
same_listed view u v p q = refl

pub same_op : (view : OpView) (u v : Op) → StandsFor view u → StandsFor view v → u ≡ v
same_op view u v p q = is_op_of view u p ∙ same_listed view u v p q ∙ sym (is_op_of view v q)
