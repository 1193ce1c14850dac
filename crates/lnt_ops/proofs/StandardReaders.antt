-- The operands of standard operations.
use Rattle.std.proofs.Common.{◌≡◌, ℕ, ◌<◌, List, [], ◌∷◌, refl, sym, ap, ◌∙◌, add-zero, rules, arith, ℤ}
use Rattle.lnt_wire.specs.Reading.{At, Reads, RefusesField, IsCutShort}
use Rattle.lnt_wire.specs.declared.fault.Fault.{Fault}
use Rattle.lnt_wire.specs.Leb128.{UnsignedLeb, SignedLeb, IsLargeUnsigned, IsLargeSigned, IsLebFault}
use Rattle.lnt_wire.specs.Numbers.{NumberBytes}
use Rattle.lnt_header.specs.declared.numbers.NumberParts.{NumberParts}
use Rattle.lnt_header.specs.declared.op.OpView.{OpView}
use Rattle.lnt_header.specs.declared.op.OpView.TheVariants as views
use Rattle.lnt_header.specs.OpRules.{Admits, coding_of, following, op_of, Operand, StandsFor}
use Rattle.lnt_header.specs.OpRules.Coding.{standard}
use Rattle.lnt_header.specs.OpRules.Following.{one_signed, one_unsigned, two_bytes}
use Rattle.lnt_header.specs.OpRules.Operand.{bare, unsigned, signed, half}
use Rattle.lnt_header.proofs.ReaderLaws.{reads_map}
use Rattle.lnt_ops.specs.OpBytes.{OpBytes, OperandBytes, Standard}
use Rattle.lnt_ops.specs.OpFaults.{IsFirstFault}
use Rattle.lnt_ops.specs.OpFaults.IsFirstFault.{unsigned_operand, signed_operand, fixed_operand}
use Rattle.lnt_ops.specs.OpSteps.{GivesAfter, RefusesAfter}
use Rattle.std.proofs.lemmas.Grind.{common_steps}

pub after_opcode : (h : NumberParts) (k : ℕ) (Operand : List ℕ → Type 0) (y : List ℕ) → k < h.opcode_base → Operand y
    → Standard h k Operand (k ∷ y)
after_opcode h k Operand y lt p = (lt, record { prefix = k ∷ []; back = y; first = refl; second = p; joined = refl })

-- ---- operations that are read

-- the view of a known standard operation, whose opcode has this operand
pub record KnownView (h : NumberParts) (view : OpView) (k : ℕ) (operand : Operand) : Type 0 where
  pub stands : StandsFor view (op_of view [])
  pub admitted : Admits h (op_of view [])
  pub spelled : (y : List ℕ) → OperandBytes h operand y → OpBytes h (op_of view []) (k ∷ y)

stands_known : (view : OpView) (k : ℕ) (operand : Operand) → coding_of view ≡ standard k operand → StandsFor view (op_of view [])
stands_known (views.UnknownStandard j operands) k operand e = absurd cc
stands_known (views.UnknownExtended code bytes) k operand e = (refl, refl)
stands_known view k operand e = search rules

pub known_view : (h : NumberParts) (view : OpView) (j k : ℕ) (operand : Operand) → coding_of view ≡ standard j operand → k ≡ j
    → k < h.opcode_base → KnownView h view k operand
known_view h view j k operand e same lt = grind (arith, common_steps, stands_known, after_opcode)

gives_known : {X : Type 0} (P : X → List ℕ → Type 0) (v : X) (h : NumberParts) (view : OpView) (k : ℕ) (operand : Operand) (old new : At)
    → KnownView h view k operand → ((y : List ℕ) → P v y → OperandBytes h operand y) → Reads P v old new → GivesAfter h k view old new
gives_known P v h view k operand old new known is r = grind (arith, common_steps, reads_map)

pub gives_bare : (h : NumberParts) (view : OpView) (j k : ℕ) (at : At) → coding_of view ≡ standard j bare → k ≡ j → k < h.opcode_base
    → GivesAfter h k view at at
gives_bare h view j k at e same lt = grind (arith, common_steps, gives_known, known_view, add-zero)

pub gives_unsigned : (h : NumberParts) (view : OpView) (j k n : ℕ) (old new : At) → coding_of view ≡ standard j (unsigned n) → k ≡ j
    → k < h.opcode_base → Reads UnsignedLeb n old new → GivesAfter h k view old new
gives_unsigned h view j k n old new e same lt r =
    gives_known UnsignedLeb n h view k (unsigned n) old new (known_view h view j k (unsigned n) e same lt) (λ y p. p) r

pub gives_signed : (h : NumberParts) (view : OpView) (j k : ℕ) (z : ℤ) (old new : At) → coding_of view ≡ standard j (signed z) → k ≡ j
    → k < h.opcode_base → Reads SignedLeb z old new → GivesAfter h k view old new
gives_signed h view j k z old new e same lt r =
    gives_known SignedLeb z h view k (signed z) old new (known_view h view j k (signed z) e same lt) (λ y p. p) r

pub gives_half : (h : NumberParts) (view : OpView) (j k n : ℕ) (old new : At) → coding_of view ≡ standard j (half n) → k ≡ j
    → k < h.opcode_base → old.order ≡ h.order → Reads (NumberBytes old.order 2) n old new → GivesAfter h k view old new
gives_half h view j k n old new e same lt order r = grind (arith, common_steps, gives_known, known_view)

-- ---- operands that are refused

-- a fault at the place after the opcode
pub refused_at : (h : NumberParts) (k : ℕ) (old : At) (fault : Fault) → fault.place ≡ old.place
    → IsFirstFault h fault.reason (k ∷ []) old.rest → RefusesAfter h k old fault
refused_at h k old fault place so =
    record { before = []; left = old.rest; split = refl; place = place ∙ sym (add-zero old.place); reason = so }

pub refuses_unsigned : (h : NumberParts) (j k : ℕ) (old : At) (fault : Fault) → k ≡ j → following j ≡ one_unsigned → k < h.opcode_base
    → RefusesField (IsLebFault IsLargeUnsigned) UnsignedLeb old fault → RefusesAfter h k old fault
refuses_unsigned h j k old fault same takes lt r =
    refused_at h k old fault r.place (unsigned_operand k (ap following same ∙ takes) lt refl r.reason)

pub refuses_signed : (h : NumberParts) (j k : ℕ) (old : At) (fault : Fault) → k ≡ j → following j ≡ one_signed → k < h.opcode_base
    → RefusesField (IsLebFault IsLargeSigned) SignedLeb old fault → RefusesAfter h k old fault
refuses_signed h j k old fault same takes lt r =
    refused_at h k old fault r.place (signed_operand k (ap following same ∙ takes) lt refl r.reason)

pub refuses_half : (h : NumberParts) (j k : ℕ) (old : At) (fault : Fault) → k ≡ j → following j ≡ two_bytes → k < h.opcode_base
    → RefusesField (IsCutShort 2) (NumberBytes old.order 2) old fault → RefusesAfter h k old fault
refuses_half h j k old fault same takes lt r =
    refused_at h k old fault r.place (fixed_operand k r.reason.reason_is (ap following same ∙ takes) lt refl r.reason.short)

-- what is read after each known standard opcode
pub ruleset standard_reads = (gives_bare, gives_unsigned, gives_signed, gives_half, refuses_unsigned, refuses_signed, refuses_half)
