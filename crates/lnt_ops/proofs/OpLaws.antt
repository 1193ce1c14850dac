-- Under one header an operation has one value for its bytes, and none begins another.
use Rattle.std.proofs.Common.{◌≡◌, ℕ, ◌+◌, ◌*◌, ◌^◌, ◌<◌, ◌≤◌, inl, inr, List, [], ◌∷◌, ◌++◌, length, refl, sym, ap, subst, ◌∙◌}
use Rattle.std.proofs.Common.{append_assoc, arith, length-append, append-nil, ℤ}
use Rattle.std.specs.List.{AllByRecursion}
use Rattle.lnt_wire.specs.Bytes.{Exactly, IsCode}
use Rattle.lnt_wire.specs.Leb128.{UnsignedLeb}
use Rattle.lnt_wire.proofs.CodeLaws.{same_leb, unsigned_code, signed_code, number_code, peel, same_join}
use Rattle.lnt_wire.proofs.LengthLaws.{IsWidth, width_2, width_4, width_8, same_prefix, same_rest}
use Rattle.lnt_header.specs.declared.numbers.NumberParts.{NumberParts}
use Rattle.lnt_header.specs.declared.op.Op.{Op}
use Rattle.lnt_header.specs.declared.op.Op.TheVariants.{Special}
use Rattle.lnt_header.specs.HeaderRules.{IsAddressSize, AreHeaderNumbers}
use Rattle.lnt_header.specs.Joins.{Each}
use Rattle.lnt_header.proofs.ListLaws.{same_each}
use Rattle.lnt_header.proofs.ByteLaws.{byte_code}
use Rattle.lnt_header.specs.OpRules.{Admits, AdmitsCoding, Coding, coding, Following, following, Operand, standard_length, taken_by}
use Rattle.lnt_header.specs.OpRules.Following.{nothing_more, one_signed, one_unsigned, two_bytes}
use Rattle.lnt_header.specs.OpRules.Taken.{takes_address, takes_nothing, takes_number}
use Rattle.lnt_ops.specs.Laws.{OneProgram}
use Rattle.lnt_ops.specs.OpBytes.{CodingBytes, Standard, Extended, OpBytes, OperandBytes}
use Rattle.lnt_ops.specs.Spelled.{FitsCoding, FitsOp, FitsOperand}
use Rattle.std.proofs.lemmas.Grind.{common_steps}

-- ---- what follows an opcode, and a code

-- what follows a standard opcode with this operand
abbrev pub follows : Operand → Following
follows Operand.bare = nothing_more
follows (Operand.unsigned n) = one_unsigned
follows (Operand.signed z) = one_signed
follows (Operand.half n) = two_bytes

-- The opcode or the code takes the operand that it is coded with.
abbrev pub TakesIts : Coding → Type 0
TakesIts (Coding.standard k operand) = following k ≡ follows operand
TakesIts (Coding.extended code) = taken_by code ≡ takes_nothing
TakesIts (Coding.extended_number code n) = taken_by code ≡ takes_number
TakesIts (Coding.extended_address code address) = taken_by code ≡ takes_address
TakesIts c = c ≡ c

pub takes_its : (op : Op) → TakesIts (coding op)
takes_its (Special c) = refl
takes_its op = refl

-- ---- which operation it is

-- a number of each opcode: 0 of special ones, odd numbers of standard ones, even ones of extended ones
abbrev pub tag_of : Coding → ℕ
tag_of (Coding.special c) = 0
tag_of (Coding.standard k operand) = 2 * k + 1
tag_of (Coding.unknown_standard k operands) = 2 * k + 1
tag_of (Coding.extended code) = 2 * code + 2
tag_of (Coding.extended_number code n) = 2 * code + 2
tag_of (Coding.extended_address code address) = 2 * code + 2
tag_of (Coding.unknown_extended code operand) = 2 * code + 2

abbrev pub tag : Op → ℕ
tag op = tag_of (coding op)

-- what the first bytes of an operation say of its kind
data Shape (opcode_base t : ℕ) (x : List ℕ) : Type 0 where
  special : (c : ℕ) → t ≡ 0 → opcode_base ≤ c → x ≡ c ∷ [] → Shape opcode_base t x
  standard : (k : ℕ) (operand : List ℕ) → t ≡ 2 * k + 1 → 0 < k → k < opcode_base → x ≡ k ∷ operand → Shape opcode_base t x
  extended : (code : ℕ) (operand spelling : List ℕ) → t ≡ 2 * code + 2 → UnsignedLeb (length (code ∷ operand)) spelling
      → x ≡ 0 ∷ (spelling ++ (code ∷ operand)) → Shape opcode_base t x

standard_shape : (h : NumberParts) (k t : ℕ) (Operand : List ℕ → Type 0) (x : List ℕ) → t ≡ 2 * k + 1 → 0 < k → Standard h k Operand x
    → Shape h.opcode_base t x
standard_shape h k t Operand x e positive p = standard k p.1.back e positive p.0 (p.1.joined ∙ ap (λ (z : List ℕ). z ++ p.1.back) p.1.first)

-- the length of an extended operation, and its operand
pub record ExtendedParts (code : ℕ) (Operand : List ℕ → Type 0) (x : List ℕ) : Type 0 where
  pub spelling : List ℕ
  pub operand : List ℕ
  pub spelled : UnsignedLeb (length (code ∷ operand)) spelling
  pub is : Operand operand
  pub joined : x ≡ 0 ∷ (spelling ++ (code ∷ operand))

pub extended_parts : (code : ℕ) (Operand : List ℕ → Type 0) (x : List ℕ) → Extended code Operand x → ExtendedParts code Operand x
extended_parts code Operand x p = grind (arith, common_steps)

extended_shape : (h : NumberParts) (code t : ℕ) (Operand : List ℕ → Type 0) (x : List ℕ) → t ≡ 2 * code + 2 → Extended code Operand x
    → Shape h.opcode_base t x
extended_shape h code t Operand x e p =
    let q = extended_parts code Operand x p in extended code q.operand q.spelling e q.spelled q.joined

-- no standard opcode is 0
abbrev IsPositive : Coding → Type 0
IsPositive (Coding.standard k operand) = 0 < k
IsPositive c = 0 < 1

positive : (op : Op) → IsPositive (coding op)
positive (Special c) = omega arith
positive op = omega arith

coding_shape : (h : NumberParts) (c : Coding) (x : List ℕ) → IsPositive c → CodingBytes h c x → Shape h.opcode_base (tag_of c) x
coding_shape h (Coding.special c) x some p = special c refl p.0 p.2
coding_shape h (Coding.standard k operand) x some p = standard_shape h k (2 * k + 1) _ x refl some p
coding_shape h (Coding.unknown_standard k operands) x some p = standard_shape h k (2 * k + 1) _ x refl (omega (arith, p.0)) p.2
coding_shape h (Coding.extended code) x some p = extended_shape h code (2 * code + 2) _ x refl p
coding_shape h (Coding.extended_number code n) x some p = extended_shape h code (2 * code + 2) _ x refl p
coding_shape h (Coding.extended_address code address) x some p = extended_shape h code (2 * code + 2) _ x refl p
coding_shape h (Coding.unknown_extended code operand) x some p = extended_shape h code (2 * code + 2) _ x refl p.2

shape_of : (h : NumberParts) (op : Op) (x : List ℕ) → OpBytes h op x → Shape h.opcode_base (tag op) x
shape_of h op x p = coding_shape h (coding op) x (positive op) p

-- the same first bytes say the same
heads_of : (a b : ℕ) (x y u v r s : List ℕ) → x ≡ a ∷ u → y ≡ b ∷ v → x ++ r ≡ y ++ s → (a ≡ b) × (u ++ r ≡ v ++ s)
heads_of a b x y u v r s p q e = grind (arith, common_steps)

same_shape : (opcode_base t t' : ℕ) (x y r s : List ℕ) → 0 < opcode_base → Shape opcode_base t x → Shape opcode_base t' y → x ++ r ≡ y ++ s
    → t ≡ t'
same_shape base t t' x y r s pos (special c tag le p) (special c' tag' le' q) e = omega arith
same_shape base t t' x y r s pos (special c tag le p) (standard k u tag' some lt q) e =
    let h = heads_of c k x y [] u r s p q e in absurd (omega (arith, h.0))
same_shape base t t' x y r s pos (special c tag le p) (extended code u l tag' leb q) e =
    let h = heads_of c 0 x y [] (l ++ (code ∷ u)) r s p q e in absurd (omega (arith, h.0))
same_shape base t t' x y r s pos (standard k u tag some lt p) (special c tag' le q) e =
    let h = heads_of k c x y u [] r s p q e in absurd (omega (arith, h.0))
same_shape base t t' x y r s pos (standard k u tag some lt p) (standard k' u' tag' some' lt' q) e =
    let h = heads_of k k' x y u u' r s p q e in omega (arith, h.0)
same_shape base t t' x y r s pos (standard k u tag some lt p) (extended code u' l tag' leb q) e =
    let h = heads_of k 0 x y u (l ++ (code ∷ u')) r s p q e in absurd (omega (arith, h.0))
same_shape base t t' x y r s pos (extended code u l tag leb p) (special c tag' le q) e =
    let h = heads_of 0 c x y (l ++ (code ∷ u)) [] r s p q e in absurd (omega (arith, h.0))
same_shape base t t' x y r s pos (extended code u l tag leb p) (standard k u' tag' some lt q) e =
    let h = heads_of 0 k x y (l ++ (code ∷ u)) u' r s p q e in absurd (omega (arith, h.0))
same_shape base t t' x y r s pos (extended code u l tag leb p) (extended code' u' l' tag' leb' q) e =
    let h = heads_of 0 0 x y (l ++ (code ∷ u)) (l' ++ (code' ∷ u')) r s p q e in
    let all : l ++ ((code ∷ u) ++ r) ≡ l' ++ ((code' ∷ u') ++ s) = sym (append_assoc l (code ∷ u) r) ∙ h.1
    ∙ append_assoc l' (code' ∷ u') s in
    let spelling : l ≡ l' = same_leb l l' ((code ∷ u) ++ r) ((code' ∷ u') ++ s) leb.shape leb'.shape all in
    let past : (code ∷ u) ++ r ≡ (code' ∷ u') ++ s = same_rest l l' ((code ∷ u) ++ r) ((code' ∷ u') ++ s) spelling all in
    let codes : code ≡ code' = cc in
    omega arith

pub same_tag : (h : NumberParts) (u v : Op) (x y r s : List ℕ) → 0 < h.opcode_base → OpBytes h u x → OpBytes h v y → x ++ r ≡ y ++ s
    → tag u ≡ tag v
same_tag h u v x y r s pos p q e = same_shape h.opcode_base (tag u) (tag v) x y r s pos (shape_of h u x p) (shape_of h v y q) e

-- ---- its operand

-- a standard operation with an operand
same_operand : {X : Type 0} {P : X → List ℕ → Type 0} → IsCode P → (make : ℕ → X → Coding) (h : NumberParts) (j k : ℕ) (m n : X)
    (x y r s : List ℕ) → Standard h j (P m) x → Standard h k (P n) y → x ++ r ≡ y ++ s → (make j m ≡ make k n) × (x ≡ y)
same_operand code make h j k m n x y r s p q e = grind (arith, common_steps, peel, byte_code, same_join)

-- an operand that has no bytes
nothing_code : IsCode (λ (u : Unit {0}). Exactly [])
nothing_code = record { one = λ u v x y r s p q e. (refl, p ∙ sym q) }

-- what follows the length of an extended operation
same_extended : {P Q : List ℕ → Type 0} (c d : ℕ) (x y r s : List ℕ) → (p : ExtendedParts c P x) → (q : ExtendedParts d Q y)
    → x ++ r ≡ y ++ s → (c ∷ p.operand ≡ d ∷ q.operand) × (x ≡ y)
same_extended c d x y r s p q e = grind (arith, common_steps, heads_of, append_assoc, unsigned_code, same_prefix, same_rest)

same_extended_operand : {X : Type 0} {P : X → List ℕ → Type 0} → IsCode P → (make : ℕ → X → Coding) (c d : ℕ) (m n : X) (x y r s : List ℕ)
    → Extended c (P m) x → Extended d (P n) y → x ++ r ≡ y ++ s → (make c m ≡ make d n) × (x ≡ y)
same_extended_operand {X} {P} code make c d m n x y r s p q e =
    let t = extended_parts c (P m) x p in
    let u = extended_parts d (P n) y q in
    let found = same_extended c d x y r s t u e in
    let codes : c ≡ d = let all = found.0 in cc in
    let bytes : t.operand ≡ u.operand = let all = found.0 in cc in
    let operand = code.one m n t.operand u.operand [] [] t.is u.is (ap (λ (z : List ℕ). z ++ []) bytes) in
    (ap (λ (i : ℕ). make i m) codes ∙ ap (make d) operand.0, found.1)

same_unknown : (c d : ℕ) (t t' x y r s : List ℕ) → Extended c (Exactly t) x → Extended d (Exactly t') y → x ++ r ≡ y ++ s
    → (Coding.unknown_extended c t ≡ Coding.unknown_extended d t') × (x ≡ y)
same_unknown c d t t' x y r s p q e =
    let u = extended_parts c (Exactly t) x p in
    let v = extended_parts d (Exactly t') y q in
    let found = same_extended c d x y r s u v e in
    let whole : c ∷ t ≡ d ∷ t' = ap (λ (z : List ℕ). c ∷ z) (sym u.is) ∙ found.0 ∙ ap (λ (z : List ℕ). d ∷ z) v.is in
    let codes : c ≡ d = cc in
    let operands : t ≡ t' = cc in
    (ap (λ (a : ℕ). Coding.unknown_extended a t) codes ∙ ap (Coding.unknown_extended d) operands, found.1)

same_unknown_standard : (h : NumberParts) (k l : ℕ) (us vs x y r s : List ℕ) → length us ≡ standard_length h k
    → length vs ≡ standard_length h l → Standard h k (Each UnsignedLeb us) x → Standard h l (Each UnsignedLeb vs) y → x ++ r ≡ y ++ s
    → (Coding.unknown_standard k us ≡ Coding.unknown_standard l vs) × (x ≡ y)
same_unknown_standard h k l us vs x y r s m n p q e = grind (arith, common_steps, peel, byte_code, same_each, unsigned_code, same_join)

pub address_width : (size : ℕ) → IsAddressSize size → IsWidth size
address_width size (inl two) = subst IsWidth (sym two) width_2
address_width size (inr (inl four)) = subst IsWidth (sym four) width_4
address_width size (inr (inr eight)) = subst IsWidth (sym eight) width_8

-- a number of each kind of operand, and of each kind of coding
operand_kind : Operand → ℕ
operand_kind Operand.bare = 0
operand_kind (Operand.unsigned n) = 1
operand_kind (Operand.signed z) = 2
operand_kind (Operand.half n) = 3

abbrev kind : Coding → ℕ
kind (Coding.special c) = 0
kind (Coding.unknown_standard k operands) = 1
kind (Coding.extended code) = 2
kind (Coding.extended_number code n) = 3
kind (Coding.extended_address code address) = 4
kind (Coding.unknown_extended code operand) = 5
kind (Coding.standard k operand) = 6 + operand_kind operand

-- An opcode has one kind of operand. The clauses are for each pair of operations.
same_kind : (h : NumberParts) (u v : Op) (x y : List ℕ) → tag u ≡ tag v → OpBytes h u x → OpBytes h v y → kind (coding u) ≡ kind (coding v)
unfolding operand_kind
same_kind h (Special c) (Special d) x y t p q = refl
same_kind h u (Special d) x y t p q = absurd (omega arith)
same_kind h u v x y t p q = omega arith

same_coding : (h : NumberParts) (width : IsWidth h.address_size) (c d : Coding) (x y r s : List ℕ) → kind c ≡ kind d → CodingBytes h c x
    → CodingBytes h d y → x ++ r ≡ y ++ s → (c ≡ d) × (x ≡ y)
unfolding operand_kind
same_coding h width (Coding.special c) (Coding.special d) x y r s t p q e =
    let both = heads_of c d x y [] [] r s p.2 q.2 e in (ap Coding.special both.0, p.2 ∙ ap (λ (a : ℕ). a ∷ []) both.0 ∙ sym q.2)
same_coding h width (Coding.standard j Operand.bare) (Coding.standard k Operand.bare) x y r s t p q e =
    same_operand nothing_code (λ (i : ℕ) (u : Unit {0}). Coding.standard i Operand.bare) h j k tt tt x y r s p q e
same_coding h width (Coding.standard j (Operand.unsigned m)) (Coding.standard k (Operand.unsigned n)) x y r s t p q e =
    same_operand unsigned_code (λ (i a : ℕ). Coding.standard i (Operand.unsigned a)) h j k m n x y r s p q e
same_coding h width (Coding.standard j (Operand.signed m)) (Coding.standard k (Operand.signed n)) x y r s t p q e =
    same_operand signed_code (λ (i : ℕ) (a : ℤ). Coding.standard i (Operand.signed a)) h j k m n x y r s p q e
same_coding h width (Coding.standard j (Operand.half m)) (Coding.standard k (Operand.half n)) x y r s t p q e =
    same_operand (number_code h.order 2 width_2) (λ (i a : ℕ). Coding.standard i (Operand.half a)) h j k m n x y r s p q e
same_coding h width (Coding.unknown_standard k us) (Coding.unknown_standard l vs) x y r s t p q e =
    same_unknown_standard h k l us vs x y r s p.1 q.1 p.2 q.2 e
same_coding h width (Coding.extended c) (Coding.extended d) x y r s t p q e =
    same_extended_operand nothing_code (λ (i : ℕ) (u : Unit {0}). Coding.extended i) c d tt tt x y r s p q e
same_coding h width (Coding.extended_number c m) (Coding.extended_number d n) x y r s t p q e =
    same_extended_operand unsigned_code Coding.extended_number c d m n x y r s p q e
same_coding h width (Coding.extended_address c m) (Coding.extended_address d n) x y r s t p q e =
    same_extended_operand (number_code h.order h.address_size width) Coding.extended_address c d m n x y r s p q e
same_coding h width (Coding.unknown_extended c m) (Coding.unknown_extended d n) x y r s t p q e = same_unknown c d m n x y r s p.2 q.2 e
same_coding h width c d x y r s t p q e = absurd (omega arith)

-- each coding is that of one operation
one_coding : (u v : Op) → coding u ≡ coding v → u ≡ v
one_coding (Special c) (Special d) e = cc
one_coding u (Special d) e = cc
one_coding u v e = cc

same_of_tag : (h : NumberParts) (width : IsWidth h.address_size) (u v : Op) (x y r s : List ℕ) → tag u ≡ tag v → OpBytes h u x
    → OpBytes h v y → x ++ r ≡ y ++ s → (u ≡ v) × (x ≡ y)
same_of_tag h width u v x y r s t p q e = grind (arith, common_steps, same_coding, same_kind, one_coding)

pub op_code : (h : NumberParts) → AreHeaderNumbers h → IsCode (OpBytes h)
op_code h numbers =
    let size = numbers.address_size in
    let some : 0 < h.opcode_base = omega (arith, numbers.opcode_base) in
    record {
      one = λ u v x y r s p q e. same_of_tag h (address_width h.address_size size) u v x y r s (same_tag h u v x y r s some p q e) p
          q e;
    }

-- each operation has some byte
some_shape : (base t : ℕ) (x : List ℕ) → Shape base t x → 0 < length x
some_shape base t x (special c tag le p) = omega (arith, ap length p)
some_shape base t x (standard k u tag some lt p) = omega (arith, ap length p)
some_shape base t x (extended code u l tag leb p) = omega (arith, ap length p)

pub op_is_some : (h : NumberParts) (op : Op) (x : List ℕ) → OpBytes h op x → 0 < length x
op_is_some h op x p = some_shape h.opcode_base (tag op) x (shape_of h op x p)

-- ---- what is spelled is allowed

numbers_fit : (numbers : List ℕ) (x : List ℕ) → Each UnsignedLeb numbers x → AllByRecursion (λ n. n < 2 ^ 64) numbers
numbers_fit [] x p = tt
numbers_fit (n ∷ numbers) x p = (p.first.fits, numbers_fit numbers p.back p.second)

operand_fits : (h : NumberParts) (operand : Operand) (x : List ℕ) → OperandBytes h operand x → FitsOperand operand
operand_fits h Operand.bare x p = tt
operand_fits h (Operand.unsigned n) x p = p.fits
operand_fits h (Operand.signed z) x p = p.fits
operand_fits h (Operand.half n) x p = omega (arith, p.fits)

coding_allowed : (h : NumberParts) (c : Coding) (x : List ℕ) → CodingBytes h c x → AdmitsCoding h c × FitsCoding c
coding_allowed h (Coding.special c) x p = (p.0, omega (arith, p.1))
coding_allowed h (Coding.standard k operand) x p = (p.0, operand_fits h operand p.1.back p.1.second)
coding_allowed h (Coding.unknown_standard k operands) x p = ((p.0, p.2.0, p.1), numbers_fit operands p.2.1.back p.2.1.second)
coding_allowed h (Coding.extended code) x p = (tt, tt)
coding_allowed h (Coding.extended_number code n) x p = (tt, p.1.second.fits)
coding_allowed h (Coding.extended_address code address) x p = (p.1.second.fits, tt)
coding_allowed h (Coding.unknown_extended code operand) x p =
    let q = extended_parts code (Exactly operand) x p.2 in
    (p.0, (omega (arith, p.1), omega (arith, q.spelled.fits, ap length q.is)))

pub op_allowed : (h : NumberParts) (op : Op) (x : List ℕ) → OpBytes h op x → Admits h op × FitsOp op
op_allowed h op x p = coding_allowed h (coding op) x p

-- ---- programs

-- lists of values that have some bytes each, and spell the same bytes
pub same_whole : {X : Type 0} {P : X → List ℕ → Type 0} → IsCode P → ((u : X) (x : List ℕ) → P u x → 0 < length x)
    → (us vs : List X) (x y : List ℕ) → Each P us x → Each P vs y → x ≡ y → us ≡ vs
same_whole code some [] [] x y p q e = refl
same_whole code some [] (v ∷ vs) x y p q e =
    absurd (omega (arith, some v q.prefix q.first, ap length q.joined, ap length e, ap length p, length-append q.prefix q.back))
same_whole code some (u ∷ us) [] x y p q e =
    absurd (omega (arith, some u p.prefix p.first, ap length p.joined, ap length e, ap length q, length-append p.prefix p.back))
same_whole code some (u ∷ us) (v ∷ vs) x y p q e =
    let one = peel code u v x y [] [] p q (ap (λ (z : List ℕ). z ++ []) e) in
    let past : p.back ≡ q.back = sym (append-nil p.back) ∙ one.past ∙ append-nil q.back in
    let heads : u ≡ v = one.value in
    let tails : us ≡ vs = same_whole code some us vs p.back q.back p.second q.second past in
    cc

pub same_program : (h : NumberParts) → AreHeaderNumbers h → (us vs : List Op) (bytes : List ℕ) → Each (OpBytes h) us bytes
    → Each (OpBytes h) vs bytes → us ≡ vs
same_program h numbers us vs bytes p q = same_whole (op_code h numbers) (op_is_some h) us vs bytes bytes p q refl

pub one_program : OneProgram
one_program = record { operation = op_code; program = same_program }
