-- Operations with short operands, at the beginning of bytes.
use Rattle.std.proofs.Common.{◌≡◌, ◌≢◌, ◌==◌, ℕ, zero, suc, ◌+◌, ◌-◌, ◌%◌, ◌<◌, ◌≤◌, false, List, [], ◌∷◌, ◌++◌, length, take, drop}
use Rattle.std.proofs.Common.{get_or, add-one, refl, sym, ap, subst, ◌∙◌, arith, inl, inr, ℤ, pos, neg_ℤ, ◌+ℤ◌, ◌-ℤ◌, ◌*ℤ◌, ◌≤ℤ◌, ◌<ℤ◌}
use Rattle.std.proofs.Common.{FitsSigned, w64, length-append, length-take-le, take-append-drop}
use Rattle.std.proofs.lemmas.Bool.{lt-leb, le-leb, cases_lt}
use Rattle.std.proofs.lemmas.Int.{ints}
use Rattle.lnt_wire.proofs.LebLemmas.{one_high}
use Rattle.lnt_wire.specs.Reading.{At}
use Rattle.lnt_wire.specs.Leb128.{IsLeb, UnsignedLeb, SignedLeb, signed_groups}
use Rattle.lnt_header.specs.declared.numbers.NumberParts.{NumberParts}
use Rattle.lnt_header.specs.declared.op.Op.{Op}
use Rattle.lnt_header.specs.declared.op.Op.TheVariants as ops
use Rattle.lnt_header.specs.declared.op.OpView.{OpView}
use Rattle.lnt_header.specs.declared.op.OpView.TheVariants as views
use Rattle.lnt_header.specs.OpRules.{Admits, Coding, coding_of, Operand, StandsFor}
use Rattle.lnt_header.specs.OpRules.Coding.{standard}
use Rattle.lnt_header.specs.OpRules.Operand.{bare, unsigned, signed}
use Rattle.lnt_ops.proofs.OpLaws.{extended_parts}
use Rattle.lnt_ops.proofs.StandardReaders.{known_view}
use Rattle.lnt_ops.proofs.ViewLaws.{is_coded}
use Rattle.lnt_ops.proofs.WalkLemmas.{steps_on}
use Rattle.lnt_ops.specs.OpBytes.{CodingBytes, OpBytes, OperandBytes, Standard}
use Rattle.lnt_ops.specs.OpSteps.{GivesOp}
use Rattle.lnt_ops.specs.Short.{IsOperationPrefix, IsShort, NoneShort}
use Rattle.lnt_ops.specs.Stepping.{IsGroup, NoByte, NoDiscriminator, NoTwoBytes}
use Rattle.lnt_ops.specs.Walks.{Walk, GivesOperation}
use Rattle.std.proofs.lemmas.Grind.{common_steps}

-- ---- bytes at the beginning

one_taken : (bytes : List ℕ) → 0 < length bytes → take 1 bytes ≡ get_or bytes 0 0 ∷ []
one_taken [] some = absurd (omega arith)
one_taken (b ∷ bytes) some = refl

two_taken : (bytes : List ℕ) → 2 ≤ length bytes → take 2 bytes ≡ get_or bytes 0 0 ∷ get_or bytes 1 0 ∷ []
two_taken [] some = absurd (omega arith)
two_taken (b ∷ []) some = absurd (omega arith)
two_taken (b ∷ c ∷ bytes) some = refl

three_taken : (bytes : List ℕ) → 3 ≤ length bytes → take 3 bytes ≡ get_or bytes 0 0 ∷ get_or bytes 1 0 ∷ get_or bytes 2 0 ∷ []
three_taken [] some = absurd (omega arith)
three_taken (b ∷ []) some = absurd (omega arith)
three_taken (b ∷ c ∷ []) some = absurd (omega arith)
three_taken (b ∷ c ∷ d ∷ bytes) some = refl

after_one : (bytes : List ℕ) (n : ℕ) → 0 < length bytes → take (n + 1) bytes ≡ get_or bytes 0 0 ∷ take n (drop 1 bytes)
after_one [] n some = absurd (omega arith)
after_one (b ∷ bytes) n some = simp add-one

one_less : (bytes : List ℕ) → 0 < length bytes → length bytes ≡ length (drop 1 bytes) + 1
one_less [] some = absurd (omega arith)
one_less (b ∷ bytes) some = omega arith

-- ---- operands

pub one_unsigned : (bytes : List ℕ) (b : ℕ) → 0 < length bytes → get_or bytes 0 0 ≡ b → b < 128 → UnsignedLeb b (take 1 bytes)
one_unsigned bytes b some is low = grind (arith, common_steps, one_taken)

pub group_low : (b : ℕ) (z : ℤ) → z ≡ pos b → b < 64 → IsGroup b z
group_low b z is lt = grind (arith, common_steps, lt-leb)

pub group_high : (b : ℕ) (z : ℤ) → z ≡ pos b -ℤ pos 128 → 64 ≤ b → b < 128 → IsGroup b z
group_high b z is le lt = grind (arith, common_steps, one_high)

group_fits : (z : ℤ) → neg_ℤ (pos 64) ≤ℤ z → z <ℤ pos 64 → FitsSigned w64 z
group_fits z least most = omega (arith, ints, least, most)

pub one_signed : (bytes : List ℕ) (b : ℕ) (z : ℤ) → 0 < length bytes → get_or bytes 0 0 ≡ b → b < 128 → IsGroup b z
    → SignedLeb z (take 1 bytes)
one_signed bytes b z some is low g =
    rw (one_taken bytes some, is) (record { shape = low; value = g.value; fits = group_fits z g.least g.most })

-- two groups, of which the second one has the sign
two_groups : (a b : ℕ) → b < 128 → signed_groups (a ∷ b ∷ []) ≡ pos (a % 128) +ℤ pos 128 *ℤ signed_groups (b ∷ [])
two_groups a b lt = grind (arith, common_steps, cases_lt, lt-leb, le-leb)

pub two_signed : (bytes : List ℕ) (a b : ℕ) (s z : ℤ) → 2 ≤ length bytes → get_or bytes 0 0 ≡ a → 128 ≤ a → get_or bytes 1 0 ≡ b → b < 128
    → IsGroup b s → z ≡ pos (a % 128) +ℤ pos 128 *ℤ s → SignedLeb z (take 2 bytes)
two_signed bytes a b s z some first high second low g is = grind (arith, common_steps, two_taken, two_groups)

pub discriminator_taken : (bytes : List ℕ) (n : ℕ) → 3 ≤ length bytes → get_or bytes 0 0 ≡ 2 → get_or bytes 1 0 ≡ 4 → get_or bytes 2 0 ≡ n
    → take 3 bytes ≡ 2 ∷ 4 ∷ n ∷ []
discriminator_taken bytes n some first second third = rw (three_taken bytes some, first, second, third) refl

-- ---- operations

prefix : (h : NumberParts) (k : ℕ) (view : OpView) (op : Op) (n : ℕ) (bytes operand : List ℕ) → 0 < length bytes → get_or bytes 0 0 ≡ k
    → operand ≡ drop 1 bytes → n ≤ length operand
    → StandsFor view op → Admits h op → OpBytes h op (k ∷ take n operand) → IsOperationPrefix h view (n + 1) bytes
prefix h k view op n bytes operand some is same le stands admitted spelled = grind (arith, common_steps, one_less, after_one)

pub prefix_special : (h : NumberParts) (k : ℕ) (bytes : List ℕ) → 0 < length bytes → get_or bytes 0 0 ≡ k → h.opcode_base ≤ k → k < 256
    → IsOperationPrefix h (views.Special k) 1 bytes
prefix_special h k bytes some is le byte =
    prefix h k (views.Special k) (ops.Special k) 0 bytes (drop 1 bytes) some is refl (omega arith) refl le (le, byte, refl)

some_bytes : (bytes : List ℕ) → false ≡ (length bytes == 0) → 0 < length bytes
some_bytes [] e = absurd cc
some_bytes (b ∷ bytes) e = omega arith

prefix_known : (h : NumberParts) (view : OpView) (k n base : ℕ) (operand : Operand) (bytes rest : List ℕ)
    → coding_of view ≡ standard k operand → false ≡ (length bytes == 0) → get_or bytes 0 0 ≡ k → get_or bytes 0 0 < base
    → base ≡ h.opcode_base → rest ≡ drop 1 bytes → n ≤ length rest → OperandBytes h operand (take n rest)
    → IsOperationPrefix h view (n + 1) bytes
prefix_known h view k n base operand bytes rest e some is lt base_is same le p = grind (arith, common_steps, known_view, prefix, some_bytes)

pub prefix_bare : (h : NumberParts) (view : OpView) (k base : ℕ) (bytes : List ℕ) → coding_of view ≡ standard k bare
    → false ≡ (length bytes == 0) → get_or bytes 0 0 ≡ k → get_or bytes 0 0 < base → base ≡ h.opcode_base → IsOperationPrefix h view 1 bytes
prefix_bare h view k base bytes e some is lt base_is =
    prefix_known h view k 0 base bare bytes (drop 1 bytes) e some is lt base_is refl (omega arith) refl

pub prefix_unsigned : (h : NumberParts) (view : OpView) (k n base : ℕ) (bytes operand : List ℕ) → coding_of view ≡ standard k (unsigned n)
    → false ≡ (length bytes == 0) → get_or bytes 0 0 ≡ k → get_or bytes 0 0 < base → base ≡ h.opcode_base → operand ≡ drop 1 bytes
    → (1 ≤ length operand) × UnsignedLeb n (take 1 operand) → IsOperationPrefix h view 2 bytes
prefix_unsigned h view k n base bytes operand e some is lt base_is same p =
    prefix_known h view k 1 base (unsigned n) bytes operand e some is lt base_is same p.0 p.1

pub prefix_signed : (h : NumberParts) (view : OpView) (k size base : ℕ) (z : ℤ) (bytes operand : List ℕ)
    → coding_of view ≡ standard k (signed z) → false ≡ (length bytes == 0) → get_or bytes 0 0 ≡ k → get_or bytes 0 0 < base
    → base ≡ h.opcode_base → operand ≡ drop 1 bytes → (size ≤ length operand) × SignedLeb z (take size operand)
    → IsOperationPrefix h view (size + 1) bytes
prefix_signed h view k size base z bytes operand e some is lt base_is same p =
    prefix_known h view k size base (signed z) bytes operand e some is lt base_is same p.0 p.1

-- the length 2, the code 4 and a discriminator of one byte
discriminator : (h : NumberParts) (k n : ℕ) (operand : List ℕ) → k ≡ 0 → n < 128 → operand ≡ 2 ∷ 4 ∷ n ∷ []
    → OpBytes h (ops.SetDiscriminator n) (k ∷ operand)
discriminator h k n operand e low is =
    let small : n % 128 ≡ n = omega arith in
    rw (e, is) (
      4 ∷ n ∷ [],
      record {
        prefix = 4 ∷ [];
        back = n ∷ [];
        first = refl;
        second = record { shape = low; value = omega (arith, small); fits = omega arith };
        joined = refl;
      },
      record {
        prefix = 0 ∷ [];
        back = 2 ∷ 4 ∷ n ∷ [];
        first = refl;
        second = record {
          prefix = 2 ∷ [];
          back = 4 ∷ n ∷ [];
          first = record { shape = omega arith; value = refl; fits = omega arith };
          second = refl;
          joined = refl;
        };
        joined = refl;
      },
    )

pub prefix_discriminator : (h : NumberParts) (k n : ℕ) (bytes operand : List ℕ) → false ≡ (length bytes == 0) → get_or bytes 0 0 ≡ k
    → k ≡ 0 → operand ≡ drop 1 bytes → (3 ≤ length operand) × (n < 128) × (take 3 operand ≡ 2 ∷ 4 ∷ n ∷ [])
    → IsOperationPrefix h (views.SetDiscriminator n) 4 bytes
prefix_discriminator h k n bytes operand some is e same p =
    prefix h k (views.SetDiscriminator n) (ops.SetDiscriminator n) 3 bytes operand (some_bytes bytes some) is same p.0 refl tt
    (discriminator h k n (take 3 operand) e p.1 p.2)

-- ---- steps of a walk

gives_prefix : (h : NumberParts) (view : OpView) (size : ℕ) (old new : At) → IsOperationPrefix h view size old.rest
    → new.rest ≡ drop size old.rest → new.place ≡ old.place + size → new.order ≡ old.order → GivesOp h view old new
gives_prefix h view size old new f rest place order = grind (arith, common_steps, take-append-drop, length-take-le)

-- a walk over a program that ends at this offset
abbrev pub walk_at : NumberParts → ℕ → List ℕ → Walk
walk_at h end rest = record { numbers = h; at = record { place = end - length rest; rest = rest; order = h.order }; failed = false }

pub steps_short : (h : NumberParts) (end : ℕ) (view : OpView) (size : ℕ) (rest past : List ℕ) → length rest ≤ end
    → IsOperationPrefix h view size rest → past ≡ drop size rest → length past + size ≡ length rest
    → GivesOperation view (walk_at h end rest) (walk_at h end past)
steps_short h end view size rest past le f is count = grind (arith, common_steps, steps_on, gives_prefix)

-- ---- where no such operation begins

-- an opcode and its operand
opcode_is : (h : NumberParts) (k n : ℕ) (Operand : List ℕ → Type 0) (bytes : List ℕ) → 0 < length bytes
    → Standard h k Operand (take (n + 1) bytes) → (get_or bytes 0 0 ≡ k) × Operand (take n (drop 1 bytes))
opcode_is h k n Operand bytes some s = grind (arith, common_steps, after_one)

low_byte : (operand : List ℕ) → IsLeb (take 1 operand) → NoByte operand → ⊥
low_byte [] shape none = shape
low_byte (b ∷ operand) shape none = omega (arith, shape, none (omega arith))

low_bytes : (operand : List ℕ) → IsLeb (take 2 operand) → NoTwoBytes operand → ⊥
low_bytes [] shape none = shape
low_bytes (a ∷ []) shape none = omega (arith, shape, none.0 (omega arith))
low_bytes (a ∷ b ∷ operand) shape none = omega (arith, shape.1, none.1 (omega arith))

three_bytes : (operand : List ℕ) (n : ℕ)
    → (3 ≤ length operand → get_or operand 0 0 ≡ 2 → get_or operand 1 0 ≡ 4 → get_or operand 2 0 < 128 → ⊥) → n < 128
    → take 3 operand ≡ 2 ∷ 4 ∷ n ∷ [] → ⊥
three_bytes [] n none lt same = omega (arith, ap length same)
three_bytes (a ∷ []) n none lt same = omega (arith, ap length same)
three_bytes (a ∷ b ∷ []) n none lt same = omega (arith, ap length same)
three_bytes (a ∷ b ∷ c ∷ operand) n none lt same =
    none (omega arith) (ap (λ (z : List ℕ). get_or z 0 0) same) (ap (λ (z : List ℕ). get_or z 1 0) same)
    (omega (arith, lt, ap (λ (z : List ℕ). get_or z 2 0) same))

pub no_discriminator_here : (operand : List ℕ)
    → (3 ≤ length operand → get_or operand 0 0 ≡ 2 → get_or operand 1 0 ≡ 4 → get_or operand 2 0 < 128 → ⊥) → NoDiscriminator operand
no_discriminator_here operand none = record { none = λ n lt same. three_bytes operand n none lt same }

-- The bytes of a discriminator that are four are these.
four_bytes : (n : ℕ) (number size bytes : List ℕ) → bytes ≡ 0 ∷ (size ++ (4 ∷ number)) → UnsignedLeb n number
    → UnsignedLeb (length (4 ∷ number)) size → length bytes ≡ 4 → (b : ℕ) × (b < 128) × (bytes ≡ 0 ∷ 2 ∷ 4 ∷ b ∷ [])
four_bytes n [] size bytes j u z e = absurd u.shape
four_bytes n number [] bytes j u z e = absurd z.shape
four_bytes n (b ∷ []) (s ∷ []) bytes j u z e =
    let two : s ≡ 2 = omega (arith, z.shape, z.value) in (b, u.shape, j ∙ ap (λ (x : ℕ). 0 ∷ x ∷ 4 ∷ b ∷ []) two)
four_bytes n (b ∷ c ∷ number) (s ∷ size) bytes j u z e = absurd (omega (arith, e, ap length j, length-append size (4 ∷ b ∷ c ∷ number)))
four_bytes n (b ∷ number) (s ∷ t ∷ size) bytes j u z e = absurd (omega (arith, e, ap length j, length-append size (4 ∷ b ∷ number)))

-- ---- and so none does

-- What a short operation has after its opcode, if the opcode is of a frequent kind.
pub data ShortKind : Type 0 where
  short_discriminator : ShortKind
  no_operand : ShortKind
  short_unsigned : ShortKind
  short_signed : ShortKind
  rare : ShortKind

abbrev short_kinds : List ShortKind
short_kinds =
    short_discriminator ∷ no_operand ∷ short_unsigned ∷ short_signed ∷ short_unsigned ∷ short_unsigned ∷ no_operand ∷ rare ∷ no_operand ∷ []

abbrev short_kind : ℕ → ShortKind
short_kind k = get_or short_kinds k rare

abbrev LacksOperand : ShortKind → List ℕ → Type 0
LacksOperand short_discriminator operand = NoDiscriminator operand
LacksOperand no_operand operand = ⊥
LacksOperand short_unsigned operand = NoByte operand
LacksOperand short_signed operand = NoTwoBytes operand
LacksOperand rare operand = Unit {0}

-- The opcode isn't of a frequent kind, or its operand isn't short.
abbrev IsLong : ℕ → List ℕ → Type 0
IsLong k operand = LacksOperand (short_kind k) operand

-- what is so of the operand, where an operation begins the bytes that is coded so
begins : (h : NumberParts) (view : OpView) (k n size : ℕ) (operand : Operand) (bytes : List ℕ)
    → IsLong (get_or bytes 0 0) (drop 1 bytes) → coding_of view ≡ standard k operand → size ≡ n + 1 → IsOperationPrefix h view size bytes
    → IsLong k (drop 1 bytes) × OperandBytes h operand (take n (drop 1 bytes))
begins h view k n size operand bytes long e count f =
    let coded = is_coded view f.op (standard k operand) f.stands e (λ listed. listed) in
    let s : Standard h k (OperandBytes h operand) (take (n + 1) bytes) =
    subst (λ (m : ℕ). CodingBytes h (standard k operand) (take m bytes)) count
    (subst (λ (c : Coding). CodingBytes h c (take size bytes)) coded f.spelled) in
    let found = opcode_is h k n (OperandBytes h operand) bytes (omega (arith, f.within, count)) s in
    (subst (λ (i : ℕ). IsLong i (drop 1 bytes)) found.0 long, found.1)

special_begins : (h : NumberParts) (c : ℕ) (op : Op) (bytes : List ℕ) → 0 < length bytes → StandsFor (views.Special c) op
    → OpBytes h op (take 1 bytes) → h.opcode_base ≤ get_or bytes 0 0
special_begins h c (ops.Special d) bytes some s b = omega (arith, b.0, ap (λ (z : List ℕ). get_or z 0 0) (sym (one_taken bytes some) ∙ b.2))
special_begins h c _ bytes some s b = absurd s

discriminator_begins : (h : NumberParts) (n : ℕ) (op : Op) (bytes : List ℕ) → 4 ≤ length bytes → StandsFor (views.SetDiscriminator n) op
    → OpBytes h op (take 4 bytes) → IsLong (get_or bytes 0 0) (drop 1 bytes) → ⊥
discriminator_begins h n (ops.SetDiscriminator m) bytes le s b long =
    let parts = extended_parts 4 (UnsignedLeb m) (take 4 bytes) b in
    let found = four_bytes m parts.operand parts.spelling (take 4 bytes) parts.joined parts.is parts.spelled (length-take-le 4 bytes le) in
    let same : get_or bytes 0 0 ∷ take 3 (drop 1 bytes) ≡ 0 ∷ 2 ∷ 4 ∷ found.0 ∷ [] =
    sym (after_one bytes 3 (omega (arith, le))) ∙ found.2 in
    let none = subst (λ (i : ℕ). IsLong i (drop 1 bytes)) (ap (λ (z : List ℕ). get_or z 0 0) same) long in
    none.none found.0 found.1 (ap (λ (z : List ℕ). drop 1 z) same)
discriminator_begins h n _ bytes le s b long = absurd s

none_long : (h : NumberParts) (bytes : List ℕ) → get_or bytes 0 0 < h.opcode_base → IsLong (get_or bytes 0 0) (drop 1 bytes)
    → NoneShort h bytes
none_long h bytes low long (views.Special c) size e f =
    let g : IsOperationPrefix h (views.Special c) 1 bytes = subst (λ (m : ℕ). IsOperationPrefix h (views.Special c) m bytes) e f in
    omega (arith, low, special_begins h c g.op bytes (omega (arith, g.within)) g.stands g.spelled)
none_long h bytes low long views.Copy size e f = (begins h views.Copy 1 0 size bare bytes long refl e f).0
none_long h bytes low long views.NegateStmt size e f = (begins h views.NegateStmt 6 0 size bare bytes long refl e f).0
none_long h bytes low long views.ConstAddPc size e f = (begins h views.ConstAddPc 8 0 size bare bytes long refl e f).0
none_long h bytes low long (views.AdvancePc n) size e f =
    let found = begins h (views.AdvancePc n) 2 1 size (unsigned n) bytes long refl e f in low_byte (drop 1 bytes) found.1.shape found.0
none_long h bytes low long (views.SetFile n) size e f =
    let found = begins h (views.SetFile n) 4 1 size (unsigned n) bytes long refl e f in low_byte (drop 1 bytes) found.1.shape found.0
none_long h bytes low long (views.SetColumn n) size e f =
    let found = begins h (views.SetColumn n) 5 1 size (unsigned n) bytes long refl e f in low_byte (drop 1 bytes) found.1.shape found.0
none_long h bytes low long (views.AdvanceLine z) size (inl e) f =
    let found = begins h (views.AdvanceLine z) 3 1 size (signed z) bytes long refl e f in low_byte (drop 1 bytes) found.1.shape found.0.0
none_long h bytes low long (views.AdvanceLine z) size (inr e) f =
    let found = begins h (views.AdvanceLine z) 3 2 size (signed z) bytes long refl e f in low_bytes (drop 1 bytes) found.1.shape found.0
none_long h bytes low long (views.SetDiscriminator n) size e f =
    let g : IsOperationPrefix h (views.SetDiscriminator n) 4 bytes =
    subst (λ (m : ℕ). IsOperationPrefix h (views.SetDiscriminator n) m bytes) e f in
    discriminator_begins h n g.op bytes g.within g.stands g.spelled long
none_long h bytes low long _ size e f = absurd e

short_some : (view : OpView) (size : ℕ) → IsShort view size → 0 < size
short_some (views.AdvanceLine z) size (inl e) = omega (arith, e)
short_some (views.AdvanceLine z) size (inr e) = omega (arith, e)
short_some view size e = grind (arith, e)

pub none_empty : (h : NumberParts) (bytes : List ℕ) → length bytes ≡ 0 → NoneShort h bytes
none_empty h bytes empty = λ view size e f. omega (arith, empty, f.within, short_some view size e)

-- by the opcode and what follows it
pub none_here : (h : NumberParts) (k base : ℕ) (bytes operand : List ℕ) → get_or bytes 0 0 ≡ k → get_or bytes 0 0 < base
    → base ≡ h.opcode_base → operand ≡ drop 1 bytes → IsLong k operand → NoneShort h bytes
none_here h k base bytes operand is lt base_is same long =
    none_long h bytes (omega (arith, lt, base_is)) (rw is (subst (IsLong k) same long))

is_rare : (k : ℕ) → k ≢ 0 → k ≢ 1 → k ≢ 2 → k ≢ 3 → k ≢ 4 → k ≢ 5 → k ≢ 6 → k ≢ 8 → (operand : List ℕ) → IsLong k operand
is_rare zero n0 n1 n2 n3 n4 n5 n6 n8 operand = absurd (n0 refl)
is_rare (suc zero) n0 n1 n2 n3 n4 n5 n6 n8 operand = absurd (n1 refl)
is_rare (suc (suc zero)) n0 n1 n2 n3 n4 n5 n6 n8 operand = absurd (n2 refl)
is_rare (suc (suc (suc zero))) n0 n1 n2 n3 n4 n5 n6 n8 operand = absurd (n3 refl)
is_rare (suc (suc (suc (suc zero)))) n0 n1 n2 n3 n4 n5 n6 n8 operand = absurd (n4 refl)
is_rare (suc (suc (suc (suc (suc zero))))) n0 n1 n2 n3 n4 n5 n6 n8 operand = absurd (n5 refl)
is_rare (suc (suc (suc (suc (suc (suc zero)))))) n0 n1 n2 n3 n4 n5 n6 n8 operand = absurd (n6 refl)
is_rare (suc (suc (suc (suc (suc (suc (suc zero))))))) n0 n1 n2 n3 n4 n5 n6 n8 operand = tt
is_rare (suc (suc (suc (suc (suc (suc (suc (suc zero)))))))) n0 n1 n2 n3 n4 n5 n6 n8 operand = absurd (n8 refl)
is_rare (suc (suc (suc (suc (suc (suc (suc (suc (suc k))))))))) n0 n1 n2 n3 n4 n5 n6 n8 operand = tt

pub none_other : (h : NumberParts) (k : ℕ) (bytes : List ℕ) → get_or bytes 0 0 ≡ k → k < h.opcode_base → k ≢ 0 → k ≢ 1 → k ≢ 2 → k ≢ 3
    → k ≢ 4 → k ≢ 5 → k ≢ 6 → k ≢ 8 → NoneShort h bytes
none_other h k bytes is lt n0 n1 n2 n3 n4 n5 n6 n8 =
    none_here h k h.opcode_base bytes (drop 1 bytes) is (omega (arith, is, lt)) refl refl (is_rare k n0 n1 n2 n3 n4 n5 n6 n8 (drop 1 bytes))

-- each short operation that bytes begin with, and why none does
pub ruleset short_prefixes =
    (prefix_special, prefix_bare, prefix_unsigned, prefix_signed, prefix_discriminator, none_empty, none_here, none_other)
