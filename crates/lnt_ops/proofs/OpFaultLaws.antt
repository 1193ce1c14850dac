-- Where no operation begins some bytes, its first fault is one; and so is that of a program. Crates above cite these.
use Rattle.std.proofs.Common.{◌≡◌, ℕ, ◌+◌, ◌<◌, List, [], ◌∷◌, ◌++◌, length, refl, sym, ap, subst, ◌∙◌, append_assoc, arith}
use Rattle.std.proofs.lemmas.List.{append-nil, get_or_past, length-append}
use Rattle.lnt_wire.specs.Bytes.{Exactly, NoneSpelled}
use Rattle.lnt_wire.specs.Leb128.{IsLeb, UnsignedLeb, SignedLeb, IsLargeUnsigned, IsLargeSigned, IsLebFault}
use Rattle.lnt_wire.specs.Numbers.{NumberBytes}
use Rattle.lnt_wire.specs.Reading.{IsCutShort}
use Rattle.lnt_wire.specs.declared.fault.Fault.{Fault}
use Rattle.lnt_wire.specs.declared.fault.Reason.{Reason}
use Rattle.lnt_wire.specs.declared.fault.Reason.TheVariants.{ExtendedLength, LebTooLarge, Truncated}
use Rattle.lnt_wire.proofs.CodeLaws.{unsigned_code}
use Rattle.lnt_wire.proofs.FieldFaultLaws.{number_fault, signed_fault, unsigned_fault}
use Rattle.lnt_wire.proofs.LengthLaws.{length-number_bytes, same_prefix, same_rest}
use Rattle.lnt_header.specs.FieldFaults.{IsWrongOperand, FirstOfSeveral}
use Rattle.lnt_header.specs.FieldFaults.FirstOfSeveral.{next}
use Rattle.lnt_header.specs.HeaderRules.{AreHeaderNumbers}
use Rattle.lnt_header.specs.Joins.{Each, Several}
use Rattle.lnt_header.specs.OpRules.{Coding, coding, Following, following, known_followings, last_known, Operand, standard_length, taken_by}
use Rattle.lnt_header.specs.OpRules.Following.{as_listed, by_length, nothing_more, one_signed, one_unsigned, two_bytes}
use Rattle.lnt_header.specs.OpRules.Taken.{takes_address, takes_any, takes_nothing, takes_number}
use Rattle.lnt_header.specs.declared.numbers.NumberParts.{NumberParts}
use Rattle.lnt_header.proofs.FirstFaultLaws.{AreOne, each_one, field_fault, IsHere, IsOneFault, several_of}
use Rattle.lnt_ops.proofs.ExtendedReaders.{right_of, unknown_takes}
use Rattle.lnt_ops.proofs.OpLaws.{extended_parts, follows, op_code, op_is_some, takes_its, TakesIts}
use Rattle.lnt_ops.specs.OpBytes.{CodingBytes, Extended, OpBytes, OperandBytes, Standard}
use Rattle.lnt_ops.specs.OpFaults.{IsFirstFault}
use Rattle.lnt_ops.specs.OpFaults.IsFirstFault.{no_opcode, unsigned_operand, signed_operand, fixed_operand, unknown_operand, no_length}
use Rattle.lnt_ops.specs.OpFaults.IsFirstFault.{cut_counted, wrong_counted, large_counted}
use Rattle.lnt_ops.specs.OpSteps.{IsRightOperand}
use Rattle.lnt_ops.specs.Programs.{BrokenProgram, IsFirstIn}
use Rattle.std.proofs.lemmas.Grind.{common_steps}

-- ---- after a zero byte

-- What is wrong after a length: the bytes that it counts are cut, or are no operation.
data IsCountedFault (address_size : ℕ) (reason : Reason) (n : ℕ) (spelling rest past : List ℕ) : Type 0 where
  short : reason ≡ Truncated → past ≡ spelling → length rest < n → IsCountedFault address_size reason n spelling rest past
  wrong : (operation more : List ℕ) → reason ≡ ExtendedLength → past ≡ [] → length operation ≡ n → rest ≡ operation ++ more
      → IsWrongOperand address_size operation → IsCountedFault address_size reason n spelling rest past
  large : (code : ℕ) (operand more : List ℕ) → reason ≡ LebTooLarge → past ≡ spelling ++ code ∷ [] → length (code ∷ operand) ≡ n
      → rest ≡ (code ∷ operand) ++ more → taken_by code ≡ takes_number → IsLeb operand → IsLargeUnsigned operand
      → IsCountedFault address_size reason n spelling rest past

-- The length isn't there; or it is, and something is wrong after it.
data IsExtendedFault (address_size : ℕ) (reason : Reason) (past left : List ℕ) : Type 0 where
  missing : past ≡ [] → IsLebFault IsLargeUnsigned reason left → IsExtendedFault address_size reason past left
  counted : (n : ℕ) (spelling rest : List ℕ) → UnsignedLeb n spelling → past ++ left ≡ spelling ++ rest
      → IsCountedFault address_size reason n spelling rest past → IsExtendedFault address_size reason past left

-- the same length first, and what follows it
record SameCount (m n : ℕ) (x y r s : List ℕ) : Type 0 where
  count : m ≡ n
  bytes : x ≡ y
  past : r ≡ s

same_count : (m n : ℕ) (x y r s : List ℕ) → UnsignedLeb m x → UnsignedLeb n y → x ++ r ≡ y ++ s → SameCount m n x y r s
same_count m n x y r s p q e =
    let found = unsigned_code.one m n x y r s p q e in record { count = found.0; bytes = found.1; past = same_rest x y r s found.1 e }

-- a number that is too large fills no operation wrongly
not_wrong : (address_size code : ℕ) (operation operand : List ℕ) → taken_by code ≡ takes_number → operation ≡ code ∷ operand → IsLeb operand
    → IsWrongOperand address_size operation → ⊥
not_wrong address_size code operation operand takes e shape w = grind (arith, common_steps)

unsigned_here : IsOneFault UnsignedLeb (IsHere (IsLebFault IsLargeUnsigned))
unsigned_here = field_fault UnsignedLeb (IsLebFault IsLargeUnsigned) unsigned_fault

counted_one : (address_size m n : ℕ) (x y r s past past' : List ℕ) (reason other : Reason) → SameCount m n x y r s
    → IsCountedFault address_size reason m x r past → IsCountedFault address_size other n y s past' → (reason ≡ other) × (past ≡ past')
counted_one size m n x y r s past past' reason other same (short is joined lt) (short is' joined' lt') =
    (is ∙ sym is', joined ∙ same.bytes ∙ sym joined')
counted_one size m n x y r s past past' reason other same (short is joined lt) (wrong op more is' nothing count e w) =
    absurd (omega (arith, lt, same.count, count, ap length same.past, ap length e, length-append op more))
counted_one size m n x y r s past past' reason other same (short is joined lt) (large c o more is' joined' count e takes shape much) =
    absurd (omega (arith, lt, same.count, count, ap length same.past, ap length e, length-append o more))
counted_one size m n x y r s past past' reason other same (wrong op more is nothing count e w) (short is' joined lt) =
    absurd (omega (arith, lt, same.count, count, ap length same.past, ap length e, length-append op more))
counted_one size m n x y r s past past' reason other same (large c o more is joined count e takes shape much) (short is' joined' lt) =
    absurd (omega (arith, lt, same.count, count, ap length same.past, ap length e, length-append o more))
counted_one size m n x y r s past past' reason other same (wrong op more is nothing count e w) (wrong op' more' is' nothing' count' e' w') =
    (is ∙ sym is', nothing ∙ sym nothing')
counted_one size m n x y r s past past' reason other same (wrong op more is nothing count e w)
    (large c o more' is' joined count' e' takes shape much) =
    let whole = same_prefix op (c ∷ o) more more' (count ∙ same.count ∙ sym count') (sym e ∙ same.past ∙ e') in
    absurd (not_wrong size c op o takes whole shape w)
counted_one size m n x y r s past past' reason other same (large c o more is joined count e takes shape much)
    (wrong op more' is' nothing count' e' w) =
    let whole = same_prefix op (c ∷ o) more' more (count' ∙ sym same.count ∙ sym count) (sym e' ∙ sym same.past ∙ e) in
    absurd (not_wrong size c op o takes whole shape w)
counted_one size m n x y r s past past' reason other same (large c o more is joined count e takes shape much)
    (large c' o' more' is' joined' count' e' takes' shape' much') =
    let heads : c ∷ (o ++ more) ≡ c' ∷ (o' ++ more') = sym e ∙ same.past ∙ e' in
    let codes : c ≡ c' = cc in
    (is ∙ sym is', joined ∙ ap (λ (z : List ℕ). z ++ c ∷ []) same.bytes ∙ ap (λ (a : ℕ). y ++ a ∷ []) codes ∙ sym joined')

extended_one : (address_size : ℕ) → AreOne (IsExtendedFault address_size)
extended_one size reason other past past' left left' (missing nothing h) (missing nothing' k) e =
    unsigned_here.one reason other past past' left left' (nothing, h) (nothing', k) e
extended_one size reason other past past' left left' (missing nothing h) (counted n x rest p whole f) e =
    absurd (unsigned_fault.none reason left h n x rest p (sym (ap (λ (z : List ℕ). z ++ left) (sym nothing) ∙ e ∙ whole)))
extended_one size reason other past past' left left' (counted n x rest p whole f) (missing nothing k) e =
    absurd (unsigned_fault.none other left' k n x rest p (sym (ap (λ (z : List ℕ). z ++ left') (sym nothing) ∙ sym e ∙ whole)))
extended_one size reason other past past' left left' (counted n x rest p whole f) (counted n' x' rest' p' whole' f') e =
    counted_one size n n' x x' rest rest' past past' reason other (same_count n n' x x' rest rest' p p' (sym whole ∙ e ∙ whole')) f f'

-- no right operation has such a fault: one whose operand fits its code, and whose number, if it takes one, is in range
counted_none : (address_size code n : ℕ) (operand spelling more x rest past : List ℕ) (reason : Reason)
    → SameCount (length (code ∷ operand)) n spelling x ((code ∷ operand) ++ more) rest → IsRightOperand address_size (code ∷ operand)
    → (taken_by code ≡ takes_number → IsLargeUnsigned operand → ⊥) → IsCountedFault address_size reason n x rest past → ⊥
counted_none size code n operand spelling more x rest past reason same right small (short is joined lt) =
    omega (arith, lt, same.count, ap length same.past, length-append operand more)
counted_none size code n operand spelling more x rest past reason same right small (wrong op more' is nothing count e w) =
    let whole = same_prefix op (code ∷ operand) more' more (count ∙ sym same.count) (sym e ∙ sym same.past) in
    subst (IsWrongOperand size) whole w right
counted_none size code n operand spelling more x rest past reason same right small (large c o more' is joined count e takes shape much) =
    let whole : code ∷ operand ≡ c ∷ o = same_prefix (code ∷ operand) (c ∷ o) more more' (same.count ∙ sym count) (same.past ∙ e) in
    let codes : code ≡ c = cc in
    let operands : o ≡ operand = cc in
    small (ap taken_by codes ∙ takes) (subst IsLargeUnsigned operands much)

extended_none : (address_size : ℕ) (reason : Reason) (past left : List ℕ) (code : ℕ) (operand spelling more : List ℕ)
    → IsExtendedFault address_size reason past left
    → UnsignedLeb (length (code ∷ operand)) spelling → IsRightOperand address_size (code ∷ operand)
    → (taken_by code ≡ takes_number → IsLargeUnsigned operand → ⊥) → spelling ++ ((code ∷ operand) ++ more) ≡ past ++ left → ⊥
extended_none size reason past left code operand spelling more (missing nothing h) p right small e =
    unsigned_fault.none reason left h (length (code ∷ operand)) spelling ((code ∷ operand) ++ more) p
    (e ∙ ap (λ (z : List ℕ). z ++ left) nothing)
extended_none size reason past left code operand spelling more (counted n x rest q whole f) p right small e =
    let same = same_count (length (code ∷ operand)) n spelling x ((code ∷ operand) ++ more) rest p q (e ∙ whole) in
    counted_none size code n operand spelling more x rest past reason same right small f

-- ---- operands, by their opcodes

abbrev OfOperand : NumberParts → ℕ → Following → Reason → List ℕ → List ℕ → Type 0
OfOperand h code by_length reason past left = IsExtendedFault h.address_size reason past left
OfOperand h code one_unsigned reason past left = IsHere (IsLebFault IsLargeUnsigned) reason past left
OfOperand h code one_signed reason past left = IsHere (IsLebFault IsLargeSigned) reason past left
OfOperand h code two_bytes reason past left = IsHere (IsCutShort 2) reason past left
OfOperand h code nothing_more reason past left = ⊥
OfOperand h code as_listed reason past left =
    FirstOfSeveral (standard_length h code) UnsignedLeb (IsHere (IsLebFault IsLargeUnsigned)) reason past left

signed_here : IsOneFault SignedLeb (IsHere (IsLebFault IsLargeSigned))
signed_here = field_fault SignedLeb (IsLebFault IsLargeSigned) signed_fault

fixed_here : (h : NumberParts) → IsOneFault (NumberBytes h.order 2) (IsHere (IsCutShort 2))
fixed_here h = field_fault (NumberBytes h.order 2) (IsCutShort 2) (number_fault h.order 2)

listed_here : (n : ℕ) → IsOneFault (Several n UnsignedLeb) (FirstOfSeveral n UnsignedLeb (IsHere (IsLebFault IsLargeUnsigned)))
listed_here n = several_of UnsignedLeb (IsHere (IsLebFault IsLargeUnsigned)) unsigned_code unsigned_here n

operand_one : (h : NumberParts) (code : ℕ) (kind : Following) → AreOne (OfOperand h code kind)
operand_one h code by_length reason other before before' left left' p q e =
    extended_one h.address_size reason other before before' left left' p q e
operand_one h code one_unsigned reason other before before' left left' p q e =
    unsigned_here.one reason other before before' left left' p q e
operand_one h code one_signed reason other before before' left left' p q e = signed_here.one reason other before before' left left' p q e
operand_one h code two_bytes reason other before before' left left' p q e = (fixed_here h).one reason other before before' left left' p q e
operand_one h code nothing_more reason other before before' left left' p q e = absurd p
operand_one h code as_listed reason other before before' left left' p q e =
    (listed_here (standard_length h code)).one reason other before before' left left' p q e

-- the fault of an operand stands after an opcode that isn't special
record IsOperandFault (h : NumberParts) (reason : Reason) (before left : List ℕ) : Type 0 where
  code : ℕ
  past : List ℕ
  within : code < h.opcode_base
  joined : before ≡ code ∷ past
  fault : OfOperand h code (following code) reason past left

data IsOpcodeFault (h : NumberParts) (reason : Reason) (before left : List ℕ) : Type 0 where
  nothing : reason ≡ Truncated → before ≡ [] → left ≡ [] → IsOpcodeFault h reason before left
  operand : IsOperandFault h reason before left → IsOpcodeFault h reason before left

takes_listed : (code : ℕ) → last_known < code → following code ≡ as_listed
takes_listed code le = get_or_past known_followings code as_listed le

operand_fault : (h : NumberParts) (k : ℕ) (kind : Following) (reason : Reason) (past before left : List ℕ) → following k ≡ kind
    → k < h.opcode_base → before ≡ k ∷ past → OfOperand h k kind reason past left → IsOpcodeFault h reason before left
operand_fault h k kind reason past before left takes lt b fault = grind (arith, common_steps)

opcode_fault : (h : NumberParts) (reason : Reason) (before left : List ℕ) → 0 < h.opcode_base → IsFirstFault h reason before left
    → IsOpcodeFault h reason before left
opcode_fault h reason before left some (no_opcode e b l) = nothing e b l
opcode_fault h reason before left some (unsigned_operand k takes lt b p) =
    operand_fault h k one_unsigned reason [] before left takes lt b (refl, p)
opcode_fault h reason before left some (signed_operand k takes lt b p) =
    operand_fault h k one_signed reason [] before left takes lt b (refl, p)
opcode_fault h reason before left some (fixed_operand k e takes lt b cut) =
    operand_fault h k two_bytes reason [] before left takes lt b (refl, record { reason_is = e; short = cut })
opcode_fault h reason before left some (unknown_operand k numbers spelling le lt each fewer b p) =
    operand_fault h k as_listed reason spelling before left (takes_listed k le) lt b
    (next numbers spelling [] fewer each (sym (append-nil spelling)) (refl, p))
opcode_fault h reason before left some (no_length b p) = operand_fault h 0 by_length reason [] before left refl some b (missing refl p)
opcode_fault h reason before left some (cut_counted n spelling e p b cut) =
    operand_fault h 0 by_length reason spelling before left refl some b (counted n spelling left p refl (short e refl cut))
opcode_fault h reason before left some (wrong_counted e b w) = operand_fault h 0 by_length reason [] before left refl some b
    (counted (length w.1) w.0 (w.1 ++ w.2) w.3 (w.4 ∙ append_assoc w.0 w.1 w.2) (wrong w.1 w.2 e refl refl refl w.5))
opcode_fault h reason before left some (large_counted spelling o rest e p b l shape much) =
    operand_fault h 0 by_length reason (spelling ++ b.0 ∷ []) before left refl some b.2
    (counted (length o + 1) spelling ((b.0 ∷ o) ++ rest) p
    (append_assoc spelling (b.0 ∷ []) left ∙ ap (λ (z : List ℕ). spelling ++ b.0 ∷ z) l)
    (large b.0 o rest e refl (omega arith) refl b.1 shape much))

opcode_one : (h : NumberParts) → AreOne (IsOpcodeFault h)
opcode_one h reason other before before' left left' (nothing is b l) (nothing is' b' l') e = (is ∙ sym is', b ∙ sym b')
opcode_one h reason other before before' left left' (nothing is b l) (operand f) e = absurd (omega
    (arith, ap length e, length-append before left, length-append before' left', ap length b, ap length l, ap length f.joined))
opcode_one h reason other before before' left left' (operand f) (nothing is b l) e = absurd (omega
    (arith, ap length e, length-append before left, length-append before' left', ap length b, ap length l, ap length f.joined))
opcode_one h reason other before before' left left' (operand f) (operand g) e =
    let all : f.code ∷ (f.past ++ left) ≡ g.code ∷ (g.past ++ left') =
    ap (λ (z : List ℕ). z ++ left) (sym f.joined) ∙ e ∙ ap (λ (z : List ℕ). z ++ left') g.joined in
    let codes : f.code ≡ g.code = cc in
    let tails : f.past ++ left ≡ g.past ++ left' = cc in
    let here : OfOperand h g.code (following g.code) reason f.past left =
    subst (λ (c : ℕ). OfOperand h c (following c) reason f.past left) codes f.fault in
    let found = operand_one h g.code (following g.code) reason other f.past g.past left left' here g.fault tails in
    (found.0, f.joined ∙ ap (λ (c : ℕ). c ∷ f.past) codes ∙ ap (λ (z : List ℕ). g.code ∷ z) found.1 ∙ sym g.joined)

-- ---- operations that are there

-- the operand of a standard operation, and the fault that would be its own
record StandardAt (h : NumberParts) (k : ℕ) (OfOpcode : List ℕ → Type 0) (reason : Reason) (more past left : List ℕ) : Type 0 where
  bytes : List ℕ
  spelled : OfOpcode bytes
  joined : bytes ++ more ≡ past ++ left
  fault : OfOperand h k (following k) reason past left

standard_at : (h : NumberParts) (k : ℕ) (OfOpcode : List ℕ → Type 0) (reason : Reason) (before left x more : List ℕ)
    → (f : IsOperandFault h reason before left) → Standard h k OfOpcode x
    → x ++ more ≡ before ++ left → StandardAt h k OfOpcode reason more f.past left
standard_at h k OfOpcode reason before left x more f p e = grind (arith, common_steps)

extended_at : (h : NumberParts) (code : ℕ) (OfCode : List ℕ → Type 0) (reason : Reason) (before left x more : List ℕ)
    → IsOperandFault h reason before left → Extended code OfCode x → x ++ more ≡ before ++ left
    → ((bytes : List ℕ) → OfCode bytes → IsRightOperand h.address_size (code ∷ bytes)
    × (taken_by code ≡ takes_number → IsLargeUnsigned bytes → ⊥)) → ⊥
extended_at h code OfCode reason before left x more f p e right =
    let q = extended_parts code OfCode x p in
    let all : 0 ∷ ((q.spelling ++ (code ∷ q.operand)) ++ more) ≡ f.code ∷ (f.past ++ left) =
    ap (λ (z : List ℕ). z ++ more) (sym q.joined) ∙ e ∙ ap (λ (z : List ℕ). z ++ left) f.joined in
    let codes : f.code ≡ 0 = cc in
    let tails : (q.spelling ++ (code ∷ q.operand)) ++ more ≡ f.past ++ left = cc in
    let fault : IsExtendedFault h.address_size reason f.past left =
    subst (λ (c : ℕ). OfOperand h c (following c) reason f.past left) codes f.fault in
    let is = right q.operand q.is in
    extended_none h.address_size reason f.past left code q.operand q.spelling more fault q.spelled is.0 is.1
    (sym (append_assoc q.spelling (code ∷ q.operand) more) ∙ tails)

fault_none : (h : NumberParts) (k : ℕ) (taken : Operand) (reason : Reason) (more past left : List ℕ)
    → (s : StandardAt h k (OperandBytes h taken) reason more past left) → OfOperand h k (follows taken) reason past left → ⊥
fault_none h k Operand.bare reason more past left s fault = fault
fault_none h k (Operand.unsigned n) reason more past left s fault =
    unsigned_here.none reason past left fault n s.bytes more s.spelled s.joined
fault_none h k (Operand.signed z) reason more past left s fault = signed_here.none reason past left fault z s.bytes more s.spelled s.joined
fault_none h k (Operand.half n) reason more past left s fault = (fixed_here h).none reason past left fault n s.bytes more s.spelled s.joined

-- no operation stands where an operand has a fault
coding_none : (h : NumberParts) (reason : Reason) (before left : List ℕ) (c : Coding) (x more : List ℕ) → TakesIts c
    → IsOperandFault h reason before left → CodingBytes h c x → x ++ more ≡ before ++ left → ⊥
coding_none h reason before left (Coding.special c) x more takes f p e =
    let all : c ∷ more ≡ f.code ∷ (f.past ++ left) =
    ap (λ (z : List ℕ). z ++ more) (sym p.2) ∙ e ∙ ap (λ (z : List ℕ). z ++ left) f.joined in
    let codes : c ≡ f.code = cc in
    omega (arith, codes, p.0, f.within)
coding_none h reason before left (Coding.standard k taken) x more takes f p e =
    let s = standard_at h k (OperandBytes h taken) reason before left x more f p e in
    fault_none h k taken reason more f.past left s (subst (λ (kind : Following). OfOperand h k kind reason f.past left) takes s.fault)
coding_none h reason before left (Coding.unknown_standard k numbers) x more takes f p e =
    let s = standard_at h k (Each UnsignedLeb numbers) reason before left x more f p.2 e in
    let fault : OfOperand h k as_listed reason f.past left =
    subst (λ (kind : Following). OfOperand h k kind reason f.past left) (takes_listed k p.0) s.fault in
    (listed_here (standard_length h k)).none reason f.past left fault numbers s.bytes more (p.1, s.spelled) s.joined
coding_none h reason before left (Coding.extended code) x more takes f p e =
    extended_at h code (Exactly []) reason before left x more f p e (λ bytes q. (
      right_of h.address_size code takes_nothing bytes takes q,
      λ number. let other : takes_nothing ≡ takes_number = sym takes ∙ number in absurd cc,
    ))
coding_none h reason before left (Coding.extended_address code address) x more takes f p e =
    extended_at h code (NumberBytes h.order h.address_size address) reason before left x more f p e (λ bytes q. (
      right_of h.address_size code takes_address bytes takes
          (ap length q.spelled ∙ length-number_bytes h.order h.address_size address),
      λ number. let other : takes_address ≡ takes_number = sym takes ∙ number in absurd cc,
    ))
coding_none h reason before left (Coding.extended_number code n) x more takes f p e =
    extended_at h code (UnsignedLeb n) reason before left x more f p e (λ bytes q. (
      right_of h.address_size code takes_number bytes takes q.shape,
      λ _ much. omega (arith, much, q.value, q.fits),
    ))
coding_none h reason before left (Coding.unknown_extended code taken) x more takes f p e =
    let any = unknown_takes code p.0 in
    extended_at h code (Exactly taken) reason before left x more f p.2 e (λ bytes q. (
      right_of h.address_size code takes_any bytes any tt,
      λ number. let other : takes_any ≡ takes_number = sym any ∙ number in absurd cc,
    ))

opcode_none : (h : NumberParts) (reason : Reason) (before left : List ℕ) → IsOpcodeFault h reason before left
    → NoneSpelled (OpBytes h) (before ++ left)
opcode_none h reason before left (nothing is b l) op x more p e =
    omega (arith, op_is_some h op x p, ap length e, length-append x more, length-append before left, ap length b, ap length l)
opcode_none h reason before left (operand f) op x more p e = coding_none h reason before left (coding op) x more (takes_its op) f p e

-- ---- operations, and programs

pub first_none : (h : NumberParts) (reason : Reason) (before left : List ℕ) → 0 < h.opcode_base → IsFirstFault h reason before left
    → NoneSpelled (OpBytes h) (before ++ left)
first_none h reason before left some f = opcode_none h reason before left (opcode_fault h reason before left some f)

pub first_fault : (h : NumberParts) → AreHeaderNumbers h → IsOneFault (OpBytes h) (IsFirstFault h)
first_fault h numbers =
    let some : 0 < h.opcode_base = omega (arith, numbers.opcode_base) in
    record {
      none = λ reason before left f. first_none h reason before left some f;
      one = λ reason other before before' left left' f g e.
          opcode_one h reason other before before' left left' (opcode_fault h reason before left some f)
          (opcode_fault h other before' left' some g) e;
    }

first_in_one : (h : NumberParts) → AreHeaderNumbers h → AreOne (IsFirstIn h)
first_in_one h numbers reason other before before' left left' f g e =
    let all : f.prefix ++ (f.fields ++ left) ≡ g.prefix ++ (g.fields ++ left') =
    sym (ap (λ (z : List ℕ). z ++ left) f.joined ∙ append_assoc f.prefix f.fields left) ∙ e ∙ ap (λ (z : List ℕ). z ++ left') g.joined
    ∙ append_assoc g.prefix g.fields left' in
    let found =
    each_one (OpBytes h) (IsFirstFault h) (op_code h numbers) (first_fault h numbers) f.ops g.ops reason other f.prefix g.prefix f.fields
    g.fields left left' f.sound g.sound f.fault g.fault all in
    (found.0, f.joined ∙ found.1 ∙ sym g.joined)

-- a program has one fault
pub program_one : (h : NumberParts) (place : ℕ) (program : List ℕ) (fault other : Fault) → AreHeaderNumbers h
    → BrokenProgram h place program fault → BrokenProgram h place program other
    → (fault.place ≡ other.place) × (fault.reason ≡ other.reason)
program_one h place program fault other numbers f g =
    let found = first_in_one h numbers fault.reason other.reason f.before g.before f.left g.left f.first g.first (sym f.split ∙ g.split) in
    (omega (arith, f.place_is, g.place_is, ap length found.1), found.0)
