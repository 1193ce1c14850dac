-- The numbers of a header: fields of one byte that are read one after another, and the first that isn't there.
use Rattle.std.proofs.Common.{◌≡◌, ◌≢◌, ℕ, ◌+◌, ◌-◌, ◌<◌, ◌≤◌, List, [], ◌∷◌, ◌++◌, length, take, drop, get_or, refl, sym, ap, ◌∙◌}
use Rattle.std.proofs.Common.{append_assoc, add-zero, arith, Option, Some, None, ℤ, FitsSigned, Bool}
use Rattle.std.proofs.lemmas.List.{length-append, nil_from_length, take_more, drop_more, take-append-drop, take_all}
use Rattle.lnt_wire.specs.Reading.{At, Reads, RefusesField, Refuses, IsCutShort}
use Rattle.lnt_wire.specs.Bytes.{NoneSpelled, IsCode}
use Rattle.lnt_wire.specs.Numbers.{NumberBytes}
use Rattle.lnt_wire.specs.declared.fault.Fault.{Fault}
use Rattle.lnt_wire.specs.declared.fault.Reason.{Reason}
use Rattle.lnt_wire.specs.declared.format.Order.{Order}
use Rattle.lnt_wire.proofs.FieldFaultLaws.{IsOneFieldFault}
use Rattle.lnt_header.specs.FieldFaults.{FirstOf}
use Rattle.lnt_header.specs.FieldFaults.FirstOf.{first, second}
use Rattle.lnt_header.specs.Joins.{Both}
use Rattle.lnt_header.proofs.ByteLaws.{one_digit}
use Rattle.lnt_header.proofs.FirstFaultLaws.{fault_as, fault_of_part, field_fault, first_of, IsHere, IsOneFault}
use Rattle.lnt_header.proofs.ReaderLaws.{reads_map, refuses_map}
use Rattle.lnt_header_bytes.proofs.FaultLaws.{field_is_refused, so_after}
use Rattle.lnt_header_bytes.specs.Stepping.{ByteOf, IsByteFault}
use Rattle.lnt_header_bytes.specs.Stepping.IsByteFault.{no_byte, is_zero}
use Rattle.lnt_header_bytes.specs.HeaderFaults.{AreFieldBytes, IsSoundFault, MayBe, SoundBytes, SinglesBytes, IsSinglesFault, single_fields}
use Rattle.lnt_header_bytes.specs.HeaderFaults.{zero_reasons}
use Rattle.lnt_header_bytes.specs.HeaderFaults.IsSoundFault.{missing, zero_byte}
use Rattle.lnt_header_bytes.proofs.Prefixes.{prefix_taken}
use Rattle.std.proofs.lemmas.Grind.{common_steps}
use Rattle.std.specs.Int.{w8, cast_unsigned, cast_signed}
use Rattle.std.proofs.lemmas.Int.{to_z-of_z}
use Rattle.lnt_wire.proofs.LengthLaws.{same_prefix}
use Rattle.lnt_header_bytes.specs.declared.numbers.Singles.{Singles}

-- ---- one byte

byte_is : (order : Order) (n : ℕ) (x : List ℕ) → NumberBytes order 1 n x → x ≡ n ∷ []
byte_is order n x p = p.spelled ∙ one_digit order n p.fits

reads_byte : (zero_reason : Option Reason) (n : ℕ) (old new : At) → MayBe zero_reason n → Reads (NumberBytes old.order 1) n old new
    → Reads (ByteOf zero_reason) n old new
reads_byte zero_reason n old new may r = grind (arith, common_steps, reads_map, byte_is)

pub reads_any : (zero_reason : Option Reason) (n : ℕ) (old new : At) → zero_reason ≡ None → Reads (NumberBytes old.order 1) n old new
    → Reads (ByteOf zero_reason) n old new
reads_any zero_reason n old new is r = reads_byte zero_reason n old new (rw is tt) r

pub reads_some : (zero_reason : Option Reason) (reason : Reason) (n : ℕ) (old new : At) → zero_reason ≡ Some reason → n ≢ 0
    → Reads (NumberBytes old.order 1) n old new → Reads (ByteOf zero_reason) n old new
reads_some zero_reason reason n old new is some r = reads_byte zero_reason n old new (rw is (omega (arith, some))) r

byte_code : (rule : Option Reason) → IsCode (ByteOf rule)
byte_code rule = grind (arith, common_steps)

byte_none : (rule : Option Reason) (reason : Reason) (bytes : List ℕ) → IsByteFault rule reason bytes → NoneSpelled (ByteOf rule) bytes
byte_none rule reason bytes (no_byte reason_is ends) b x more p e = absurd (cc (e, ends, p.1))
byte_none rule reason bytes (is_zero rest rule_is joined) b x more p e =
    let all : b ∷ more ≡ 0 ∷ rest = ap (λ (z : List ℕ). z ++ more) (sym p.1) ∙ e ∙ joined in
    let here : b ≡ 0 = cc in
    omega (arith, here, rw rule_is at p.0)

byte_one : (rule : Option Reason) (reason other : Reason) (bytes : List ℕ) → IsByteFault rule reason bytes → IsByteFault rule other bytes
    → reason ≡ other
byte_one rule reason other bytes h k = grind (arith, common_steps)

byte_fault : (rule : Option Reason) → IsOneFieldFault (ByteOf rule) (IsByteFault rule)
byte_fault rule = record { none = byte_none rule; one = byte_one rule }

pub byte_cut : (zero_reason : Option Reason) (old : At) (fault : Fault) → RefusesField (IsCutShort 1) (NumberBytes old.order 1) old fault
    → RefusesField (IsByteFault zero_reason) (ByteOf zero_reason) old fault
byte_cut zero_reason old fault r = field_is_refused (byte_fault zero_reason) old fault fault.reason r.place refl
    (no_byte r.reason.reason_is (nil_from_length old.rest (omega (arith, r.reason.short))))

pub byte_zero : (zero_reason : Option Reason) (reason : Reason) (n : ℕ) (old new : At) (fault : Fault) → zero_reason ≡ Some reason
    → n ≡ 0 → Reads (NumberBytes old.order 1) n old new → fault.place ≡ old.place → fault.reason ≡ reason
    → RefusesField (IsByteFault zero_reason) (ByteOf zero_reason) old fault
byte_zero zero_reason reason n old new fault is zero_is r place same = field_is_refused (byte_fault zero_reason) old fault reason place same
    (is_zero new.rest is (simp (r.whole, byte_is old.order n r.spelling r.spelled, zero_is)))

-- what the reader of one byte cites
pub ruleset byte_exits = (reads_any, reads_some, byte_cut, byte_zero)

-- ---- several

-- So many were read.
pub record BytesSoFar (zero_reasons : List (Option Reason)) (count : ℕ) (old now : At) : Type 0 where
  pub bytes : List ℕ
  pub read : Reads (SoundBytes (take count zero_reasons)) bytes old now

sound_push : (rules : List (Option Reason)) (rule : Option Reason) (bytes : List ℕ) (b : ℕ) → AreFieldBytes rules bytes → MayBe rule b
    → AreFieldBytes (rules ++ rule ∷ []) (bytes ++ b ∷ [])
sound_push [] rule [] b s may = (may, tt)
sound_push (r ∷ rules) rule (c ∷ bytes) b s may = (s.0, sound_push rules rule bytes b s.1 may)
sound_push rules rule bytes b s may = absurd s

pub none_so_far : (zero_reasons : List (Option Reason)) (at : At) → BytesSoFar zero_reasons 0 at at
none_so_far zero_reasons at = grind (arith, common_steps, add-zero)

pub next_so_far : (zero_reasons : List (Option Reason)) (i : ℕ) (d : Option Reason) (b : ℕ) (old middle new : At) → i < length zero_reasons
    → BytesSoFar zero_reasons i old middle → Reads (ByteOf (get_or zero_reasons i d)) b middle new → BytesSoFar zero_reasons (i + 1) old new
next_so_far zero_reasons i d b old middle new lt s r =
    let q = s.read in
    let pushed = sound_push (take i zero_reasons) (get_or zero_reasons i d) q.spelling b q.spelled.0 r.spelled.0 in
    record {
      bytes = q.spelling ++ r.spelling;
      read = record {
        spelling = q.spelling ++ r.spelling;
        spelled = (rw (r.spelled.1, take_more zero_reasons i d lt) pushed, refl);
        whole = simp (q.whole, r.whole, append_assoc);
        place = omega (arith, r.place, q.place, length-append q.spelling r.spelling);
        order = r.order ∙ q.order;
      };
    }

pub all_so_far : (zero_reasons : List (Option Reason)) (count : ℕ) (bytes all left : List ℕ) (old new : At) → length zero_reasons ≤ count
    → BytesSoFar zero_reasons count old new → all ≡ old.rest → left ≡ new.rest → bytes ≡ take (length all - length left) all
    → Reads (SoundBytes zero_reasons) bytes old new
all_so_far zero_reasons count bytes all left old new le s all_is left_is bytes_are = grind (arith, common_steps, take_all, prefix_taken)

-- a fault of such fields, one after another
abbrev IsChainFault : List (Option Reason) → Reason → List ℕ → List ℕ → Type 0
IsChainFault [] reason before left = ⊥
IsChainFault (rule ∷ rules) reason before left =
    FirstOf (ByteOf rule) (IsHere (IsByteFault rule)) (λ _. IsChainFault rules) reason before left

abbrev parted : List ℕ → ℕ × List ℕ
parted [] = (0, [])
parted (b ∷ bytes) = (b, bytes)

of_bytes : (rule : Option Reason) (rules : List (Option Reason)) (values x : List ℕ) → SoundBytes (rule ∷ rules) values x
    → Both (ByteOf rule) (λ _. SoundBytes rules) (parted values) x
of_bytes rule rules values [] p = absurd p.0
of_bytes rule rules values (b ∷ x) p =
    rw p.1 (record { prefix = b ∷ []; back = x; first = (p.0.0, refl); second = (p.0.1, refl); joined = refl })

chain_fault : (rules : List (Option Reason)) → IsOneFault (SoundBytes rules) (IsChainFault rules)
chain_fault [] =
    record { none = λ reason before left h. absurd h; one = λ reason other before before' left left' h k e. absurd h }
chain_fault (rule ∷ rules) =
    fault_of_part (Both (ByteOf rule) (λ _. SoundBytes rules)) (SoundBytes (rule ∷ rules)) (IsChainFault (rule ∷ rules)) parted
    (of_bytes rule rules)
    (first_of (ByteOf rule) (IsHere (IsByteFault rule)) (λ _. IsChainFault rules) (byte_code rule) (λ _. SoundBytes rules)
    (field_fault (ByteOf rule) (IsByteFault rule) (byte_fault rule)) (λ _. chain_fault rules))

chain_of : (done : List (Option Reason)) (rule : Option Reason) (past : List (Option Reason)) (reason : Reason) (before left : List ℕ)
    → AreFieldBytes done before → IsByteFault rule reason left → IsChainFault (done ++ rule ∷ past) reason before left
chain_of [] rule past reason [] left s h = first (refl, h)
chain_of (d ∷ done) rule past reason (b ∷ before) left s h =
    second b (b ∷ []) before (s.0, refl) refl (chain_of done rule past reason before left s.1 h)
chain_of done rule past reason before left s h = absurd s

sound_chain : (rules : List (Option Reason)) (reason : Reason) (before left : List ℕ) → IsSoundFault rules reason before left
    → IsChainFault rules reason before left
sound_chain rules reason before left (missing done rule past is s reason_is ends) =
    rw is (chain_of done rule past reason before left s (no_byte reason_is ends))
sound_chain rules reason before left (zero_byte done past more is s joined) =
    rw is (chain_of done (Some reason) past reason before left s (is_zero more refl joined))

sound_fault : (rules : List (Option Reason)) → IsOneFault (SoundBytes rules) (IsSoundFault rules)
sound_fault rules = fault_as (SoundBytes rules) (IsChainFault rules) (IsSoundFault rules) (sound_chain rules) (chain_fault rules)

fault_of : (rules done : List (Option Reason)) (rule : Option Reason) (past : List (Option Reason)) (reason : Reason) (before left : List ℕ)
    → rules ≡ done ++ rule ∷ past → AreFieldBytes done before → IsByteFault rule reason left → IsSoundFault rules reason before left
fault_of rules done rule past reason before left e s (no_byte reason_is ends) = missing done rule past e s reason_is ends
fault_of rules done rule past reason before left e s (is_zero more rule_is joined) =
    zero_byte done past more (e ∙ ap (λ (r : Option Reason). done ++ r ∷ past) rule_is) s joined

pub byte_missing : (zero_reasons : List (Option Reason)) (i : ℕ) (d : Option Reason) (old middle : At) (fault : Fault)
    → i < length zero_reasons → BytesSoFar zero_reasons i old middle
    → RefusesField (IsByteFault (get_or zero_reasons i d)) (ByteOf (get_or zero_reasons i d)) middle fault
    → Refuses (IsSoundFault zero_reasons) (SoundBytes zero_reasons) old fault
byte_missing zero_reasons i d old middle fault lt s r =
    let q = s.read in
    let done = take i zero_reasons in
    let rule = get_or zero_reasons i d in
    let past = drop (i + 1) zero_reasons in
    let whole : zero_reasons ≡ done ++ rule ∷ past = rw (← drop_more zero_reasons i d lt) (sym (take-append-drop i zero_reasons)) in
    so_after (sound_fault zero_reasons) old fault q r.place
    (fault_of zero_reasons done rule past fault.reason q.spelling middle.rest whole q.spelled.0 r.reason)

-- what the walk over the fields cites
pub ruleset sound_walk = (none_so_far, next_so_far, all_so_far, byte_missing)

-- ---- the numbers of a header

sound_fields : (has_max_ops : Bool) (n : Singles) (x : List ℕ) → SinglesBytes has_max_ops n x
    → SoundBytes (zero_reasons has_max_ops) (single_fields has_max_ops n) x
sound_fields has_max_ops n x p = grind (arith, common_steps)

pub singles_fault : (has_max_ops : Bool) → IsOneFault (SinglesBytes has_max_ops) (IsSinglesFault has_max_ops)
singles_fault has_max_ops = fault_of_part (SoundBytes (zero_reasons has_max_ops)) (SinglesBytes has_max_ops) (IsSinglesFault has_max_ops)
    (single_fields has_max_ops) (sound_fields has_max_ops) (sound_fault (zero_reasons has_max_ops))

pub singles_refused : (has_max_ops : Bool) (old : At) (fault : Fault)
    → Refuses (IsSinglesFault has_max_ops) (SoundBytes (zero_reasons has_max_ops)) old fault
    → Refuses (IsSinglesFault has_max_ops) (SinglesBytes has_max_ops) old fault
singles_refused has_max_ops old fault r =
    refuses_map (SoundBytes (zero_reasons has_max_ops)) (SinglesBytes has_max_ops) (single_fields has_max_ops) old fault
    (sound_fields has_max_ops) r

pub singles_read : (has_max_ops : Bool) (bytes : List ℕ) (n : Singles) (old new : At) → SinglesBytes has_max_ops n bytes
    → Reads (SoundBytes (zero_reasons has_max_ops)) bytes old new → Reads (SinglesBytes has_max_ops) n old new
singles_read has_max_ops bytes n old new p r = grind (arith, common_steps, reads_map)

-- ---- one value for its bytes

same_signed_byte : (z z' : ℤ) → FitsSigned w8 z → FitsSigned w8 z' → cast_unsigned w8 z ≡ cast_unsigned w8 z' → z ≡ z'
same_signed_byte z z' p q e = sym (to_z-of_z w8 z p) ∙ ap (cast_signed w8) e ∙ to_z-of_z w8 z' q

same_singles : (n m : Singles) → n.minimum_instruction_length ≡ m.minimum_instruction_length → n.max_ops ≡ m.max_ops
    → n.default_is_stmt ≡ m.default_is_stmt → n.line_base ≡ m.line_base → n.line_range ≡ m.line_range → n.opcode_base ≡ m.opcode_base
    → n ≡ m
same_singles n m a b c d f g = grind (arith, common_steps)

same_of : (has_max_ops : Bool) (n m : Singles) (x : List ℕ) → SinglesBytes has_max_ops n x → SinglesBytes has_max_ops m x → n ≡ m
same_of has_max_ops n m x p q = grind (arith, common_steps, same_singles, same_signed_byte)

single_count : (has_max_ops : Bool) (n m : Singles) → length (single_fields has_max_ops n) ≡ length (single_fields has_max_ops m)
single_count has_max_ops n m = grind (arith, common_steps)

pub singles_code : (has_max_ops : Bool) → IsCode (SinglesBytes has_max_ops)
singles_code has_max_ops = grind (arith, common_steps, same_prefix, single_count, same_of)
