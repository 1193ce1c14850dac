-- Extended operations: a zero byte, a length, and as many bytes.
use Rattle.std.proofs.Common.{◌≡◌, ℕ, zero, suc, ◌+◌, ◌<◌, ◌≤◌, List, [], ◌∷◌, ◌++◌, length, take, drop, get_or, refl, sym}
use Rattle.std.proofs.Common.{ap, subst, ◌∙◌, append_assoc, arith}
use Rattle.std.proofs.Math.Seq.{drop-length}
use Rattle.std.proofs.lemmas.List.{length-append, length-drop, append-nil, drop_more, take-append-drop, take_all}
use Rattle.lnt_wire.specs.Reading.{At, Reads, RefusesField, IsCutShort}
use Rattle.lnt_wire.specs.Bytes.{TakenBytes, Exactly, ◌⨾◌}
use Rattle.lnt_wire.specs.declared.fault.Fault.{Fault}
use Rattle.lnt_wire.specs.declared.fault.Reason.{Reason}
use Rattle.lnt_wire.specs.declared.fault.Reason.TheVariants.{Truncated, LebTooLarge}
use Rattle.lnt_wire.specs.FormBytes.{BlockBytes}
use Rattle.lnt_wire.proofs.CodeLaws.{same_leb}
use Rattle.lnt_wire.proofs.LebLemmas.{leb_push}
use Rattle.lnt_wire.specs.Leb128.{IsLeb, AreHigh, UnsignedLeb, IsLargeUnsigned, IsLebFault}
use Rattle.lnt_wire.specs.Numbers.{NumberBytes}
use Rattle.lnt_header.specs.declared.numbers.NumberParts.{NumberParts}
use Rattle.lnt_header.specs.declared.op.Op.TheVariants as ops
use Rattle.lnt_header.specs.declared.op.OpView.{OpView}
use Rattle.lnt_header.specs.declared.op.OpView.TheVariants as views
use Rattle.lnt_header.specs.FieldFaults.{IsWrongOperand}
use Rattle.lnt_header.specs.OpRules.{Coding, coding, FitsTaken, IsUnknownCode, StandsFor, Taken, taken_by}
use Rattle.lnt_header.specs.OpRules.Taken.{takes_address, takes_any, takes_nothing, takes_number}
use Rattle.lnt_ops.proofs.StandardReaders.{refused_at}
use Rattle.lnt_ops.specs.OpBytes.{CodingBytes, Extended}
use Rattle.lnt_ops.specs.OpFaults.IsFirstFault.{no_length, cut_counted, wrong_counted, large_counted}
use Rattle.lnt_ops.specs.OpSteps.{GivesAfter, RefusesAfter, ExtendedBody, IsRightOperand, GivesCounted, IsCountedOpFault, IsLargeNumber}
use Rattle.lnt_ops.specs.OpSteps.IsCountedOpFault.{wrong_operand, large_number}
use Rattle.std.proofs.lemmas.Grind.{common_steps}

-- ---- a number in groups of seven bits, and nothing else

-- the first byte below 128 is the last one
leb_ends : (prefix : List ℕ) (b : ℕ) (more : List ℕ) → AreHigh prefix → b < 128 → IsLeb (prefix ++ b ∷ more) → more ≡ []
leb_ends [] b [] h lt p = refl
leb_ends [] b (c ∷ more) h lt p = absurd (omega (arith, p.0, lt))
leb_ends (a ∷ []) b more h lt p = leb_ends [] b more tt lt p.1
leb_ends (a ∷ c ∷ prefix) b more h lt p = leb_ends (c ∷ prefix) b more h.1 lt p.1

cut_at : (bytes : List ℕ) (i : ℕ) → i < length bytes → bytes ≡ take i bytes ++ get_or bytes i 0 ∷ drop (i + 1) bytes
cut_at bytes i lt = sym (take-append-drop i bytes) ∙ ap (λ (z : List ℕ). take i bytes ++ z) (drop_more bytes i 0 lt)

pub leb_found : (bytes : List ℕ) (i : ℕ) → i < length bytes → AreHigh (take i bytes) → get_or bytes i 0 < 128 → i + 1 ≡ length bytes
    → IsLeb bytes
leb_found bytes i lt h low e = grind (arith, common_steps, drop-length, cut_at, leb_push)

pub leb_last : (bytes : List ℕ) (i : ℕ) → i < length bytes → AreHigh (take i bytes) → get_or bytes i 0 < 128 → IsLeb bytes
    → i + 1 ≡ length bytes
leb_last bytes i lt h low p =
    let nothing : drop (i + 1) bytes ≡ [] = leb_ends (take i bytes) (get_or bytes i 0) (drop (i + 1) bytes) h low
    (subst IsLeb (cut_at bytes i lt) p) in
    omega (arith, length-drop (i + 1) bytes, ap length nothing, lt)

pub leb_cut : (bytes : List ℕ) → AreHigh bytes → IsLeb bytes → ⊥
leb_cut [] h p = p
leb_cut (b ∷ []) h p = omega (arith, h.0, p)
leb_cut (b ∷ c ∷ bytes) h p = leb_cut (c ∷ bytes) h.1 p.1

pub leb_all : (bytes : List ℕ) (i : ℕ) → length bytes ≤ i → AreHigh (take i bytes) → IsLeb bytes → ⊥
leb_all bytes i le h p = leb_cut bytes (subst AreHigh (take_all i bytes le) h) p

-- a number at the beginning is the whole, where the whole has its shape
whole_leb : (n : ℕ) (old new : At) → IsLeb old.rest → Reads UnsignedLeb n old new → UnsignedLeb n old.rest
whole_leb n old new shape r =
    let same : r.spelling ≡ old.rest = same_leb r.spelling old.rest new.rest [] r.spelled.shape shape
    (sym r.whole ∙ sym (append-nil old.rest)) in
    subst (UnsignedLeb n) same r.spelled

-- ---- a code and its operand

-- a code that isn't known takes any bytes
pub unknown_takes : (code : ℕ) → IsUnknownCode code → taken_by code ≡ takes_any
unknown_takes zero unknown = refl
unknown_takes (suc zero) unknown = absurd (unknown.0 refl)
unknown_takes (suc (suc zero)) unknown = absurd (unknown.1 refl)
unknown_takes (suc (suc (suc zero))) unknown = refl
unknown_takes (suc (suc (suc (suc zero)))) unknown = absurd (unknown.2 refl)
unknown_takes (suc (suc (suc (suc (suc code))))) unknown = refl

pub right_of : (address_size code : ℕ) (kind : Taken) (operand : List ℕ) → taken_by code ≡ kind → FitsTaken address_size kind operand
    → IsRightOperand address_size (code ∷ operand)
right_of address_size code kind operand takes fits = subst (λ (t : Taken). FitsTaken address_size t operand) (sym takes) fits

-- what follows the code k
fits_as : (address_size code k : ℕ) (operand : List ℕ) → code ≡ k → IsRightOperand address_size (code ∷ operand)
    → FitsTaken address_size (taken_by k) operand
fits_as address_size code k operand e right = subst (λ (c : ℕ). FitsTaken address_size (taken_by c) operand) e right

pub right_end : (address_size : ℕ) (bytes : List ℕ) → 0 < length bytes → get_or bytes 0 0 ≡ 1 → length (drop 1 bytes) ≡ 0
    → IsRightOperand address_size bytes
right_end address_size [] some e p = absurd (omega arith)
right_end address_size (code ∷ []) some e p = right_of address_size code takes_nothing [] (ap taken_by e) refl
right_end address_size (code ∷ byte ∷ operand) some e p = absurd (omega (arith, p))

pub right_address : (address_size : ℕ) (bytes : List ℕ) → 0 < length bytes → get_or bytes 0 0 ≡ 2
    → length (drop 1 bytes) ≡ address_size → IsRightOperand address_size bytes
right_address address_size [] some e p = absurd (omega arith)
right_address address_size (code ∷ operand) some e p = right_of address_size code takes_address operand (ap taken_by e) p

pub right_discriminator : (address_size : ℕ) (bytes : List ℕ) → 0 < length bytes → get_or bytes 0 0 ≡ 4 → IsLeb (drop 1 bytes)
    → IsRightOperand address_size bytes
right_discriminator address_size [] some e p = absurd (omega arith)
right_discriminator address_size (code ∷ operand) some e p = right_of address_size code takes_number operand (ap taken_by e) p

pub right_other : (address_size : ℕ) (bytes : List ℕ) → 0 < length bytes → (get_or bytes 0 0 ≡ 1 → ⊥) → (get_or bytes 0 0 ≡ 2 → ⊥)
    → (get_or bytes 0 0 ≡ 4 → ⊥) → IsRightOperand address_size bytes
right_other address_size [] some end address discriminator = absurd (omega arith)
right_other address_size (code ∷ operand) some end address discriminator =
    right_of address_size code takes_any operand (unknown_takes code (end, address, discriminator)) tt

pub wrong_end : (address_size : ℕ) (bytes : List ℕ) → 0 < length bytes → get_or bytes 0 0 ≡ 1 → 0 < length (drop 1 bytes)
    → IsWrongOperand address_size bytes
wrong_end address_size [] some e p = absurd (omega arith)
wrong_end address_size (code ∷ operand) some e p = λ right. omega (arith, p, ap length (fits_as address_size code 1 operand e right))

pub wrong_address : (address_size : ℕ) (bytes : List ℕ) → 0 < length bytes → get_or bytes 0 0 ≡ 2
    → (length (drop 1 bytes) ≡ address_size → ⊥) → IsWrongOperand address_size bytes
wrong_address address_size [] some e p = absurd (omega arith)
wrong_address address_size (code ∷ operand) some e p = λ right. p (fits_as address_size code 2 operand e right)

pub wrong_discriminator : (address_size : ℕ) (bytes : List ℕ) → 0 < length bytes → get_or bytes 0 0 ≡ 4 → (IsLeb (drop 1 bytes) → ⊥)
    → IsWrongOperand address_size bytes
wrong_discriminator address_size [] some e p = absurd (omega arith)
wrong_discriminator address_size (code ∷ operand) some e p = λ right. p (fits_as address_size code 4 operand e right)

pub no_code : (address_size : ℕ) (bytes : List ℕ) → length bytes ≡ 0 → IsWrongOperand address_size bytes
no_code address_size [] e = tt
no_code address_size (code ∷ operand) e = absurd (omega arith)

-- ---- the bytes that a length counts

code_first : (code : ℕ) (Operand : List ℕ → Type 0) (bytes : List ℕ) → 0 < length bytes → get_or bytes 0 0 ≡ code → Operand (drop 1 bytes)
    → (Exactly (code ∷ []) ⨾ Operand) bytes
code_first code Operand [] some e p = absurd (omega arith)
code_first code Operand (b ∷ operand) some e p = record {
  prefix = code ∷ [];
  back = operand;
  first = refl;
  second = p;
  joined = ap (λ (c : ℕ). c ∷ operand) e;
}

some_code : (address_size : ℕ) (bytes : List ℕ) → IsRightOperand address_size bytes → 0 < length bytes
some_code address_size [] right = absurd right
some_code address_size (code ∷ operand) right = omega arith

operand_ends : (address_size : ℕ) (bytes : List ℕ) → IsRightOperand address_size bytes → get_or bytes 0 0 ≡ 1 → drop 1 bytes ≡ []
operand_ends address_size [] right e = refl
operand_ends address_size (code ∷ operand) right e = fits_as address_size code 1 operand e right

pub address_whole : (address_size : ℕ) (bytes rest : List ℕ) → IsRightOperand address_size bytes → get_or bytes 0 0 ≡ 2
    → rest ≡ drop 1 bytes → length rest ≡ address_size
address_whole address_size [] rest right e same = absurd right
address_whole address_size (code ∷ operand) rest right e same = ap length same ∙ fits_as address_size code 2 operand e right

-- a code that takes a number
number_whole : (address_size : ℕ) (bytes : List ℕ) → IsRightOperand address_size bytes → taken_by (get_or bytes 0 0) ≡ takes_number
    → IsLeb (drop 1 bytes)
number_whole address_size [] right takes = absurd right
number_whole address_size (code ∷ operand) right takes = subst (λ (t : Taken). FitsTaken address_size t operand) takes right

pub gives_end : (h : NumberParts) (bytes : List ℕ) → IsRightOperand h.address_size bytes → get_or bytes 0 0 ≡ 1
    → GivesCounted h views.EndSequence bytes
gives_end h bytes right e =
    record {
      op = ops.EndSequence;
      stands = tt;
      admitted = tt;
      spelled = code_first 1 (Exactly []) bytes (some_code h.address_size bytes right) e (operand_ends h.address_size bytes right e);
    }

pub gives_address : (h : NumberParts) (bytes rest : List ℕ) (address : ℕ) → IsRightOperand h.address_size bytes → get_or bytes 0 0 ≡ 2
    → rest ≡ drop 1 bytes → NumberBytes h.order h.address_size address rest → GivesCounted h (views.SetAddress address) bytes
gives_address h bytes rest address right e same p = record {
  op = ops.SetAddress address;
  stands = refl;
  admitted = p.fits;
  spelled = code_first 2 (NumberBytes h.order h.address_size address) bytes (some_code h.address_size bytes right) e
      (subst (NumberBytes h.order h.address_size address) same p);
}

pub gives_discriminator : (h : NumberParts) (bytes : List ℕ) (n : ℕ) → IsRightOperand h.address_size bytes → get_or bytes 0 0 ≡ 4
    → UnsignedLeb n (drop 1 bytes) → GivesCounted h (views.SetDiscriminator n) bytes
gives_discriminator h bytes n right e p =
    record {
      op = ops.SetDiscriminator n;
      stands = refl;
      admitted = tt;
      spelled = code_first 4 (UnsignedLeb n) bytes (some_code h.address_size bytes right) e p;
    }

pub gives_other : (h : NumberParts) (code : ℕ) (view : OpView) (bytes : List ℕ) → IsRightOperand h.address_size bytes
    → get_or bytes 0 0 ≡ code → (code ≡ 1 → ⊥) → (code ≡ 2 → ⊥) → (code ≡ 4 → ⊥) → code < 256
    → StandsFor view (ops.UnknownExtended code (drop 1 bytes)) → GivesCounted h view bytes
gives_other h code view bytes right e end address discriminator byte stands = grind (arith, common_steps, code_first, some_code)

large_of : (start : ℕ) (fault : Fault) (bytes operand : List ℕ) → 0 < length bytes → taken_by (get_or bytes 0 0) ≡ takes_number
    → operand ≡ drop 1 bytes → IsLeb operand → fault.place ≡ start + 1
    → (reason : Reason) → fault.reason ≡ reason → IsLebFault IsLargeUnsigned reason operand → IsLargeNumber start fault bytes
large_of start fault [] operand some takes same shape place reason is h = absurd (omega arith)
large_of start fault (b ∷ more) operand some takes same shape place Truncated is h = absurd (leb_cut operand h shape)
large_of start fault (b ∷ more) operand some takes same shape place LebTooLarge is h =
    let whole : h.0 ≡ operand = same_leb h.0 operand h.1 [] h.2 shape (sym h.4 ∙ sym (append-nil operand)) in
    record {
      code = b;
      operand = operand;
      reason_is = is;
      place_is = place;
      takes = takes;
      joined = ap (λ (z : List ℕ). b ∷ z) (sym same);
      whole = shape;
      large = subst IsLargeUnsigned whole h.3;
    }
large_of start fault (b ∷ more) operand some takes same shape place reason is h = absurd h

pub gives_number : (address_size n : ℕ) (bytes : List ℕ) (at new : At) → IsRightOperand address_size bytes
    → taken_by (get_or bytes 0 0) ≡ takes_number → at.rest ≡ drop 1 bytes → Reads UnsignedLeb n at new → UnsignedLeb n (drop 1 bytes)
gives_number address_size n bytes at new right takes same r =
    let shape : IsLeb at.rest = subst IsLeb (sym same) (number_whole address_size bytes right takes) in
    subst (UnsignedLeb n) same (whole_leb n at new shape r)

pub refuses_number : (address_size start : ℕ) (bytes : List ℕ) (at : At) (fault : Fault) → IsRightOperand address_size bytes
    → taken_by (get_or bytes 0 0) ≡ takes_number → at.rest ≡ drop 1 bytes → at.place ≡ start + 1
    → RefusesField (IsLebFault IsLargeUnsigned) UnsignedLeb at fault → IsLargeNumber start fault bytes
refuses_number address_size start bytes at fault right takes same place r = grind (arith, common_steps, number_whole, large_of, some_code)

pub number_is_fault : (address_size length_place start : ℕ) (fault : Fault) (bytes : List ℕ) → IsLargeNumber start fault bytes
    → IsCountedOpFault address_size length_place start fault bytes
number_is_fault address_size length_place start fault bytes large = large_number large

pub takes_discriminator : (bytes : List ℕ) → get_or bytes 0 0 ≡ 4 → taken_by (get_or bytes 0 0) ≡ takes_number
takes_discriminator bytes e = ap taken_by e

-- ---- the length, and what it counts

in_op : (code : ℕ) (Operand : List ℕ → Type 0) (counted y : List ℕ) → (Exactly (code ∷ []) ⨾ Operand) counted
    → BlockBytes UnsignedLeb counted y → Extended code Operand (0 ∷ y)
in_op code Operand counted y q p = (counted, q, record { prefix = 0 ∷ []; back = y; first = refl; second = p; joined = refl })

op_of : (h : NumberParts) (c : Coding) (counted y : List ℕ) → ExtendedBody h c counted → BlockBytes UnsignedLeb counted y
    → CodingBytes h c (0 ∷ y)
op_of h (Coding.extended k) counted y q p = in_op k (Exactly []) counted y q p
op_of h (Coding.extended_number k n) counted y q p = in_op k (UnsignedLeb n) counted y q p
op_of h (Coding.extended_address k address) counted y q p = in_op k (NumberBytes h.order h.address_size address) counted y q p
op_of h (Coding.unknown_extended k operand) counted y q p = (q.0, q.1, in_op k (Exactly operand) counted y q.2 p)
op_of h c counted y q p = absurd q

pub gives_extended : (h : NumberParts) (n : ℕ) (view : OpView) (counted : List ℕ) (old middle new : At) → Reads UnsignedLeb n old middle
    → Reads (TakenBytes n) counted middle new → GivesCounted h view counted → GivesAfter h 0 view old new
gives_extended h n view counted old middle new r t g =
    let size : n ≡ length counted = sym t.spelled.count_is ∙ ap length (sym t.spelled.taken_is) in
    let block : BlockBytes UnsignedLeb counted (r.spelling ++ t.spelling) = record {
      prefix = r.spelling;
      back = t.spelling;
      first = subst (λ (k : ℕ). UnsignedLeb k r.spelling) size r.spelled;
      second = sym t.spelled.taken_is;
      joined = refl;
    } in
    record {
      op = g.op;
      stands = g.stands;
      admitted = g.admitted;
      reads = record {
        spelling = r.spelling ++ t.spelling;
        spelled = record { whole = op_of h (coding g.op) counted (r.spelling ++ t.spelling) g.spelled block };
        whole = r.whole ∙ ap (λ (z : List ℕ). r.spelling ++ z) t.whole ∙ sym (append_assoc r.spelling t.spelling new.rest);
        place = omega (arith, t.place, r.place, length-append r.spelling t.spelling);
        order = t.order ∙ r.order;
      };
    }

pub refuses_length : (h : NumberParts) (old : At) (fault : Fault) → RefusesField (IsLebFault IsLargeUnsigned) UnsignedLeb old fault
    → RefusesAfter h 0 old fault
refuses_length h old fault r = refused_at h 0 old fault r.place (no_length refl r.reason)

pub refuses_cut : (h : NumberParts) (n : ℕ) (old middle : At) (fault : Fault) → Reads UnsignedLeb n old middle
    → RefusesField (IsCutShort n) (TakenBytes n) middle fault → RefusesAfter h 0 old fault
refuses_cut h n old middle fault r t = record {
  before = r.spelling;
  left = middle.rest;
  split = r.whole;
  place = t.place ∙ r.place;
  reason = cut_counted n r.spelling t.reason.reason_is r.spelled refl t.reason.short;
}

-- the bytes that were read, up to the end of what the length counts
counted_joined : (n : ℕ) (counted : List ℕ) (old middle new : At) → (r : Reads UnsignedLeb n old middle)
    → Reads (TakenBytes n) counted middle new → old.rest ≡ r.spelling ++ (counted ++ new.rest)
counted_joined n counted old middle new r t =
    r.whole ∙ ap (λ (z : List ℕ). r.spelling ++ z) (t.whole ∙ ap (λ (z : List ℕ). z ++ new.rest) (sym t.spelled.taken_is))

pub refuses_counted : (h : NumberParts) (n length_place start : ℕ) (counted : List ℕ) (old middle new : At) (fault : Fault)
    → length_place ≡ old.place → start ≡ middle.place → Reads UnsignedLeb n old middle → Reads (TakenBytes n) counted middle new
    → IsCountedOpFault h.address_size length_place start fault counted → RefusesAfter h 0 old fault
refuses_counted h n length_place start counted old middle new fault at_length at_start r t (wrong_operand reason place wrong) =
    let size : n ≡ length counted = sym t.spelled.count_is ∙ ap length (sym t.spelled.taken_is) in
    refused_at h 0 old fault (place ∙ at_length) (wrong_counted reason refl (
      r.spelling,
      counted,
      new.rest,
      subst (λ (k : ℕ). UnsignedLeb k r.spelling) size r.spelled,
      counted_joined n counted old middle new r t ∙ sym (append_assoc r.spelling counted new.rest),
      wrong,
    ))
refuses_counted h n length_place start counted old middle new fault at_length at_start r t (large_number l) =
    let size : n ≡ length l.operand + 1 = omega (arith, t.spelled.count_is, ap length t.spelled.taken_is, ap length l.joined) in
    let joined : old.rest ≡ r.spelling ++ (l.code ∷ (l.operand ++ new.rest)) = counted_joined n counted old middle new r t
    ∙ ap (λ (z : List ℕ). r.spelling ++ (z ++ new.rest)) l.joined in
    record {
      before = r.spelling ++ l.code ∷ [];
      left = l.operand ++ new.rest;
      split = joined ∙ sym (append_assoc r.spelling (l.code ∷ []) (l.operand ++ new.rest));
      place = omega (arith, l.place_is, at_start, r.place, length-append r.spelling (l.code ∷ []));
      reason = large_counted r.spelling l.operand new.rest l.reason_is (subst (λ (k : ℕ). UnsignedLeb k r.spelling) size r.spelled)
          (l.code, l.takes, refl) refl l.whole l.large;
    }

-- what is read of the bytes that a length counts
pub ruleset counted_reads = (
  address_whole,
  gives_end,
  gives_address,
  gives_discriminator,
  gives_other,
  takes_discriminator,
  number_is_fault,
)

-- which operands fit each code, and which don't
pub ruleset operand_tests = (
  right_end,
  right_address,
  right_discriminator,
  right_other,
  wrong_end,
  wrong_address,
  wrong_discriminator,
  no_code,
)

-- The lemmas of `read_extended`.
pub ruleset read_extended_lemmas = (gives_extended, refuses_length, refuses_cut, refuses_counted)

-- The lemmas of `is_leb`.
pub ruleset is_leb_lemmas = (leb_found, leb_last, leb_all)
