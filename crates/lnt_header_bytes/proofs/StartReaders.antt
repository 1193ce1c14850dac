-- The fields up to header_length: what is read and refused, and that their first fault is one. Crates above cite these.
use Rattle.std.proofs.Common.{◌≡◌, ◌≢◌, ℕ, ◌^◌, ◌<◌, ◌≤◌, List, [], ◌∷◌, ◌++◌, length, refl, sym, ap, subst, ◌∙◌, append_assoc, arith}
use Rattle.std.proofs.lemmas.List.{length-append}
use Rattle.lnt_wire.specs.Reading.{At, Reads, RefusesField, Refuses, IsCutShort}
use Rattle.lnt_wire.specs.Bytes.{IsCode, NoneSpelled, TakenBytes}
use Rattle.lnt_wire.specs.Numbers.{NumberBytes, number_bytes, offset_size, OffsetBytes}
use Rattle.lnt_wire.specs.declared.format.Format.{Format}
use Rattle.lnt_wire.specs.declared.format.Order.{Order}
use Rattle.lnt_wire.specs.declared.fault.Fault.{Fault}
use Rattle.lnt_wire.specs.declared.fault.Reason.{Reason}
use Rattle.lnt_wire.specs.declared.fault.Reason.TheVariants.{AddressSize, HeaderLength, SegmentSelector, Truncated}
use Rattle.lnt_wire.proofs.FieldFaultLaws.{IsOneFieldFault}
use Rattle.lnt_wire.proofs.LengthLaws.{length-number_bytes, same_number_prefix}
use Rattle.lnt_wire.proofs.ValueLaws.{offset_width}
use Rattle.lnt_header.specs.FieldFaults.{FirstOf}
use Rattle.lnt_header.specs.FieldFaults.FirstOf.{first, second}
use Rattle.lnt_header.specs.HeaderRules.{IsAddressSize}
use Rattle.lnt_header.specs.Joins.{Both}
use Rattle.lnt_header.proofs.ByteLaws.{byte_code, one_digit}
use Rattle.lnt_header.proofs.FirstFaultLaws.{fault_as, field_fault, first_of, IsHere, IsOneFault}
use Rattle.lnt_header.proofs.ReaderLaws.{reads_map, reads_both}
use Rattle.lnt_header_bytes.specs.HeaderBytes.{ByteBytes, AddressSizeBytes, SelectorBytes, CountedBytes, AfterSize, StartBytes}
use Rattle.lnt_header_bytes.specs.HeaderFaults.{IsAddressSizeFault, IsSelectorFault, IsCountedFault, IsStartFault}
use Rattle.lnt_header_bytes.specs.HeaderFaults.IsStartFault.{address_size, selector, header_length}
use Rattle.lnt_header_bytes.proofs.FaultLaws.{field_is_refused, so_here, so_after}
use Rattle.lnt_header_bytes.proofs.TableLaws.{joins, parts_as}
use Rattle.std.proofs.lemmas.Grind.{common_steps}

-- ---- one byte

byte_is : (order : Order) (n : ℕ) (x : List ℕ) → NumberBytes order 1 n x → x ≡ n ∷ []
byte_is order n x p = p.spelled ∙ one_digit order n p.fits

first_is : (n : ℕ) (old new : At) → Reads (NumberBytes old.order 1) n old new → old.rest ≡ n ∷ new.rest
first_is n old new r = r.whole ∙ ap (λ (z : List ℕ). z ++ new.rest) (byte_is old.order n r.spelling r.spelled)

kind_code : (Is : ℕ → Type 0) → IsCode (ByteBytes Is)
kind_code Is = record { one = λ m n x y r s p q e. byte_code.one m n x y r s p.1 q.1 e }

pub reads_kind : (Is : ℕ → Type 0) (n : ℕ) (old new : At) → Reads (NumberBytes old.order 1) n old new → Is n
    → Reads (ByteBytes Is) n old new
reads_kind Is n old new r is = reads_map (NumberBytes old.order 1) (ByteBytes Is) n n old new (λ x p. (is, byte_is old.order n x p)) r

-- no byte of a kind stands where none is left, or one of another kind
none_left : (Is : ℕ → Type 0) (bytes : List ℕ) → length bytes < 1 → NoneSpelled (ByteBytes Is) bytes
none_left Is bytes short n x more p e = omega (arith, short, ap length e, length-append x more, ap length p.1)

none_other : (Is : ℕ → Type 0) (n : ℕ) (rest bytes : List ℕ) → (Is n → ⊥) → bytes ≡ n ∷ rest → NoneSpelled (ByteBytes Is) bytes
none_other Is n rest bytes other is m x more p e = grind (arith, common_steps)

-- what is wrong with such bytes
abbrev byte_told : (ℕ → Reason) → List ℕ → Reason
byte_told other [] = Truncated
byte_told other (n ∷ rest) = other n

-- ---- the address size

size_none : (reason : Reason) (bytes : List ℕ) → IsAddressSizeFault reason bytes → NoneSpelled AddressSizeBytes bytes
size_none Truncated bytes h n x more p e = none_left IsAddressSize bytes h n x more p e
size_none (AddressSize other) bytes h n x more p e = none_other IsAddressSize other h.0 bytes h.1 h.2 n x more p e
size_none reason bytes h n x more p e = absurd h

size_told : (reason : Reason) (bytes : List ℕ) → IsAddressSizeFault reason bytes → reason ≡ byte_told AddressSize bytes
size_told Truncated [] h = refl
size_told Truncated (n ∷ rest) h = absurd (omega (arith, h))
size_told (AddressSize n) bytes h = sym (ap (byte_told AddressSize) h.2)
size_told reason bytes h = absurd h

size_fault : IsOneFieldFault AddressSizeBytes IsAddressSizeFault
size_fault = record { none = size_none; one = λ reason other bytes h k. size_told reason bytes h ∙ sym (size_told other bytes k) }

pub refuses_size : (old : At) (fault : Fault) → RefusesField (IsCutShort 1) (NumberBytes old.order 1) old fault
    → RefusesField IsAddressSizeFault AddressSizeBytes old fault
refuses_size old fault r = field_is_refused size_fault old fault Truncated r.place r.reason.reason_is r.reason.short

pub refuses_other_size : (n : ℕ) (old new : At) (fault : Fault) → fault.reason ≡ AddressSize n → fault.place ≡ old.place
    → Reads (NumberBytes old.order 1) n old new → (IsAddressSize n → ⊥) → RefusesField IsAddressSizeFault AddressSizeBytes old fault
refuses_other_size n old new fault reason place r other =
    field_is_refused size_fault old fault (AddressSize n) place reason (new.rest, other, first_is n old new r)

-- ---- the segment selector size

selector_none : (reason : Reason) (bytes : List ℕ) → IsSelectorFault reason bytes → NoneSpelled SelectorBytes bytes
selector_none Truncated bytes h n x more p e = none_left (λ size. size ≡ 0) bytes h n x more p e
selector_none (SegmentSelector other) bytes h n x more p e =
    none_other (λ size. size ≡ 0) other h.0 bytes (λ zero_size. omega (arith, zero_size, h.1)) h.2 n x more p e
selector_none reason bytes h n x more p e = absurd h

selector_told : (reason : Reason) (bytes : List ℕ) → IsSelectorFault reason bytes → reason ≡ byte_told SegmentSelector bytes
selector_told Truncated [] h = refl
selector_told Truncated (n ∷ rest) h = absurd (omega (arith, h))
selector_told (SegmentSelector n) bytes h = sym (ap (byte_told SegmentSelector) h.2)
selector_told reason bytes h = absurd h

selector_fault : IsOneFieldFault SelectorBytes IsSelectorFault
selector_fault = grind (arith, common_steps, selector_none, selector_told)

pub refuses_selector : (old : At) (fault : Fault) → RefusesField (IsCutShort 1) (NumberBytes old.order 1) old fault
    → RefusesField IsSelectorFault SelectorBytes old fault
refuses_selector old fault r = field_is_refused selector_fault old fault Truncated r.place r.reason.reason_is r.reason.short

pub refuses_other_selector : (n : ℕ) (old new : At) (fault : Fault) → fault.reason ≡ SegmentSelector n → fault.place ≡ old.place
    → Reads (NumberBytes old.order 1) n old new → n ≢ 0 → RefusesField IsSelectorFault SelectorBytes old fault
refuses_other_selector n old new fault reason place r other =
    field_is_refused selector_fault old fault (SegmentSelector n) place reason (new.rest, omega (arith, other), first_is n old new r)

-- ---- header_length, and what it counts

pub reads_counted : (format : Format) (n : ℕ) (counted : List ℕ) (old middle new : At) → Reads (OffsetBytes format old.order) n old middle
    → Reads (TakenBytes n) counted middle new → Reads (CountedBytes format old.order) counted old new
reads_counted format n counted old middle new r s =
    let size : length counted ≡ n = ap length s.spelled.taken_is ∙ s.spelled.count_is in
    let both = reads_both (OffsetBytes format old.order) (λ _ _. TakenBytes n) n counted old middle new r s in
    reads_map (Both (OffsetBytes format old.order) (λ _. TakenBytes n)) (CountedBytes format old.order) (n, counted) counted old new
    (λ x p. parts_as p (subst (λ (k : ℕ). OffsetBytes format old.order k p.prefix) (sym size) p.first) (sym p.second.taken_is)) both

counted_none : (format : Format) (order : Order) (reason : Reason) (bytes : List ℕ) → IsCountedFault format order reason bytes
    → NoneSpelled (CountedBytes format order) bytes
counted_none format order Truncated bytes h taken x more p e =
    omega (
      arith,
      h,
      ap length e,
      length-append x more,
      ap length p.joined,
      length-append p.prefix p.back,
      ap length p.first.spelled,
      length-number_bytes order (offset_size format) (length taken),
    )
counted_none format order HeaderLength bytes h taken x more p e =
    let all : p.prefix ++ (p.back ++ more) ≡ number_bytes order (offset_size format) h.0 ++ h.1 =
    sym (append_assoc p.prefix p.back more) ∙ ap (λ (z : List ℕ). z ++ more) (sym p.joined) ∙ e ∙ h.4 in
    let found = same_number_prefix order (offset_size format) (offset_width format) (length taken) h.0 (p.back ++ more) h.1 p.first.fits h.2
    (ap (λ (z : List ℕ). z ++ (p.back ++ more)) (sym p.first.spelled) ∙ all) in
    omega (arith, found.0, h.3, ap length found.1, length-append p.back more, ap length p.second)
counted_none format order reason bytes h taken x more p e = absurd h

whole_number : (format : Format) (order : Order) (bytes : List ℕ) → IsCountedFault format order HeaderLength bytes
    → offset_size format ≤ length bytes
whole_number format order bytes h = grind (arith, common_steps, length-append, length-number_bytes)

counted_one : (format : Format) (order : Order) (reason other : Reason) (bytes : List ℕ) → IsCountedFault format order reason bytes
    → IsCountedFault format order other bytes → reason ≡ other
counted_one format order Truncated Truncated bytes h k = refl
counted_one format order Truncated HeaderLength bytes h k = absurd (omega (arith, h, whole_number format order bytes k))
counted_one format order HeaderLength Truncated bytes h k = absurd (omega (arith, k, whole_number format order bytes h))
counted_one format order HeaderLength HeaderLength bytes h k = refl
counted_one format order Truncated other bytes h k = absurd k
counted_one format order HeaderLength other bytes h k = absurd k
counted_one format order reason other bytes h k = absurd h

pub counted_fault : (format : Format) (order : Order) → IsOneFieldFault (CountedBytes format order) (IsCountedFault format order)
counted_fault format order = record { none = counted_none format order; one = counted_one format order }

pub refuses_length : (format : Format) (old : At) (fault : Fault)
    → RefusesField (IsCutShort (offset_size format)) (OffsetBytes format old.order) old fault
    → RefusesField (IsCountedFault format old.order) (CountedBytes format old.order) old fault
refuses_length format old fault r =
    field_is_refused (counted_fault format old.order) old fault Truncated r.place r.reason.reason_is r.reason.short

pub refuses_counted : (format : Format) (n : ℕ) (old middle : At) (short fault : Fault) → Reads (OffsetBytes format old.order) n old middle
    → RefusesField (IsCutShort n) (TakenBytes n) middle short → fault.place ≡ old.place → fault.reason ≡ HeaderLength
    → RefusesField (IsCountedFault format old.order) (CountedBytes format old.order) old fault
refuses_counted format n old middle short fault r s place reason = grind (arith, common_steps, field_is_refused, counted_fault)

-- ---- the three

-- the fields after the version as parts that are joined
abbrev FirstAfterSize : Format → Order → Reason → List ℕ → List ℕ → Type 0
FirstAfterSize format order = FirstOf SelectorBytes (IsHere IsSelectorFault) (λ _. IsHere (IsCountedFault format order))

abbrev FirstOfStart : Format → Order → Reason → List ℕ → List ℕ → Type 0
FirstOfStart format order = FirstOf AddressSizeBytes (IsHere IsAddressSizeFault) (λ _. FirstAfterSize format order)

first_of_start : (format : Format) (order : Order) (reason : Reason) (before left : List ℕ) → IsStartFault format order reason before left
    → FirstOfStart format order reason before left
first_of_start format order reason before left (address_size nothing h) = first (nothing, h)
first_of_start format order reason before left (selector size is joined h) = second size (size ∷ []) [] (is, refl) joined (first (refl, h))
first_of_start format order reason before left (header_length size is joined h) =
    second size (size ∷ []) (0 ∷ []) (is, refl) joined (second 0 (0 ∷ []) [] (refl, refl) refl (refl, h))

pub start_spelled : (format : Format) (order : Order) (size : ℕ) (fields : List ℕ) → IsAddressSize size
    → length fields < 256 ^ offset_size format
    → StartBytes format order (size, (0, fields)) (size ∷ 0 ∷ (number_bytes order (offset_size format) (length fields) ++ fields))
start_spelled format order size fields is fits = grind (arith, common_steps, joins)

after_size : (format : Format) (order : Order) (size : ℕ) → IsOneFault (AfterSize format order size) (FirstAfterSize format order)
after_size format order size = grind (arith, common_steps, first_of, kind_code, field_fault, selector_fault, counted_fault)

pub start_fault : (format : Format) (order : Order) → IsOneFault (StartBytes format order) (IsStartFault format order)
start_fault format order = grind (arith, common_steps, fault_as, first_of_start, first_of, kind_code, field_fault, size_fault, after_size)

pub size_refused : (format : Format) (old : At) (fault : Fault) → RefusesField IsAddressSizeFault AddressSizeBytes old fault
    → Refuses (IsStartFault format old.order) (StartBytes format old.order) old fault
size_refused format old fault t = so_here (start_fault format old.order) old fault fault.reason t.place refl (address_size refl t.reason)

pub selector_refused : (format : Format) (size : ℕ) (old m1 : At) (fault : Fault) → Reads AddressSizeBytes size old m1
    → RefusesField IsSelectorFault SelectorBytes m1 fault → Refuses (IsStartFault format old.order) (StartBytes format old.order) old fault
selector_refused format size old m1 fault r t =
    so_after (start_fault format old.order) old fault r t.place (selector size r.spelled.0 r.spelled.1 t.reason)

two_bytes : (size zero_size : ℕ) (x : List ℕ) → Both AddressSizeBytes (λ _. SelectorBytes) (size, zero_size) x → x ≡ size ∷ 0 ∷ []
two_bytes size zero_size x p = p.joined ∙ ap (λ (z : List ℕ). z ++ p.back) p.first.1
    ∙ ap (λ (z : List ℕ). size ∷ z) (p.second.1 ∙ ap (λ (n : ℕ). n ∷ []) p.second.0)

pub counted_refused : (format : Format) (size zero_size : ℕ) (old m1 m2 : At) (fault : Fault) → Reads AddressSizeBytes size old m1
    → Reads SelectorBytes zero_size m1 m2 → RefusesField (IsCountedFault format m2.order) (CountedBytes format m2.order) m2 fault
    → Refuses (IsStartFault format old.order) (StartBytes format old.order) old fault
counted_refused format size zero_size old m1 m2 fault r s t =
    let both = reads_both AddressSizeBytes (λ _ _. SelectorBytes) size zero_size old m1 m2 r s in
    let so : IsCountedFault format old.order fault.reason m2.rest =
    subst (λ (o : Order). IsCountedFault format o fault.reason m2.rest) both.order t.reason in
    so_after (start_fault format old.order) old fault both t.place
    (header_length size r.spelled.0 (two_bytes size zero_size both.spelling both.spelled) so)

pub start_read : (format : Format) (size zero_size : ℕ) (counted : List ℕ) (old m1 m2 new : At) → Reads AddressSizeBytes size old m1
    → Reads SelectorBytes zero_size m1 m2
    → Reads (CountedBytes format m2.order) counted m2 new → Reads (StartBytes format old.order) (size, (zero_size, counted)) old new
start_read format size zero_size counted old m1 m2 new r s t =
    reads_both AddressSizeBytes (AfterSize format) size (zero_size, counted) old m1 new r
    (reads_both SelectorBytes (λ order _. CountedBytes format order) zero_size counted m1 m2 new s t)

-- The lemmas of `read_start`.
pub ruleset read_start_lemmas = (size_refused, selector_refused, counted_refused, start_read)

-- The lemmas of `read_address_size`.
pub ruleset read_address_size_lemmas = (reads_kind, refuses_size, refuses_other_size)

-- The lemmas of `read_selector_size`.
pub ruleset read_selector_size_lemmas = (reads_kind, refuses_selector, refuses_other_selector)

-- The lemmas of `read_counted`.
pub ruleset read_counted_lemmas = (reads_counted, refuses_length, refuses_counted)
