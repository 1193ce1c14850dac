-- Numbers written from the last digit on.
use Rattle.std.proofs.Common.{◌≡◌, ◌∙◌, ℕ, zero, suc, ◌+◌, ◌*◌, ◌/◌, ◌%◌, ◌^◌, ◌<◌, ◌≤◌, ◌-◌, add-one, List, [], ◌∷◌}
use Rattle.std.proofs.Common.{length, drop, take, slice_set, length-drop, refl, sym, ap, subst, arith}
use Rattle.std.proofs.Math.ListN.{length-set}
use Rattle.std.proofs.Math.Seq.{take-set-lt}
use Rattle.std.proofs.lemmas.List.{drop-set-lt, drop_all, length-take-le, take_all, take-set-le}
use Rattle.std.specs.List.{AllByRecursion}
use Rattle.lnt_text.specs.declared.radix.Radix.TheVariants.{Ten, Sixteen}
use Rattle.lnt_text.specs.Digits.{HasNoLeadingZero, IsDigit, IsLower, IsPlain, IsPlainAddress, IsPlainDecimal, radix_base, digit_code}
use Rattle.lnt_text.specs.Digits.{digits_value, most_digits, Radix}
use Rattle.lnt_text.proofs.DigitLemmas.{code_is_digit, code_is_lower, code_not_zero, code_worth, fewer_digits}
use Rattle.lnt_text.proofs.DigitLemmas.{last_digit, last_digit_below, lone_digit}
use Rattle.std.proofs.lemmas.Grind.{common_steps}

drop_put_suc : (buf : List ℕ) (i v : ℕ) → i < length buf → drop i (slice_set buf i v) ≡ v ∷ drop (suc i) buf
drop_put_suc [] i v lt = absurd (omega arith)
drop_put_suc (b ∷ buf) zero v lt = refl
drop_put_suc (b ∷ buf) (suc i) v lt = drop_put_suc buf i v (omega arith)

pub drop_put : (buf : List ℕ) (i v : ℕ) → i < length buf → drop i (slice_set buf i v) ≡ v ∷ drop (i + 1) buf
drop_put buf i v lt = rw add-one (drop_put_suc buf i v lt)

-- ---- digits, and the number that is left to write before them

pub record IsPut (radix : Radix) (n : ℕ) (text : List ℕ) (left : ℕ) : Type 0 where
  pub digits : AllByRecursion (IsDigit radix) text
  pub some : 0 < length text
  pub value : digits_value (radix_base radix) left text ≡ n
  pub lower : AllByRecursion IsLower text
  pub no_zero : left ≡ 0 → HasNoLeadingZero text

no_zero_first : (c : ℕ) (text : List ℕ) → 48 < c → HasNoLeadingZero (c ∷ text)
no_zero_first c text h = grind (arith, common_steps)

value_put : (radix : Radix) (n : ℕ) (text : List ℕ) (left : ℕ) → digits_value (radix_base radix) left text ≡ n
    → digits_value (radix_base radix) (left / radix_base radix) (digit_code (left % radix_base radix) ∷ text) ≡ n
value_put radix n text left e = grind (arith, common_steps, code_worth, last_digit)

-- one digit before them
pub digit_put : (radix : Radix) (n : ℕ) (text : List ℕ) (left : ℕ) → IsPut radix n text left → 0 < left
    → IsPut radix n (digit_code (left % radix_base radix) ∷ text) (left / radix_base radix)
digit_put radix n text left p some =
    grind (arith, common_steps, code_is_digit, last_digit_below, value_put, code_is_lower, no_zero_first, code_not_zero, lone_digit)

-- the last digit
pub digit_first : (radix : Radix) (n : ℕ) → IsPut radix n (digit_code (n % radix_base radix) ∷ []) (n / radix_base radix)
digit_first radix n = grind (arith, common_steps, code_is_digit, last_digit_below, value_put, code_is_lower)

-- ---- the same up to the end of a text

-- what stands from a place on, where at most so many digits are left to write
pub record Stands (radix : Radix) (n end : ℕ) (digits : List ℕ) (start left : ℕ) : Type 0 where
  pub long : length digits ≡ end
  pub within : start < end
  pub few : most_digits radix ≤ end
  pub room : ℕ
  pub room_is : start + most_digits radix ≡ room + end
  pub bound : left < radix_base radix ^ room
  pub put : IsPut radix n (drop start digits) left

first_bound : (radix : Radix) (n end : ℕ) → n < 2 ^ 64 → 0 < end → (room : ℕ) × (end - 1 + most_digits radix ≡ room + end)
    × (n / radix_base radix < radix_base radix ^ room)
first_bound Ten n end fits some = (19, omega (arith, some), omega (arith, fits))
first_bound Sixteen n end fits some = (15, omega (arith, some), omega (arith, fits))

most_some : (radix : Radix) → 0 < most_digits radix
most_some radix = grind (arith, common_steps)

stands_first : (radix : Radix) (n end : ℕ) (digits : List ℕ) → n < 2 ^ 64 → length digits ≡ end → most_digits radix ≤ end
    → Stands radix n end (slice_set digits (end - 1) (digit_code (n % radix_base radix))) (end - 1) (n / radix_base radix)
stands_first radix n end digits fits long few =
    let some : 0 < end = omega (arith, few, most_some radix) in
    let lt : end - 1 < length digits = omega (arith, long, some) in
    let none : drop (end - 1 + 1) digits ≡ [] = drop_all (end - 1 + 1) digits (omega (arith, long)) in
    let code : ℕ = digit_code (n % radix_base radix) in
    let e : drop (end - 1) (slice_set digits (end - 1) code) ≡ code ∷ [] = drop_put digits (end - 1) code lt
    ∙ ap (λ (xs : List ℕ). code ∷ xs) none in
    let b = first_bound radix n end fits some in
    record {
      long = length-set digits (end - 1) code ∙ long;
      within = omega (arith, some);
      few = few;
      room = b.0;
      room_is = b.1;
      bound = b.2;
      put = subst (λ (text : List ℕ). IsPut radix n text (n / radix_base radix)) (sym e) (digit_first radix n);
    }

pub no_room : (radix : Radix) (left : ℕ) → left < radix_base radix ^ 0 → left ≡ 0
no_room radix left h = grind (arith, common_steps)

-- while something is left to write, there is room for it
some_room : (radix : Radix) (room left : ℕ) → left < radix_base radix ^ room → 0 < left → 0 < room
some_room radix room left h some = grind (arith, common_steps, no_room)

start_some : (radix : Radix) (n end : ℕ) (digits : List ℕ) (start left : ℕ) → Stands radix n end digits start left → 0 < left → 0 < start
start_some radix n end digits start left s some = omega (arith, some_room radix s.room left s.bound some, s.room_is, s.few)

bound_less : (radix : Radix) (room left : ℕ) → left < radix_base radix ^ room → 0 < room
    → left / radix_base radix < radix_base radix ^ (room - 1)
bound_less radix room left h some = grind (arith, common_steps, fewer_digits)

stands_more : (radix : Radix) (n end : ℕ) (digits : List ℕ) (start left : ℕ) → Stands radix n end digits start left → 0 < left
    → Stands radix n end (slice_set digits (start - 1) (digit_code (left % radix_base radix))) (start - 1) (left / radix_base radix)
stands_more radix n end digits start left s some =
    grind (arith, common_steps, some_room, start_some, drop_put, length-set, bound_less, digit_put)

stands_all : (radix : Radix) (n end : ℕ) (digits : List ℕ) (start left : ℕ) → n < 2 ^ 64 → Stands radix n end digits start left → left ≡ 0
    → IsPlain radix (drop start digits) n
stands_all radix n end digits start left fits s e = grind (arith, common_steps, length-drop)

-- ---- within a text, of which the rest stays

-- digits that end before a place of the text
pub record Written (radix : Radix) (n end : ℕ) (old text : List ℕ) (start left : ℕ) : Type 0 where
  pub long : end ≤ length text
  pub stands : Stands radix n end (take end text) start left
  pub before : (k : ℕ) → k ≤ start → take k text ≡ take k old
  pub after : drop end text ≡ drop end old

take_long : (end : ℕ) (text : List ℕ) → end ≤ length text → length (take end text) ≡ end
take_long end text long = length-take-le end text long

pub written_first : (radix : Radix) (n end : ℕ) (text : List ℕ) → n < 2 ^ 64 → most_digits radix ≤ end → end ≤ length text
    → Written radix n end text (slice_set text (end - 1) (digit_code (n % radix_base radix))) (end - 1) (n / radix_base radix)
written_first radix n end text fits few long =
    grind (arith, common_steps, most_some, length-set, take-set-lt, stands_first, take_long, take-set-le, drop-set-lt)

pub written_some : (radix : Radix) (n end : ℕ) (old text : List ℕ) (start left : ℕ) → Written radix n end old text start left → 0 < left
    → 0 < start
written_some radix n end old text start left w some = start_some radix n end (take end text) start left w.stands some

pub written_more : (radix : Radix) (n end : ℕ) (old text : List ℕ) (start left : ℕ) → Written radix n end old text start left → 0 < left
    → Written radix n end old (slice_set text (start - 1) (digit_code (left % radix_base radix))) (start - 1) (left / radix_base radix)
written_more radix n end old text start left w some =
    grind (arith, common_steps, length-set, take-set-lt, stands_more, take-set-le, drop-set-lt)

-- two digits more
last_of_two : (radix : Radix) (left : ℕ)
    → left % radix_base radix ≡ left % (radix_base radix * radix_base radix) % radix_base radix
last_of_two Ten left = omega arith
last_of_two Sixteen left = omega arith

first_of_two : (radix : Radix) (left : ℕ)
    → left / radix_base radix % radix_base radix ≡ left % (radix_base radix * radix_base radix) / radix_base radix
first_of_two Ten left = omega arith
first_of_two Sixteen left = omega arith

left_of_two : (radix : Radix) (left : ℕ) → left / radix_base radix / radix_base radix ≡ left / (radix_base radix * radix_base radix)
left_of_two Ten left = omega arith
left_of_two Sixteen left = omega arith

some_left : (radix : Radix) (left : ℕ) → radix_base radix ≤ left → (0 < left) × (0 < left / radix_base radix)
some_left Ten left some = (omega (arith, some), omega (arith, some))
some_left Sixteen left some = (omega (arith, some), omega (arith, some))

pub two_digits_more : (radix : Radix) (n end : ℕ) (old text : List ℕ) (start left : ℕ) → Written radix n end old text start left
    → radix_base radix ≤ left
    → Written radix n end old (slice_set
    (slice_set text (start - 1) (digit_code (left % (radix_base radix * radix_base radix) % radix_base radix))) (start - 2)
    (digit_code (left % (radix_base radix * radix_base radix) / radix_base radix))) (start - 2)
    (left / (radix_base radix * radix_base radix))
two_digits_more radix n end old text start left w more =
    let some = some_left radix left more in
    let b : ℕ = radix_base radix in
    let one = written_more radix n end old text start left w some.0 in
    let two = written_more radix n end old (slice_set text (start - 1) (digit_code (left % b))) (start - 1) (left / b) one some.1 in
    let place : start - 1 - 1 ≡ start - 2 = omega arith in
    let placed : Written radix n end old
    (slice_set (slice_set text (start - 1) (digit_code (left % b))) (start - 2) (digit_code (left / b % b))) (start - 2)
    (left / (b * b)) = rw (place, left_of_two radix left) at two in
    rw (← last_of_two radix left, ← first_of_two radix left) placed

pub two_digits_room : (radix : Radix) (n end : ℕ) (old text : List ℕ) (start left : ℕ) → Written radix n end old text start left
    → radix_base radix ≤ left → 2 ≤ start
two_digits_room radix n end old text start left w more =
    let some = some_left radix left more in
    let b : ℕ = radix_base radix in
    let one = written_more radix n end old text start left w some.0 in
    let before = written_some radix n end old text start left w some.0 in
    let first = written_some radix n end old (slice_set text (start - 1) (digit_code (left % b))) (start - 1) (left / b) one some.1 in
    omega (arith, before, first)

-- the first digit, after others
whole_digit : (radix : Radix) (left : ℕ) → left < radix_base radix → (left % radix_base radix ≡ left) × (left / radix_base radix ≡ 0)
whole_digit Ten left few = (omega (arith, few), omega (arith, few))
whole_digit Sixteen left few = (omega (arith, few), omega (arith, few))

pub first_digit : (radix : Radix) (n end : ℕ) (old text : List ℕ) (start left : ℕ) → Written radix n end old text start left → 0 < left
    → left < radix_base radix → Written radix n end old (slice_set text (start - 1) (digit_code left)) (start - 1) 0
first_digit radix n end old text start left w some few =
    let one = written_more radix n end old text start left w some in
    let whole = whole_digit radix left few in
    rw (whole.0, whole.1) at one

pub written_all : (radix : Radix) (n end : ℕ) (old text : List ℕ) (start left : ℕ) → n < 2 ^ 64 → Written radix n end old text start left
    → left ≡ 0
    → IsPlain radix (drop start (take end text)) n
written_all radix n end old text start left fits w e = stands_all radix n end (take end text) start left fits w.stands e

pub whole_decimal : (n start : ℕ) (text : List ℕ) → length text ≡ 20 → IsPlainDecimal (drop start (take 20 text)) n
    → IsPlainDecimal (drop start text) n
whole_decimal n start text long p = grind (arith, common_steps, take_all)

-- ---- 0x before the digits of an address

pub address_put : (digits : List ℕ) (start end n : ℕ) → length digits ≡ end → start ≤ end → 2 ≤ start
    → IsPlain Sixteen (drop start digits) n
    → IsPlainAddress (drop (start - 2) (slice_set (slice_set digits (start - 1) 120) (start - 2) 48)) n
address_put digits start end n long within room plain = grind (arith, common_steps, length-set, drop_put)

pub address_within : (text : List ℕ) (start end n : ℕ) → end ≤ length text → start < end → 2 ≤ start
    → IsPlain Sixteen (drop start (take end text)) n
    → IsPlainAddress (drop (start - 2) (take end (slice_set (slice_set text (start - 1) 120) (start - 2) 48))) n
address_within text start end n long within room plain = grind (arith, common_steps, take-set-lt, address_put, take_long)
