-- Line records, each byte of which is looked at once.
use Rattle.std.proofs.Common.{◌≡◌, ◌∙◌, ℕ, ◌+◌, ◌-◌, ◌*◌, ◌/◌, ◌%◌, ◌^◌, ◌<◌, ◌≤◌, Bool, true, false, List, [], ◌∷◌, ◌++◌, length}
use Rattle.std.proofs.Common.{Option, Some, None, Ok, Err, refl, sym, ap, subst, arith, append_assoc, take}
use Rattle.std.specs.Prelude.{codes, nat_lt, ◌==◌, ◌&&◌, ◌||◌, if◌then◌else◌}
use Rattle.std.specs.Cmp.Lexicographic.{pointwise}
use Rattle.std.specs.List.{list_all, list_any}
use Rattle.std.proofs.Math.Nat.{pow-le-pow_right}
use Rattle.std.proofs.lemmas.Bool.{and_parts}
use Rattle.std.proofs.lemmas.Bool.Decides.{nat_tests}
use Rattle.std.proofs.lemmas.Grind.{common_steps}
use Rattle.std.proofs.lemmas.List.{append-nil, length-append}
use Rattle.std.proofs.lemmas.List.Elements.{All-take}
use Rattle.std.proofs.lemmas.List.Sums.{AllPass-from_list_all, list_all-from_AllPass}
use Rattle.std.proofs.lemmas.List.Folds.{list_all-append}
use Rattle.lnt_text.specs.Digits.{digit_value, digits_value}
use Rattle.lnt_symbols.specs.BreakpadLines.{begins, cut, decimal, field, hexadecimal, is_decimal_digit, is_hexadecimal_digit, is_passed}
use Rattle.lnt_symbols.specs.BreakpadLines.{line_record_of, line_said, LineRecord, lines_from, lines_of, Range, range_of, record_of}
use Rattle.lnt_symbols.specs.BreakpadLines.{Said, then_say}
use Rattle.lnt_symbols.specs.declared.fault.LineReason.TheVariants.{NotARecord}
use Rattle.lnt_symbols.specs.Stepping.{HasNumber, IsEnd, IsFirstLine, number_up_to}
use Rattle.lnt_symbols.proofs.FileLemmas.{end_append}

-- ---- the digits of a number

-- The text begins with these digits, and then come the byte and the rest.
pub record IsTaken (radix : ℕ) (is_digit : ℕ → Bool) (stop left value : ℕ) (text : List ℕ) (n : ℕ) (rest : List ℕ) : Type 0 where
  pub digits : List ℕ
  pub joined : text ≡ digits ++ stop ∷ rest
  pub all : list_all is_digit digits ≡ true
  pub few : length digits ≤ left
  pub value_is : digits_value radix value digits ≡ n

abbrev pub IsTakenIf : ℕ → (ℕ → Bool) → ℕ → ℕ → ℕ → List ℕ → Option (ℕ × List ℕ) → Type 0
IsTakenIf radix is_digit stop left value text None = Unit {0}
IsTakenIf radix is_digit stop left value text (Some f) = IsTaken radix is_digit stop left value text f.0 f.1

and_both : (a b : Bool) → a ≡ true → b ≡ true → (a && b) ≡ true
and_both a b e f = rw e f

one_more : (radix : ℕ) (is_digit : ℕ → Bool) (stop left value c : ℕ) (text : List ℕ) (o : Option (ℕ × List ℕ)) → is_digit c ≡ true
    → nat_lt 0 left ≡ true → IsTakenIf radix is_digit stop (left - 1) (value * radix + digit_value c) text o
    → IsTakenIf radix is_digit stop left value (c ∷ text) o
one_more radix is_digit stop left value c text None d l h = tt
one_more radix is_digit stop left value c text (Some f) d l h =
    let some : 0 < left = grind (arith, nat_tests) in
    let few : length h.digits ≤ left - 1 = h.few in
    record {
      digits = c ∷ h.digits;
      joined = ap (λ xs. c ∷ xs) h.joined;
      all = and_both (is_digit c) (list_all is_digit h.digits) d h.all;
      few = omega (arith, some, few);
      value_is = h.value_is;
    }

is_byte : (c stop : ℕ) → (c == stop) ≡ true → c ≡ stop
is_byte c stop e = grind (arith, nat_tests)

-- a byte that is no digit
no_more : (radix : ℕ) (is_digit : ℕ → Bool) (stop left value c : ℕ) (text : List ℕ) (s : Bool) → (c == stop) ≡ s
    → IsTakenIf radix is_digit stop left value (c ∷ text) (if s then Some (value, text) else None)
no_more radix is_digit stop left value c text true e = record {
  digits = [];
  joined = ap (λ b. b ∷ text) (is_byte c stop e);
  all = refl;
  few = omega arith;
  value_is = refl;
}
no_more radix is_digit stop left value c text false e = tt

any_byte : (radix : ℕ) (is_digit : ℕ → Bool) (stop left value c : ℕ) (text : List ℕ) (o : Option (ℕ × List ℕ)) (d l : Bool)
    → is_digit c ≡ d → nat_lt 0 left ≡ l → IsTakenIf radix is_digit stop (left - 1) (value * radix + digit_value c) text o
    → IsTakenIf radix is_digit stop left value (c ∷ text)
    (if d then (if l then o else None) else if c == stop then Some (value, text) else None)
any_byte radix is_digit stop left value c text o true true d l h = one_more radix is_digit stop left value c text o d l h
any_byte radix is_digit stop left value c text o true false d l h = tt
any_byte radix is_digit stop left value c text o false l d e h = no_more radix is_digit stop left value c text (c == stop) refl

pub number_taken : (radix : ℕ) (is_digit : ℕ → Bool) (stop left value : ℕ) (text : List ℕ)
    → IsTakenIf radix is_digit stop left value text (number_up_to radix is_digit stop left value text)
number_taken radix is_digit stop left value [] = tt
number_taken radix is_digit stop left value (c ∷ text) =
    any_byte radix is_digit stop left value c text (number_up_to radix is_digit stop (left - 1) (value * radix + digit_value c) text)
    (is_digit c) (nat_lt 0 left) refl refl (number_taken radix is_digit stop (left - 1) (value * radix + digit_value c) text)

pub taken : (radix : ℕ) (is_digit : ℕ → Bool) (stop left value : ℕ) (text : List ℕ) (n : ℕ) (rest : List ℕ)
    → number_up_to radix is_digit stop left value text ≡ Some (n, rest) → IsTaken radix is_digit stop left value text n rest
taken radix is_digit stop left value text n rest e =
    subst (IsTakenIf radix is_digit stop left value text) e (number_taken radix is_digit stop left value text)

-- ---- numbers

pub value_by_bits : (c : ℕ) → is_hexadecimal_digit c ≡ true → (c % 16 + c / 64 * 9 ≡ digit_value c) × (c % 16 + c / 64 * 9 < 16)
value_by_bits c e = grind (arith, nat_tests)

-- a decimal digit more: there is room for it
pub room_for_decimal : (value d k : ℕ) → value < 10 ^ k → d < 10 → k < 9 → value * 10 + d < 2 ^ 32
room_for_decimal value d k lt small few =
    let some : 0 < 10 = omega arith in
    let count : k ≤ 8 = omega arith in
    let most : 10 ^ k ≤ 10 ^ 8 = pow-le-pow_right some count in
    omega arith

pub decimal_is_hexadecimal : (c : ℕ) → is_decimal_digit c ≡ true → is_hexadecimal_digit c ≡ true
decimal_is_hexadecimal c e = rw e refl

all_from : (p q : ℕ → Bool) → ((c : ℕ) → p c ≡ true → q c ≡ true) → (digits : List ℕ) → list_all p digits ≡ true
    → list_all q digits ≡ true
all_from p q f [] h = refl
all_from p q f (c ∷ digits) h =
    let parts = and_parts (p c) (list_all p digits) h in
    and_both (q c) (list_all q digits) (f c parts.0) (all_from p q f digits parts.1)

first_digit : (radix d : ℕ) → 0 * radix + d ≡ d
first_digit radix d = omega arith

pub hexadecimal_taken : (c : ℕ) (text : List ℕ) (n : ℕ) (rest : List ℕ) → is_hexadecimal_digit c ≡ true
    → number_up_to 16 is_hexadecimal_digit 32 15 (digit_value c) text ≡ Some (n, rest) → HasNumber hexadecimal 32 (c ∷ text) n rest
hexadecimal_taken c text n rest d e =
    let t = taken 16 is_hexadecimal_digit 32 15 (digit_value c) text n rest e in
    let all : list_all is_hexadecimal_digit (c ∷ t.digits) ≡ true
    = and_both (is_hexadecimal_digit c) (list_all is_hexadecimal_digit t.digits) d t.all in
    let few : nat_lt 16 (length (c ∷ t.digits)) ≡ false = let f = t.few in grind (arith, nat_tests) in
    let value : digits_value 16 0 (c ∷ t.digits) ≡ n
    = ap (λ v. digits_value 16 v t.digits) (first_digit 16 (digit_value c)) ∙ t.value_is in
    record {
      digits = c ∷ t.digits;
      joined = ap (λ xs. c ∷ xs) t.joined;
      all = all;
      value = grind (arith, common_steps, nat_tests, all, few, value);
    }

pub decimal_taken : (c stop : ℕ) (text : List ℕ) (n : ℕ) (rest : List ℕ) → is_decimal_digit c ≡ true
    → number_up_to 10 is_decimal_digit stop 8 (digit_value c) text ≡ Some (n, rest) → n < 10 ^ 9 → HasNumber decimal stop (c ∷ text) n rest
decimal_taken c stop text n rest d e lt =
    let t = taken 10 is_decimal_digit stop 8 (digit_value c) text n rest e in
    let all : list_all is_decimal_digit (c ∷ t.digits) ≡ true
    = and_both (is_decimal_digit c) (list_all is_decimal_digit t.digits) d t.all in
    let value : digits_value 10 0 (c ∷ t.digits) ≡ n
    = ap (λ v. digits_value 10 v t.digits) (first_digit 10 (digit_value c)) ∙ t.value_is in
    let fits : nat_lt (digits_value 10 0 (c ∷ t.digits)) (2 ^ 31) ≡ true = rw value (grind (arith, nat_tests)) in
    record {
      digits = c ∷ t.digits;
      joined = ap (λ xs. c ∷ xs) t.joined;
      all = all_from is_decimal_digit is_hexadecimal_digit decimal_is_hexadecimal (c ∷ t.digits) all;
      value = grind (arith, common_steps, nat_tests, all, fits, value);
    }

-- ---- bytes of a line record

-- a digit or a blank
abbrev pub is_plain : ℕ → Bool
is_plain c = is_hexadecimal_digit c || c == 32

no_blank : (c : ℕ) → is_hexadecimal_digit c ≡ true → (c == 32) ≡ false
no_blank c e = grind (arith, nat_tests)

no_end : (c : ℕ) → is_plain c ≡ true → ((c == 13) ≡ false) × ((c == 10) ≡ false) × ((c == 0) ≡ false)
no_end c e = (grind (arith, nat_tests), grind (arith, nat_tests), grind (arith, nat_tests))

digit_is_plain : (c : ℕ) → is_hexadecimal_digit c ≡ true → is_plain c ≡ true
digit_is_plain c e = rw e refl

digits_are_plain : (digits : List ℕ) → list_all is_hexadecimal_digit digits ≡ true → list_all is_plain digits ≡ true
digits_are_plain = all_from is_hexadecimal_digit is_plain digit_is_plain

-- digits, a blank and more
plain_more : (digits more : List ℕ) → list_all is_hexadecimal_digit digits ≡ true → list_all is_plain more ≡ true
    → list_all is_plain (digits ++ 32 ∷ more) ≡ true
plain_more digits more h g = rw list_all-append (and_both (list_all is_plain digits) (list_all is_plain more) (digits_are_plain digits h) g)

no_zero : (line : List ℕ) → list_all is_plain line ≡ true → list_any (λ c. c == 0) line ≡ false
no_zero [] h = refl
no_zero (c ∷ line) h =
    let parts = and_parts (is_plain c) (list_all is_plain line) h in
    rw (no_end c parts.0).2 (no_zero line parts.1)

-- A line of such bytes ends with a line feed after them.
line_ends : (front line rest : List ℕ) → list_all is_plain line ≡ true
    → lines_from false front (line ++ 10 ∷ rest) ≡ (front ++ line) ∷ lines_of rest
line_ends front [] rest h = ap (λ l. l ∷ lines_of rest) (sym (append-nil front))
line_ends front (c ∷ line) rest h =
    let parts = and_parts (is_plain c) (list_all is_plain line) h in
    let no = no_end c parts.0 in
    rw no.0 (rw no.1 (line_ends (front ++ c ∷ []) line rest parts.1 ∙ ap (λ l. l ∷ lines_of rest) (append_assoc front (c ∷ []) line)))

-- ---- a line record

cut_after : (digits text : List ℕ) → list_all is_hexadecimal_digit digits ≡ true → cut (digits ++ 32 ∷ text) ≡ Some (digits, text)
cut_after [] text h = refl
cut_after (c ∷ digits) text h =
    let parts = and_parts (is_hexadecimal_digit c) (list_all is_hexadecimal_digit digits) h in
    rw (no_blank c parts.0) (rw (cut_after digits text parts.1) refl)

-- a number, and what is left, of the parts of a text
abbrev after_cut : (List ℕ → Said ℕ) → Option (List ℕ × List ℕ) → Said (ℕ × List ℕ)
after_cut number None = Err NotARecord
after_cut number (Some parts) = then_say (number parts.0) (λ n. Ok (n, parts.1))

field_is : (number : List ℕ → Said ℕ) (digits text : List ℕ) (n : ℕ) → list_all is_hexadecimal_digit digits ≡ true → number digits ≡ Ok n
    → field number (digits ++ 32 ∷ text) ≡ Ok (n, text)
field_is number digits text n h e =
    let parts : after_cut number (cut (digits ++ 32 ∷ text)) ≡ Ok (n, text)
    = ap (after_cut number) (cut_after digits text h) ∙ ap (λ (x : Said ℕ). then_say x (λ n. Ok (n, text))) e in
    parts

first_other : (b c : ℕ) (word text : List ℕ) (t : Bool) → (b == c) ≡ t → is_plain c ≡ true → (is_plain b && list_all is_plain word) ≡ false
    → (list_all is_plain word ≡ false → pointwise (λ a b. a == b) word text ≡ false)
    → (t && pointwise (λ a b. a == b) word text) ≡ false
first_other b c word text true e plain w rest =
    let same : is_plain b ≡ true = subst (λ k. is_plain k ≡ true) (sym (is_byte b c e)) plain in
    rest (subst (λ k. (k && list_all is_plain word) ≡ false) same w)
first_other b c word text false e plain w rest = refl

-- a word with a byte that no such text has
pointwise_other : (word text : List ℕ) → list_all is_plain text ≡ true → list_all is_plain word ≡ false
    → pointwise (λ a b. a == b) word text ≡ false
pointwise_other [] text h w = absurd (let both : true ≡ false = w in cc)
pointwise_other (b ∷ word) [] h w = refl
pointwise_other (b ∷ word) (c ∷ text) h w =
    let parts = and_parts (is_plain c) (list_all is_plain text) h in
    first_other b c word text (b == c) refl parts.0 w (λ others. pointwise_other word text parts.1 others)

all_take : (n : ℕ) (line : List ℕ) → list_all is_plain line ≡ true → list_all is_plain (take n line) ≡ true
all_take n line h = list_all-from_AllPass is_plain (take n line) (All-take (λ c. is_plain c ≡ true) n line
    (AllPass-from_list_all is_plain line h))

begins_other : (line word : List ℕ) → list_all is_plain line ≡ true → list_all is_plain word ≡ false → begins word line ≡ false
begins_other line word h w = pointwise_other word (take (length word) line) (all_take (length word) line h) w

not_passed : (line : List ℕ) → list_all is_plain line ≡ true → 0 < length line → is_passed line ≡ false
not_passed line h some =
    let long : (length line == 0) ≡ false = grind (arith, nat_tests) in
    rw long (rw (begins_other line (codes "MODULE ") h refl) (rw (begins_other line (codes "INFO ") h refl)
    (rw (begins_other line (codes "STACK ") h refl) (rw (begins_other line (codes "INLINE ") h refl)
    (begins_other line (codes "INLINE_ORIGIN ") h refl)))))

says_line : (line : List ℕ) (said : LineRecord) → list_all is_plain line ≡ true → 0 < length line
    → line_record_of line ≡ Ok (line_said said) → record_of line ≡ Ok (line_said said)
says_line line said h some e =
    rw (no_zero line h) (rw (begins_other line (codes "FILE ") h refl) (rw (begins_other line (codes "FUNC ") h refl)
    (rw (begins_other line (codes "PUBLIC ") h refl) (rw (not_passed line h some) e))))

range_is : (a s text : List ℕ) (address size : ℕ) → list_all is_hexadecimal_digit a ≡ true → list_all is_hexadecimal_digit s ≡ true
    → hexadecimal a ≡ Ok address → hexadecimal s ≡ Ok size
    → range_of (a ++ 32 ∷ (s ++ 32 ∷ text)) ≡ Ok (record { address = address; size = size }, text)
range_is a s text address size ha hs ea es =
    ap (λ (x : Said (ℕ × List ℕ)). then_say x (λ address. then_say (field hexadecimal address.1) (λ size.
    Ok (record { address = address.0; size = size.0 }, size.1)))) (field_is hexadecimal a (s ++ 32 ∷ text) address ha ea)
    ∙ ap (λ (x : Said (ℕ × List ℕ)). then_say x (λ size. Ok (record { address = address; size = size.0 }, size.1)))
    (field_is hexadecimal s text size hs es)

fields_are : (a s l f : List ℕ) (address size line file : ℕ) → list_all is_hexadecimal_digit a ≡ true
    → list_all is_hexadecimal_digit s ≡ true → list_all is_hexadecimal_digit l ≡ true
    → hexadecimal a ≡ Ok address → hexadecimal s ≡ Ok size → decimal l ≡ Ok line → decimal f ≡ Ok file
    → line_record_of (a ++ 32 ∷ (s ++ 32 ∷ (l ++ 32 ∷ f)))
    ≡ Ok (line_said (record { range = record { address = address; size = size }; line = line; file = file }))
fields_are a s l f address size line file ha hs hl ea es el ef =
    let range : Range = record { address = address; size = size } in
    ap (λ (x : Said (Range × List ℕ)). then_say x (λ range. then_say (field decimal range.1) (λ line. then_say (decimal line.1) (λ file.
    Ok (line_said (record { range = range.0; line = line.0; file = file }))))))
    (range_is a s (l ++ 32 ∷ f) address size ha hs ea es)
    ∙ (ap (λ (x : Said (ℕ × List ℕ)). then_say x (λ line. then_say (decimal line.1) (λ file.
    Ok (line_said (record { range = range; line = line.0; file = file }))))) (field_is decimal l f line hl el)
    ∙ ap (λ (x : Said ℕ). then_say x (λ file. Ok (line_said (record { range = range; line = line; file = file })))) ef)

-- the bytes of a line record, in front of what its four numbers leave
joined_fields : (text a t1 s t2 l t3 f rest : List ℕ) → text ≡ a ++ 32 ∷ t1 → t1 ≡ s ++ 32 ∷ t2 → t2 ≡ l ++ 32 ∷ t3 → t3 ≡ f ++ 10 ∷ rest
    → text ≡ (a ++ 32 ∷ (s ++ 32 ∷ (l ++ 32 ∷ f))) ++ 10 ∷ rest
joined_fields text a t1 s t2 l t3 f rest e1 e2 e3 e4 =
    rw e1 (rw e2 (rw e3 (rw e4 (rw append_assoc (rw append_assoc (rw append_assoc refl))))))

first_line : (text line rest : List ℕ) (said : LineRecord) → text ≡ line ++ 10 ∷ rest → list_all is_plain line ≡ true
    → record_of line ≡ Ok (line_said said) → IsFirstLine text said rest
first_line text line rest said e h says =
    let long : length text ≡ length line + length (10 ∷ rest) = ap length e ∙ length-append line (10 ∷ rest) in
    record {
      says = λ more. record {
        line = line;
        joined = ap (λ t. lines_of (t ++ more)) e
            ∙ (ap lines_of (append_assoc line (10 ∷ rest) more) ∙ line_ends [] line (rest ++ more) h);
        says = says;
      };
      at_end = subst (λ t. IsEnd t rest) (sym (e ∙ sym (append_assoc line (10 ∷ []) rest))) (end_append (line ++ 10 ∷ []) rest);
      shorter = omega (arith, long);
    }

pub plain_is_first : (text t1 t2 t3 rest : List ℕ) (address size line file : ℕ) → HasNumber hexadecimal 32 text address t1
    → HasNumber hexadecimal 32 t1 size t2 → HasNumber decimal 32 t2 line t3 → HasNumber decimal 10 t3 file rest
    → IsFirstLine text (record { range = record { address = address; size = size }; line = line; file = file }) rest
plain_is_first text t1 t2 t3 rest address size line file a s l f =
    let whole : List ℕ = a.digits ++ 32 ∷ (s.digits ++ 32 ∷ (l.digits ++ 32 ∷ f.digits)) in
    let plain : list_all is_plain whole ≡ true = plain_more a.digits _ a.all (plain_more s.digits _ s.all
    (plain_more l.digits _ l.all (digits_are_plain f.digits f.all))) in
    let long : length whole ≡ length a.digits + length (32 ∷ (s.digits ++ 32 ∷ (l.digits ++ 32 ∷ f.digits)))
    = length-append a.digits (32 ∷ (s.digits ++ 32 ∷ (l.digits ++ 32 ∷ f.digits))) in
    first_line text whole rest _ (joined_fields text a.digits t1 s.digits t2 l.digits t3 f.digits rest a.joined s.joined l.joined f.joined)
    plain (says_line whole _ plain (omega (arith, long))
    (fields_are a.digits s.digits l.digits f.digits address size line file a.all s.all l.all a.value s.value l.value f.value))
