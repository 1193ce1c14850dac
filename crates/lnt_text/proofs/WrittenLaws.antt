-- The plain text of a number is the one that std writes. So each number below 2 ^ 64 has one.
use Rattle.std.proofs.Common.{◌≡◌, ◌∙◌, ℕ, zero, suc, ◌+◌, ◌-◌, ◌/◌, ◌%◌, ◌^◌, ◌<◌, ◌≤◌, ◌==◌, Bool, true, false, if◌then◌else◌}
use Rattle.std.proofs.Common.{List, [], ◌∷◌, ◌++◌, length, drop, take, refl, sym, ap, arith, decimal}
use Rattle.std.proofs.lemmas.Bool.{eqb-false, eqb-true}
use Rattle.std.proofs.lemmas.List.{drop-take}
use Rattle.std.proofs.lemmas.List.Folds.{drop_split}
use Rattle.std.specs.Fmt.{digits, digits_onto}
use Rattle.lnt_text.specs.declared.radix.Radix.TheVariants.{Ten, Sixteen}
use Rattle.lnt_text.specs.Digits.{IsPlain, IsPlainAddress, IsPlainDecimal, digit_code, most_digits, radix_base, Radix}
use Rattle.lnt_text.proofs.DigitLemmas.{fewer_digits}
use Rattle.lnt_text.proofs.OneTextLaws.{one_address, one_decimal}
use Rattle.lnt_text.proofs.PutLemmas.{IsPut, digit_first, digit_put, no_room}
use Rattle.std.proofs.lemmas.Grind.{common_steps}

-- nothing is left to write
all_put : (radix : Radix) (n : ℕ) (text : List ℕ) (left : ℕ) → n < 2 ^ 64 → length text ≤ most_digits radix → IsPut radix n text left
    → left ≡ 0 → IsPlain radix text n
all_put radix n text left fits few put none = grind (arith, common_steps)

either : (P : List ℕ → Type 0) (test : Bool) (x y : List ℕ) → (test ≡ true → P x) → (test ≡ false → P y) → P (if test then x else y)
either P true x y p q = p refl
either P false x y p q = q refl

fewer_left : (radix : Radix) (left room : ℕ) → left < radix_base radix ^ suc room → left / radix_base radix < radix_base radix ^ room
fewer_left radix left room bound = grind (arith, common_steps, fewer_digits)

-- digits are written before others while something is left, as the library does
put_onto : (radix : Radix) (n fuel room : ℕ) (text : List ℕ) (left : ℕ) → n < 2 ^ 64 → length text + room ≤ most_digits radix
    → left < radix_base radix ^ room → room ≤ fuel → 0 < left → IsPut radix n text left
    → IsPlain radix (digits_onto fuel (radix_base radix) false left text) n
put_onto radix n fuel zero text left fits few bound le some put = absurd (omega (arith, some, no_room radix left bound))
put_onto radix n zero (suc room) text left fits few bound le some put = absurd (omega (arith, le))
put_onto radix n (suc fuel) (suc room) text left fits few bound le some put =
    let more = digit_put radix n text left put some in
    let line = digit_code (left % radix_base radix) ∷ text in
    let past = left / radix_base radix in
    either (λ (z : List ℕ). IsPlain radix z n) (past == 0) line (digits_onto fuel (radix_base radix) false past line)
    (λ e. all_put radix n line past fits (omega (arith, few)) more (eqb-true past 0 e))
    (λ e. put_onto radix n fuel room line past fits (omega (arith, few)) (fewer_left radix left room bound) (omega (arith, le))
    (omega (arith, eqb-false past 0 e)) more)

plain_ten : (n : ℕ) → n < 2 ^ 64 → IsPlainDecimal (digits 10 false n) n
unfolding digits
plain_ten n fits =
    let line = digit_code (n % 10) ∷ [] in
    let past = n / 10 in
    either (λ (z : List ℕ). IsPlainDecimal z n) (past == 0) line (digits_onto 63 10 false past line)
    (λ e. all_put Ten n line past fits (omega arith) (digit_first Ten n) (eqb-true past 0 e))
    (λ e. put_onto Ten n 63 19 line past fits (omega arith) (omega (arith, fits)) (omega arith) (omega (arith, eqb-false past 0 e))
    (digit_first Ten n))

plain_sixteen : (n : ℕ) → n < 2 ^ 64 → IsPlainAddress (48 ∷ 120 ∷ digits 16 false n) n
unfolding digits
plain_sixteen n fits =
    let line = digit_code (n % 16) ∷ [] in
    let past = n / 16 in
    either (λ (z : List ℕ). IsPlainAddress (48 ∷ 120 ∷ z) n) (past == 0) line (digits_onto 63 16 false past line)
    (λ e. record {
      digits = line;
      written = refl;
      plain = all_put Sixteen n line past fits (omega arith) (digit_first Sixteen n) (eqb-true past 0 e);
    })
    (λ e. record {
      digits = digits_onto 63 16 false past line;
      written = refl;
      plain = put_onto Sixteen n 63 15 line past fits (omega arith) (omega (arith, fits)) (omega arith) (omega (arith, eqb-false past 0 e))
          (digit_first Sixteen n);
    })

-- ---- the one text of a number

pub decimal_text : (n : ℕ) (text : List ℕ) → IsPlainDecimal text n → text ≡ decimal n
decimal_text n text p = one_decimal text (decimal n) n p (plain_ten n p.number.fits)

pub address_text : (n : ℕ) (text : List ℕ) → IsPlainAddress text n → text ≡ 48 ∷ 120 ∷ digits 16 false n
address_text n text p = one_address text (48 ∷ 120 ∷ digits 16 false n) n p (plain_sixteen n p.plain.number.fits)

pub has_decimal : (n : ℕ) → n < 2 ^ 64 → (text : List ℕ) × IsPlainDecimal text n
has_decimal n fits = (decimal n, plain_ten n fits)

pub has_address : (n : ℕ) → n < 2 ^ 64 → (text : List ℕ) × IsPlainAddress text n
has_address n fits = (48 ∷ 120 ∷ digits 16 false n, plain_sixteen n fits)

-- ---- a text that is written before an index, where the text after it stays

pub text_before : (room new : List ℕ) (start end : ℕ) → start ≤ end → drop end new ≡ drop end room
    → drop start new ≡ drop start (take end new) ++ drop end room
text_before room new start end le after =
    let whole : start + (end - start) ≡ end = omega (arith, le) in
    drop_split new start end le
    ∙ ap (λ prefix. prefix ++ drop end new) (sym (drop-take start (end - start) new) ∙ ap (λ (k : ℕ). drop start (take k new)) whole)
    ∙ ap (λ rest. drop start (take end new) ++ rest) after
