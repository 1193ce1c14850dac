-- Texts without a line feed: numbers, what stands before the first one, and joined texts.
use Rattle.std.proofs.Common.{◌≡◌, ◌∙◌, ◌==◌, ◌||◌, ℕ, ◌+◌, ◌/◌, ◌%◌, Bool, true, false, List, [], ◌∷◌, ◌++◌, take, ap, refl, arith}
use Rattle.std.proofs.Common.{if◌then◌else◌, not, suc, zero, length, subst, take_all, ◌<◌, Option, Some, None, MatchOption, Bor}
use Rattle.std.specs.List.{after_first, before_first, list_any, position_or_len}
use Rattle.std.specs.Fmt.{digits, digits_onto, digit_glyph}
use Rattle.std.proofs.lemmas.List.Folds.{list_any-append}
use Rattle.std.proofs.lemmas.Bool.Decides.{nat_tests}
use Rattle.lnt_notes.specs.Notes.{IsOneLine}

abbrev is_feed : ℕ → Bool
is_feed byte = byte == 10

pub both_one_line : (first second : List ℕ) → IsOneLine first → IsOneLine second → IsOneLine (first ++ second)
both_one_line first second one two = list_any-append is_feed first second ∙ ap (λ (is : Bool). is || list_any is_feed second) one ∙ two

-- ---- numbers

glyph_fine : (digit : ℕ) → is_feed (digit_glyph false digit) ≡ false
glyph_fine digit = grind (arith, nat_tests)

onto_one_line : (count base n : ℕ) (after : List ℕ) → IsOneLine after → IsOneLine (digits_onto count base false n after)
onto_one_line zero base n after fine = fine
onto_one_line (suc count) base n after fine =
    let more : IsOneLine (digit_glyph false (n % base) ∷ after) =
    ap (λ (is : Bool). is || list_any is_feed after) (glyph_fine (n % base)) ∙ fine in
    either (n / base == 0) (digit_glyph false (n % base) ∷ after)
    (digits_onto count base false (n / base) (digit_glyph false (n % base) ∷ after))
    more (onto_one_line count base (n / base) (digit_glyph false (n % base) ∷ after) more)
  where
    either : (is : Bool) (these those : List ℕ) → IsOneLine these → IsOneLine those → IsOneLine (if is then these else those)
    either true these those one other = one
    either false these those one other = other

pub number_one_line : (base n : ℕ) → IsOneLine (digits base false n)
unfolding digits
number_one_line base n = onto_one_line 64 base n [] refl

-- ---- the first line of a text

first_step : (byte : ℕ) (text : List ℕ) (is : Bool) → is_feed byte ≡ is → IsOneLine (take (position_or_len is_feed text) text)
    → IsOneLine (take (if not is then 1 + position_or_len is_feed text else 0) (byte ∷ text))
first_step byte text true e rest = refl
first_step byte text false e rest =
    let count = position_or_len is_feed text in
    let one_more : 1 + count ≡ suc count = omega arith in
    rw one_more (ap (λ (is : Bool). is || list_any is_feed (take count text)) e ∙ rest)

pub first_one_line : (text : List ℕ) → IsOneLine (before_first is_feed text)
first_one_line [] = refl
first_one_line (byte ∷ text) = first_step byte text (is_feed byte) refl (first_one_line text)

-- a text in which no line feed was found
pub all_one_line : (text : List ℕ) → position_or_len is_feed text ≡ length text → IsOneLine text
all_one_line text e =
    subst IsOneLine (ap (λ (count : ℕ). take count text) e ∙ take_all (length text) text (omega arith)) (first_one_line text)

-- the first part of a text that was split at its first line feed, or all of it
pub first_of_split : (text : List ℕ) (found : Option (Bor (List ℕ) × Bor (List ℕ)))
    → MatchOption found (position_or_len is_feed text ≡ length text)
    (λ parts. (parts.0.now ≡ before_first is_feed text) × (parts.1.now ≡ after_first is_feed text)
    × (position_or_len is_feed text < length text))
    → MatchOption found (IsOneLine text) (λ parts. IsOneLine parts.0.now)
first_of_split text None none = all_one_line text none
first_of_split text (Some parts) split = rw split.0 (first_one_line text)
