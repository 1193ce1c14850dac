-- The names of files.
use Rattle.std.proofs.Common.{◌≡◌, ◌∙◌, ℕ, zero, suc, ◌+◌, ◌*◌, ◌<◌, ◌≤◌, Bool, true, false, List, [], ◌∷◌, ◌++◌, length, take, drop}
use Rattle.std.proofs.Common.{refl, sym, ap, arith, cond, drop-drop, get_or, Some, None}
use Rattle.std.specs.Prelude.{◌==◌, ◌||◌, is_some}
use Rattle.std.proofs.Math.ListN.{drop_of_length-le}
use Rattle.std.proofs.lemmas.Grind.{common_steps}
use Rattle.std.proofs.lemmas.List.{drop_more}
use Rattle.lnt_wire.specs.FirstValues.{first_number, first_text}
use Rattle.lnt_wire.specs.declared.format.Order.{Order}
use Rattle.lnt_gsym.specs.GsymAnswers.{joined, path_in, row_answer, text_at, told}
use Rattle.lnt_gsym.specs.GsymFiles.{files_of, Gsym}
use Rattle.lnt_gsym.specs.GsymInfos.{Row}
use Rattle.lnt_gsym.specs.GsymSpans.{tells}
use Rattle.lnt_gsym.specs.Walking.{has_bytes, named, NamesSaid}
use Rattle.lnt_gsym.proofs.InfoLemmas.{other_number, same_number}
use Rattle.lnt_gsym.proofs.RowSpanLemmas.{TellsSo, told_row}

-- ---- texts

pub none_outside : (strings : List ℕ) (offset : ℕ) → length strings ≤ offset → [] ≡ text_at strings offset
none_outside strings offset le = sym (ap first_text (drop_of_length-le strings le))

-- a text that goes on at an index, or ends there
at_index : (bytes : List ℕ) (i : ℕ) → i < length bytes → drop i bytes ≡ get_or bytes i 0 ∷ drop (i + 1) bytes
at_index bytes i lt = grind (arith, common_steps, drop_more)

text_zero : (c : ℕ) (rest : List ℕ) → c ≡ 0 → first_text (c ∷ rest) ≡ []
text_zero c rest e = ap (λ n. first_text (n ∷ rest)) e

text_more : (c : ℕ) (rest : List ℕ) → (c ≡ 0 → ⊥) → first_text (c ∷ rest) ≡ c ∷ first_text rest
text_more zero rest never = absurd (never refl)
text_more (suc c) rest never = refl

append_nil : (xs : List ℕ) → xs ++ [] ≡ xs
append_nil [] = refl
append_nil (x ∷ xs) = ap (λ ys. x ∷ ys) (append_nil xs)

pub text_ends : (bytes : List ℕ) (i : ℕ) → i < length bytes → first_text bytes ≡ take i bytes ++ first_text (drop i bytes)
    → get_or bytes i 0 ≡ 0 → take i bytes ≡ first_text bytes
text_ends bytes i lt so e =
    let none : first_text (drop i bytes) ≡ [] = ap first_text (at_index bytes i lt) ∙ text_zero (get_or bytes i 0) (drop (i + 1) bytes) e in
    sym (so ∙ (ap (λ t. take i bytes ++ t) none ∙ append_nil (take i bytes)))

take_more : (bytes more : List ℕ) (i : ℕ) → i < length bytes → take i bytes ++ (get_or bytes i 0 ∷ more) ≡ take (i + 1) bytes ++ more
take_more [] more i lt = absurd (omega (arith, lt))
take_more (b ∷ bytes) more zero lt = refl
take_more (b ∷ bytes) more (suc i) lt =
    let next : suc i + 1 ≡ suc (i + 1) = omega arith in
    ap (λ ys. b ∷ ys) (take_more bytes more i (omega (arith, lt))) ∙ ap (λ n. take n (b ∷ bytes) ++ more) (sym next)

pub text_goes_on : (bytes : List ℕ) (i : ℕ) → i < length bytes → first_text bytes ≡ take i bytes ++ first_text (drop i bytes)
    → (get_or bytes i 0 ≡ 0 → ⊥) → first_text bytes ≡ take (i + 1) bytes ++ first_text (drop (i + 1) bytes)
text_goes_on bytes i lt so never =
    let more : first_text (drop i bytes) ≡ get_or bytes i 0 ∷ first_text (drop (i + 1) bytes)
    = ap first_text (at_index bytes i lt) ∙ text_more (get_or bytes i 0) (drop (i + 1) bytes) never in
    so ∙ (ap (λ t. take i bytes ++ t) more ∙ take_more bytes (first_text (drop (i + 1) bytes)) i lt)

take_all : (bytes : List ℕ) → take (length bytes) bytes ≡ bytes
take_all [] = refl
take_all (b ∷ bytes) = ap (λ ys. b ∷ ys) (take_all bytes)

pub whole_text : (bytes : List ℕ) (i : ℕ) → length bytes ≤ i → i ≤ length bytes
    → first_text bytes ≡ take i bytes ++ first_text (drop i bytes) → bytes ≡ first_text bytes
whole_text bytes i le ge so =
    let same : i ≡ length bytes = omega (arith, le, ge) in
    let none : first_text (drop i bytes) ≡ [] = ap first_text (drop_of_length-le bytes le) in
    sym (so ∙ (ap (λ t. take i bytes ++ t) none ∙ (append_nil (take i bytes) ∙ (ap (λ n. take n bytes) same ∙ take_all bytes))))

-- ---- files

drop_eight : (n : ℕ) (bytes : List ℕ) → drop (8 * n) (drop 8 bytes) ≡ drop (8 * suc n) bytes
drop_eight n bytes = drop-drop (8 * n) 8 bytes ∙ ap (λ m. drop m bytes) (omega arith)

pub file_named : (order : Order) (strings : List ℕ) (count n : ℕ) (bytes entry rest : List ℕ) (directory name : ℕ)
    → n < count → entry ≡ drop (8 * n) bytes → rest ≡ drop 4 entry → directory ≡ first_number order 4 entry
    → name ≡ first_number order 4 rest
    → path_in strings (files_of order count bytes) n ≡ joined (text_at strings directory) (text_at strings name)
file_named order strings count n bytes entry rest directory name lt e r d m =
    rw (d, m, r, e) (at_file count n bytes lt)
  where
    at_file : (count n : ℕ) (bytes : List ℕ) → n < count
        → path_in strings (files_of order count bytes) n
        ≡ joined (text_at strings (first_number order 4 (drop (8 * n) bytes)))
        (text_at strings (first_number order 4 (drop 4 (drop (8 * n) bytes))))
    at_file zero n bytes lt = absurd (omega (arith, lt))
    at_file (suc count) zero bytes lt = refl
    at_file (suc count) (suc n) bytes lt =
        at_file count n (drop 8 bytes) (omega (arith, lt))
        ∙ ap (λ b. joined (text_at strings (first_number order 4 b)) (text_at strings (first_number order 4 (drop 4 b))))
        (drop_eight n bytes)

pub none_named : (order : Order) (strings : List ℕ) (count n : ℕ) (bytes : List ℕ) → count ≤ n
    → path_in strings (files_of order count bytes) n ≡ []
none_named order strings zero n bytes le = refl
none_named order strings (suc count) zero bytes le = absurd (omega (arith, le))
none_named order strings (suc count) (suc n) bytes le = none_named order strings count n (drop 8 bytes) (omega (arith, le))

pub room_for_file : (count n : ℕ) (bytes : List ℕ) → n < count → length bytes ≡ 8 * count → 8 * n + 8 ≤ length bytes
room_for_file count n bytes lt is = omega (arith, lt, is)

-- ---- what rows tell

is_told : (path : List ℕ) (line : ℕ)
    → told path line ≡ cond (is_some (told path line)) (Some (record { path = path; line = line; column = None })) None
is_told [] line = refl
is_told (c ∷ path) line = refl

-- A row tells the path of its file, if it tells one.
pub rows_tell : (gsym : Gsym) → TellsSo (row_answer gsym) (λ unit file. path_in gsym.strings gsym.files file)
rows_tell gsym row = by (row.file == 0) refl
  where
    by : (t : Bool) → (row.file == 0) ≡ t
        → row_answer gsym row
        ≡ cond (is_some (row_answer gsym row)) (Some (told_row (λ unit file. path_in gsym.strings gsym.files file) row)) None
    by true e = rw e refl
    by false e = rw e (is_told (path_in gsym.strings gsym.files row.file) row.line)

is_path : (directory name : List ℕ) (line : ℕ) → is_some (told (joined directory name) line) ≡ (has_bytes directory || has_bytes name)
is_path [] [] line = refl
is_path [] (c ∷ name) line = refl
is_path (c ∷ directory) name line = refl

pub no_file : (names : NamesSaid) (row : Row) → row.file ≡ 0 → tells (named names) row ≡ false
no_file names row e = rw (same_number row.file 0 e) refl

pub row_told : (names : NamesSaid) (row : Row) (directory name : ℕ) (one two : Bool) → (row.file ≡ 0 → ⊥)
    → path_in names.strings names.files row.file ≡ joined (text_at names.strings directory) (text_at names.strings name)
    → one ≡ has_bytes (text_at names.strings directory) → two ≡ has_bytes (text_at names.strings name)
    → tells (named names) row ≡ (one || two)
row_told names row directory name one two never e o t =
    rw (other_number row.file 0 never, e, o, t) (is_path (text_at names.strings directory) (text_at names.strings name) row.line)

pub row_untold : (names : NamesSaid) (row : Row) → (row.file ≡ 0 → ⊥) → path_in names.strings names.files row.file ≡ []
    → tells (named names) row ≡ false
row_untold names row never e = rw (other_number row.file 0 never, e) refl

-- ---- whether a text is empty

pub no_text : (strings : List ℕ) (offset : ℕ) → length strings ≤ offset → has_bytes (text_at strings offset) ≡ false
no_text strings offset le = ap has_bytes (sym (none_outside strings offset le))

pub empty_text : (strings : List ℕ) (offset : ℕ) → offset < length strings → get_or strings offset 0 ≡ 0
    → has_bytes (text_at strings offset) ≡ false
empty_text strings offset lt e =
    ap has_bytes (ap first_text (at_index strings offset lt) ∙ text_zero (get_or strings offset 0) (drop (offset + 1) strings) e)

pub some_text : (strings : List ℕ) (offset : ℕ) → offset < length strings → (get_or strings offset 0 ≡ 0 → ⊥)
    → has_bytes (text_at strings offset) ≡ true
some_text strings offset lt never =
    ap has_bytes (ap first_text (at_index strings offset lt) ∙ text_more (get_or strings offset 0) (drop (offset + 1) strings) never)

pub path_is_joined : (path one two : List ℕ) (strings : List ℕ) (directory name : ℕ)
    → path ≡ joined (text_at strings directory) (text_at strings name) → one ≡ text_at strings directory → two ≡ text_at strings name
    → path ≡ joined one two
path_is_joined path one two strings directory name e o t = rw (o, t) e
