-- Tests of a header's parts.
use Rattle.std.proofs.Common.{◌≡◌, ℕ, zero, suc, ◌+◌, ◌<◌, List, [], ◌∷◌, ◌++◌, length, take, min, refl, sym, ap, ◌∙◌, arith, ◌⊎◌, Bool}
use Rattle.std.proofs.Common.{true, false, IsTrue, ◌≢◌, map, FitsSigned, MatchBool, w8}
use Rattle.std.specs.List.{AllByRecursion, AllZip}
use Rattle.lnt_wire.specs.declared.form.FormValue.{FormValue}
use Rattle.lnt_wire.specs.FormBytes.{form_of, HasSpelling}
use Rattle.lnt_header.specs.declared.fault.UnitFault.{UnitFault}
use Rattle.lnt_header.specs.declared.fault.UnitFault.TheVariants.{HeaderNumber, EntryNotOfFormat, TextHoldsZero, OpNotOfUnit}
use Rattle.lnt_header.specs.declared.header.Entry.{Entry}
use Rattle.lnt_header.specs.declared.numbers.NumberParts.{NumberParts}
use Rattle.lnt_header.specs.declared.header.Pair.{Pair}
use Rattle.lnt_header.specs.declared.header.EntryTable.TheVariants.{Directories, Files}
use Rattle.lnt_header.proofs.FirstLaws.{first_is_wrong}
use Rattle.lnt_header.specs.HeaderRules.{IsAddressSize, AreStandardLengths, six_bytes, AreHeaderNumbers, IsEntryOf, IsEntryTable, IsHeader}
use Rattle.lnt_header.specs.HeaderRules.{HeaderParts}
use Rattle.lnt_header.specs.OpRules.{known_lengths, last_known}
use Rattle.lnt_header.specs.HeaderTests.{IsFormat, IsPartsFault, FitsItsForm, HoldsNoZero, FitsPair, IsOfFormat, HasSoundTexts}
use Rattle.std.proofs.lemmas.Grind.{common_steps}

-- ---- the standard lengths

taken_capped : (xs : List ℕ) (k : ℕ) → take (min (length xs) k) xs ≡ take k xs
taken_capped [] zero = refl
taken_capped [] (suc k) = let least : min 0 (suc k) ≡ 0 = omega arith in rw least refl
taken_capped (x ∷ xs) zero = let least : min (length (x ∷ xs)) 0 ≡ 0 = omega arith in rw least refl
taken_capped (x ∷ xs) (suc k) =
    let least : min (length (x ∷ xs)) (suc k) ≡ suc (min (length xs) k) = omega arith in
    rw least (ap (λ (z : List ℕ). x ∷ z) (taken_capped xs k))

prefix_is : (xs : List ℕ) (m : ℕ) → m ≡ min (length xs) last_known → take m xs ≡ take last_known xs
prefix_is xs m e = ap (λ (n : ℕ). take n xs) e ∙ taken_capped xs last_known

known_is : (xs : List ℕ) (m : ℕ) → m ≡ min (length xs) last_known → take m known_lengths ≡ take (length xs) known_lengths
known_is xs m e = grind (arith, common_steps, min, taken_capped)

-- a comparison of the known ones
pub standard_lengths : (xs : List ℕ) (m : ℕ) (r : Bool) → m ≡ min (length xs) last_known
    → MatchBool r (take m xs ≡ take m known_lengths) (take m xs ≢ take m known_lengths)
    → (IsTrue r → AreStandardLengths xs) × (AreStandardLengths xs → IsTrue r)
standard_lengths xs m true e same = ((λ t. sym (prefix_is xs m e) ∙ same ∙ known_is xs m e), (λ are. refl))
standard_lengths xs m false e other = ((λ t. absurd cc), (λ are. absurd (other (prefix_is xs m e ∙ are ∙ sym (known_is xs m e)))))

-- ---- pairs and values side by side

-- what is left of two lists decides of them
pub record ZipLeft {X Y : Type 0} (P : X → Y → Type 0) (xs : List X) (ys : List Y) (left : List X) (right : List Y) : Type 0 where
  pub as_long : length left ≡ length right
  pub to : AllZip P left right → AllZip P xs ys
  pub from : AllZip P xs ys → AllZip P left right

pub zip_start : {X Y : Type 0} (P : X → Y → Type 0) (xs left : List X) (ys right : List Y) → left ≡ xs → right ≡ ys → length ys ≡ length xs
    → ZipLeft P xs ys left right
zip_start P xs left ys right same same' long = rw (same, same') (record { as_long = sym long; to = λ h. h; from = λ h. h })

pub zip_more : {X Y : Type 0} (P : X → Y → Type 0) (xs left left' : List X) (ys right right' : List Y) (x : X) (y : Y)
    → ZipLeft P xs ys left right → left ≡ x ∷ left' → right ≡ y ∷ right' → P x y → ZipLeft P xs ys left' right'
zip_more P xs left left' ys right right' x y h is is' p = grind (arith, common_steps)

pub zip_not : {X Y : Type 0} (P : X → Y → Type 0) (xs left left' : List X) (ys right right' : List Y) (x : X) (y : Y)
    → ZipLeft P xs ys left right → left ≡ x ∷ left' → right ≡ y ∷ right' → (P x y → ⊥) → AllZip P xs ys → ⊥
zip_not P xs left left' ys right right' x y h is is' other all = grind (arith, common_steps)

ends : {X Y : Type 0} (P : X → Y → Type 0) (left : List X) (right : List Y) → length left ≡ length right → (left ≡ []) ⊎ (right ≡ [])
    → AllZip P left right
ends P left right e none = grind (arith, common_steps)

pub zip_end : {X Y : Type 0} (P : X → Y → Type 0) (xs left : List X) (ys right : List Y) → ZipLeft P xs ys left right → (left ≡ [])
    ⊎ (right ≡ []) → AllZip P xs ys
zip_end P xs left ys right h none = h.to (ends P left right h.as_long none)

pub other_lengths : {X Y : Type 0} (P : X → Y → Type 0) (xs : List X) (ys : List Y) → (length ys ≡ length xs → ⊥) → AllZip P xs ys → ⊥
other_lengths P [] [] other h = other refl
other_lengths P [] (y ∷ ys) other h = h
other_lengths P (x ∷ xs) [] other h = h
other_lengths P (x ∷ xs) (y ∷ ys) other h = other_lengths P xs ys (λ e. other (ap suc e)) h.1

-- ---- the whole

bytes_join : (xs ys : List ℕ) → AllByRecursion (λ byte. byte < 256) xs → AllByRecursion (λ byte. byte < 256) ys
    → AllByRecursion (λ byte. byte < 256) (xs ++ ys)
bytes_join [] ys h k = k
bytes_join (x ∷ xs) ys h k = (h.0, bytes_join xs ys h.1 k)

pub header_numbers : (h : NumberParts) → IsAddressSize h.address_size → FitsSigned w8 h.line_base
    → AllByRecursion (λ byte. byte < 256) (six_bytes h) → AllByRecursion (λ byte. byte < 256) h.standard_lengths
    → 0 < h.max_ops → 0 < h.line_range → h.opcode_base ≡ length h.standard_lengths + 1 → AreStandardLengths h.standard_lengths
    → AreHeaderNumbers h
header_numbers h size fits six lengths max_ops line_range opcode_base known = grind (arith, common_steps, bytes_join, standard_lengths)

both_tests : (value : FormValue) → FitsItsForm value → HoldsNoZero value → HasSpelling value
both_tests value f z = grind (arith, common_steps)

record AreValues (pairs : List Pair) (values : List FormValue) : Type 0 where
  forms : map form_of values ≡ map (λ pair. pair.form) pairs
  spelled : AllByRecursion HasSpelling values

are_values : (pairs : List Pair) (values : List FormValue) → AllZip FitsPair pairs values → AllByRecursion HoldsNoZero values
    → AreValues pairs values
are_values [] [] h z = record { forms = refl; spelled = tt }
are_values [] (v ∷ values) h z = absurd h
are_values (pair ∷ pairs) [] h z = absurd h
are_values (pair ∷ pairs) (v ∷ values) h z =
    let rest = are_values pairs values h.1 z.1 in
    let first : form_of v ≡ pair.form = h.0.0 in
    let past = rest.forms in
    record { forms = cc; spelled = (both_tests v h.0.1 z.0, rest.spelled) }

are_entries : (pairs : List Pair) (entries : List Entry) → AllByRecursion (IsOfFormat pairs) entries → AllByRecursion HasSoundTexts entries
    → AllByRecursion (IsEntryOf pairs) entries
are_entries pairs [] h z = tt
are_entries pairs (entry ∷ entries) h z =
    let one = are_values pairs entry.values h.0 z.0 in
    (record { forms = one.forms; spelled = one.spelled }, are_entries pairs entries h.1 z.1)

pub tests_passed : (h : HeaderParts) → AreHeaderNumbers h.numbers → IsFormat h.directory_format h.directories
    → IsFormat h.file_format h.files
    → AllByRecursion (IsOfFormat h.directory_format) h.directories → AllByRecursion (IsOfFormat h.file_format) h.files
    → AllByRecursion HasSoundTexts h.directories → AllByRecursion HasSoundTexts h.files → IsHeader h
tests_passed h numbers d f of_d of_f text_d text_f = record {
  numbers = numbers;
  directories = record {
    few_pairs = d.few_pairs;
    none_without_pairs = d.none_without_pairs;
    of_format = are_entries h.directory_format h.directories of_d text_d;
  };
  files = record {
    few_pairs = f.few_pairs;
    none_without_pairs = f.none_without_pairs;
    of_format = are_entries h.file_format h.files of_f text_f;
  };
}

-- ---- what is refused

format_of : (pairs : List Pair) (entries : List Entry) → IsEntryTable pairs entries → IsFormat pairs entries
format_of pairs entries t = record { few_pairs = t.few_pairs; none_without_pairs = t.none_without_pairs }

own_form : (value : FormValue) → HasSpelling value → FitsItsForm value
own_form value h = grind (arith, common_steps)

no_zero : (value : FormValue) → HasSpelling value → HoldsNoZero value
no_zero value h = grind (arith, common_steps)

of_format : (pairs : List Pair) (values : List FormValue) → map form_of values ≡ map (λ pair. pair.form) pairs
    → AllByRecursion HasSpelling values → AllZip FitsPair pairs values
of_format [] [] e h = tt
of_format [] (v ∷ values) e h = absurd cc
of_format (pair ∷ pairs) [] e h = absurd cc
of_format (pair ∷ pairs) (v ∷ values) e h =
    let first : form_of v ≡ pair.form = cc in
    let past : map form_of values ≡ map (λ pair. pair.form) pairs = cc in
    ((first, own_form v h.0), of_format pairs values past h.1)

sound_texts : (values : List FormValue) → AllByRecursion HasSpelling values → AllByRecursion HoldsNoZero values
sound_texts [] h = tt
sound_texts (v ∷ values) h = (no_zero v h.0, sound_texts values h.1)

all_of_format : (pairs : List Pair) (entries : List Entry) → AllByRecursion (IsEntryOf pairs) entries
    → AllByRecursion (IsOfFormat pairs) entries
all_of_format pairs [] h = tt
all_of_format pairs (entry ∷ entries) h = (of_format pairs entry.values h.0.forms h.0.spelled, all_of_format pairs entries h.1)

all_sound : (pairs : List Pair) (entries : List Entry) → AllByRecursion (IsEntryOf pairs) entries → AllByRecursion HasSoundTexts entries
all_sound pairs [] h = tt
all_sound pairs (entry ∷ entries) h = (sound_texts entry.values h.0.spelled, all_sound pairs entries h.1)

pub no_header : (h : HeaderParts) (fault : UnitFault) → IsPartsFault fault h → IsHeader h → ⊥
no_header h HeaderNumber wrong is =
    wrong (record {
      numbers = is.numbers;
      directories = format_of h.directory_format h.directories is.directories;
      files = format_of h.file_format h.files is.files;
    })
no_header h (EntryNotOfFormat Directories index) wrong is =
    first_is_wrong wrong.1 (all_of_format h.directory_format h.directories is.directories.of_format)
no_header h (EntryNotOfFormat Files index) wrong is = first_is_wrong wrong.2 (all_of_format h.file_format h.files is.files.of_format)
no_header h (TextHoldsZero Directories index) wrong is =
    first_is_wrong wrong.2 (all_sound h.directory_format h.directories is.directories.of_format)
no_header h (TextHoldsZero Files index) wrong is = first_is_wrong wrong.3 (all_sound h.file_format h.files is.files.of_format)
no_header h (OpNotOfUnit index) wrong is = wrong

-- The lemmas of `is_of_format`.
pub ruleset is_of_format_lemmas = (zip_start, zip_more, zip_not, zip_end, other_lengths)
