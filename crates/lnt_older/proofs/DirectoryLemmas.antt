-- Offsets that rise, and the directories of units.
use Rattle.std.proofs.Common.{◌≡◌, ◌≢◌, ◌∙◌, ℕ, ◌+◌, ◌-◌, ◌<◌, ◌≤◌, Bool, true, false, List, [], ◌∷◌, ◌++◌, length, get_or, Result, Ok, Err}
use Rattle.std.proofs.Common.{Option, Some, None, inl, inr, refl, sym, arith, zero, suc, MatchBool, is_ok}
use Rattle.lnt_csv.specs.Reading.{BytesReader, HasRead}
use Rattle.lnt_csv.proofs.RecordLaws.{one_beginning}
use Rattle.lnt_csv.specs.Records.{BeginsWith, Fields}
use Rattle.lnt_csv.proofs.RecordLaws.{zip_push}
use Rattle.csv.specs.Reading.{reader_state}
use Rattle.std.specs.List.{AllZip}
use Rattle.std.specs.List.Sorted.{IsBinarySearchResult, IsNonDecreasingBy}
use Rattle.std.specs.Ordering.{nat_cmp, ordering_index}
use Rattle.std.proofs.lemmas.Bool.{cases_lt, eq-eqb, ne_eqb}
use Rattle.std.proofs.lemmas.Bool.Decides.{eqb_tells, nat_tests}
use Rattle.std.proofs.lemmas.Cmp.{ranked}
use Rattle.std.proofs.Math.Seq.{get_or-append_seam}
use Rattle.std.proofs.lemmas.List.{get_or-map, get_or_append_left, get_or_default, length-append, length-map, map-append}
use Rattle.std.proofs.lemmas.List.Quantifiers.{all_pairs_push}
use Rattle.std.proofs.lemmas.List.Sorted.{searched}
use Rattle.std.proofs.lemmas.Slice.Zip.{AllZip-long}
use Rattle.lnt_header.specs.Joins.{AreRising}
use Rattle.lnt_older.specs.Directories.{AreDirectories, AreRecords, HasBadRecord, IsAdded, IsDirectoryFile, IsDirectoryRecord, IsLastUnit}
use Rattle.lnt_older.specs.Directories.{IsNext, IsAmong, MayFollow, directory_at, directory_names, units_of, Directory}
use Rattle.lnt_older.specs.Upgradable.{AreSoundDirectories}
use Rattle.lnt_wire.specs.FormBytes.{HasNoZero}
use Rattle.std.proofs.lemmas.Grind.{common_steps}

-- ---- one offset among others

not_falling : (offsets : List ℕ) → AreRising offsets → (i j : ℕ) → i ≤ j → j < length offsets → get_or offsets i 0 ≤ get_or offsets j 0
not_falling offsets up i j le lt = elim (cases_lt i j) [
  | inl earlier ↦ omega (arith, up i j 0 earlier lt)
  | inr later ↦ let same : i ≡ j = omega arith in rw same (omega arith)
]

pub among : (offsets : List ℕ) (offset : ℕ) (r : Result ℕ ℕ) → IsBinarySearchResult (λ y. nat_cmp y offset) offsets r → AreRising offsets
    → MatchBool (is_ok r) (IsAmong offsets offset) (IsAmong offsets offset → ⊥)
among offsets offset (Ok i) h up =
    let s = searched offsets offset (Ok i) h (not_falling offsets up) in
    (i, offset, s.0, get_or_default offsets i offset 0 s.0 ∙ s.1, refl)
among offsets offset (Err i) h up =
    let s = searched offsets offset (Err i) h (not_falling offsets up) in
    λ any.
    let (k, y, lt, at, same) = any in
    let here : get_or offsets k 0 ≡ offset = get_or_default offsets k 0 y lt ∙ (at ∙ same) in
    elim (cases_lt k i) [
      | inl earlier ↦ omega (arith, s.1 k earlier, here)
      | inr later ↦ omega (arith, s.2 k later lt, here)
    ]

-- ---- the directory of a unit

rising_tail : (directory : Directory) (directories : List Directory) → AreDirectories (directory ∷ directories) → AreDirectories directories
rising_tail directory directories up i j d lt few = up (suc i) (suc j) d (omega arith) (omega arith)

long_is : (directories : List Directory) → length (units_of directories) ≡ length directories
long_is directories = length-map directories (λ (x : Directory). x.unit)

unit_at : (directories : List Directory) (k : ℕ) (d : Directory) → k < length directories
    → get_or (units_of directories) k 0 ≡ (get_or directories k d).unit
unit_at directories k d lt = get_or-map (λ (x : Directory). x.unit) directories k d 0 lt

found_at : (directories : List Directory) (k offset : ℕ) (d : Directory) → AreDirectories directories → k < length directories
    → (get_or directories k d).unit ≡ offset → directory_at directories offset ≡ (get_or directories k d).path.items
found_at [] k offset d up lt same = absurd (omega (arith, lt))
found_at (e ∷ es) zero offset d up lt same = rw (eq-eqb e.unit offset same) refl
found_at (e ∷ es) (suc k) offset d up lt same =
    let few : k < length es = omega (arith, lt) in
    let less : e.unit < get_or (units_of es) k 0 = up 0 (suc k) 0 (omega arith) (omega (arith, few, long_is es)) in
    rw (ne_eqb e.unit offset (λ is. omega (arith, less, unit_at es k d few, same, is)))
    (found_at es k offset d (rising_tail e es up) few same)

missing_at : (directories : List Directory) (offset : ℕ) → ((k : ℕ) (d : Directory) → k < length directories
    → (get_or directories k d).unit ≢ offset) → directory_at directories offset ≡ []
missing_at [] offset none = refl
missing_at (e ∷ es) offset none =
    rw (ne_eqb e.unit offset (none zero e (omega arith))) (missing_at es offset (λ k d lt. none (suc k) d (omega (arith, lt))))

-- the comparisons with an offset rise
comparisons_rise : (directories : List Directory) (offset : ℕ) → AreDirectories directories
    → IsNonDecreasingBy (λ (directory : Directory). ordering_index (nat_cmp directory.unit offset)) directories
comparisons_rise directories offset up i j d le lt = grind (arith, common_steps, not_falling, long_is, unit_at, nat_tests)

pub found_directory : (directories : List Directory) (offset i : ℕ) (d : Directory) → AreDirectories directories → i < length directories
    → IsBinarySearchResult (λ (directory : Directory). nat_cmp directory.unit offset) directories (Ok i)
    → (get_or directories i d).path.items ≡ directory_at directories offset
found_directory directories offset i d up lt h = sym (found_at directories i offset d up lt (ranked _ offset _ (sym (h d))))

pub no_directory : (directories : List Directory) (offset i : ℕ) → AreDirectories directories
    → IsBinarySearchResult (λ (directory : Directory). nat_cmp directory.unit offset) directories (Err i)
    → directory_at directories offset ≡ []
no_directory directories offset i up h =
    let parted = h (comparisons_rise directories offset up) in
    missing_at directories offset (λ k d lt same. elim (cases_lt k i) [
      | inl earlier ↦
          let less : (get_or directories k d).unit < offset = ranked _ offset _ (sym (parted.0 k d (omega arith) earlier)) in
          omega (arith, less, same)
      | inr later ↦
          let more : offset < (get_or directories k d).unit = ranked _ offset _ (sym (parted.1 k d later lt)) in
          omega (arith, more, same)
    ])

-- ---- record 0

pub columns_found : (named : Bool) (reader : BytesReader) (bytes : List ℕ) (fields : Fields) → HasRead reader bytes (fields ∷ [])
    → MatchBool named (fields ≡ directory_names) (fields ≢ directory_names)
    → MatchBool named (HasRead reader bytes (directory_names ∷ [])) (BeginsWith bytes (directory_names ∷ []) → ⊥)
columns_found true reader bytes fields read is = rw is at read
columns_found false reader bytes fields read other = λ begins.
    other (one_beginning bytes fields directory_names (reader_state reader, read.rest, read.reached) begins)

-- ---- one directory after others

pub map_more : (directories : List Directory) (directory : Directory)
    → units_of (directories ++ directory ∷ []) ≡ units_of directories ++ directory.unit ∷ []
map_more directories directory = map-append (λ (x : Directory). x.unit) directories (directory ∷ [])

-- an offset after the last of others is after each of them
after_last : (xs : List ℕ) (x : ℕ) → AreRising xs → (0 < length xs → get_or xs (length xs - 1) 0 < x) → (k d : ℕ) → k < length xs
    → get_or xs k d < x
after_last xs x up less k d lt =
    let last = less (omega (arith, lt)) in
    let top = not_falling xs up k (length xs - 1) (omega (arith, lt)) (omega (arith, lt)) in
    let same = get_or_default xs k d 0 lt in
    omega (arith, last, top, same)

rising_more : (xs : List ℕ) (x : ℕ) → AreRising xs → (0 < length xs → get_or xs (length xs - 1) 0 < x) → AreRising (xs ++ x ∷ [])
rising_more xs x up less = all_pairs_push (λ (one other : ℕ). one < other) xs x up (after_last xs x up less)

rising_last : (xs : List ℕ) (x : ℕ) → AreRising (xs ++ x ∷ []) → 0 < length xs → get_or xs (length xs - 1) 0 < x
rising_last xs x up some =
    let n : length (xs ++ x ∷ []) ≡ length xs + 1 = length-append xs (x ∷ []) in
    let pair = up (length xs - 1) (length xs) 0 (omega (arith, some)) (omega (arith, n)) in
    let at_i = get_or_append_left xs (x ∷ []) 0 (length xs - 1) (omega (arith, some)) in
    let at_j = get_or-append_seam xs x [] 0 in
    omega (arith, pair, at_i, at_j)

pub may_follow : (older : List ℕ) (directories : List Directory) (before : Option ℕ) (directory : Directory) → AreDirectories directories
    → IsLastUnit directories before → IsNext before older directory → MayFollow older directories directory
may_follow older directories before directory up last next = grind (arith, common_steps, map_more, rising_more, long_is)

pub must_follow : (older : List ℕ) (directories : List Directory) (before : Option ℕ) (directory : Directory)
    → IsLastUnit directories before → MayFollow older directories directory → IsNext before older directory
must_follow older directories None directory last may = (tt, may.1)
must_follow older directories (Some unit) directory last may =
    let up = rw (map_more directories directory) at may.0 in
    let top = rising_last (units_of directories) directory.unit up (omega (arith, long_is directories, last.0)) in
    let here = rw (long_is directories) at top in
    (rw last.1 here, may.1)

-- ---- all records

pub none_yet : (older : List ℕ) → AreRecords older [] []
none_yet older = record { each = tt; rising = λ i j d lt few. absurd (omega (arith, few)); units = tt }

pub one_more : (older : List ℕ) (records : List Fields) (fields : Fields) (old new : List Directory) → AreRecords older records old
    → IsAdded older fields old new → AreRecords older (records ++ fields ∷ []) new
one_more older records fields old new so a = grind (arith, common_steps, zip_push)

zip_last : {A B : Type 0} (R : A → B → Type 0) (xs : List A) (ys : List B) (x : A) (y : B) → AllZip R xs ys
    → AllZip R (xs ++ x ∷ []) (ys ++ y ∷ []) → R x y
zip_last R [] [] x y h k = k.0
zip_last R [] (b ∷ ys) x y h k = absurd h
zip_last R (a ∷ xs) [] x y h k = absurd h
zip_last R (a ∷ xs) (b ∷ ys) x y h k = zip_last R xs ys x y h.1 k.1

pub bad_record : (older bytes : List ℕ) (records : List Fields) (fields : Fields) (directories : List Directory) (reader : BytesReader)
    → AreRecords older records directories → HasRead reader bytes ((directory_names ∷ records) ++ fields ∷ [])
    → ((directory : Directory) → IsDirectoryRecord fields directory → MayFollow older directories directory → ⊥)
    → HasBadRecord older bytes (length directories)
bad_record older bytes records fields directories reader so read none = record {
  records = records;
  directories = directories;
  fields = fields;
  begins = (reader_state reader, read.rest, read.reached);
  so = so;
  count_is = sym (AllZip-long IsDirectoryRecord records directories so.each);
  bad = λ directory more.
      let IsOlder : Fields → Directory → Type 0 = λ (f : Fields) (d : Directory). IsAmong older d.unit in
      none directory (zip_last IsDirectoryRecord records directories fields directory so.each more.each)
      (more.rising, zip_last IsOlder records directories fields directory so.units more.units);
}

pub suc_is : (n : ℕ) → suc n ≡ n + 1
suc_is n = omega arith

-- ---- paths without a zero byte

no_zero_at : (records : List Fields) (directories : List Directory) → AllZip IsDirectoryRecord records directories → (offset : ℕ)
    → HasNoZero (directory_at directories offset)
no_zero_at [] [] h offset = tt
no_zero_at (f ∷ fs) (d ∷ ds) h offset = elim (eqb_tells d.unit offset) [
  | inl same ↦ rw (same.0, h.0.path) h.0.no_zero
  | inr other ↦ rw (other.0) (no_zero_at fs ds h.1 offset)
]
no_zero_at fs ds h offset = absurd h

pub sound_from : (older bytes : List ℕ) (directories : List Directory) → IsDirectoryFile older bytes directories
    → AreSoundDirectories directories
sound_from older bytes directories file = grind (arith, common_steps, no_zero_at)

pub sound_none : (directories : List Directory) → directories ≡ [] → AreSoundDirectories directories
sound_none directories none = rw none (record { rising = λ i j d lt few. absurd (omega (arith, few)); no_zero = λ offset. tt })
