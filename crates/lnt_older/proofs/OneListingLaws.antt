-- Of a file of directories one record is the first that isn't so, and it lists none then. Else it lists one directory for a unit.
use Rattle.std.proofs.Common.{◌≡◌, ◌∙◌, ℕ, ◌<◌, List, [], ◌∷◌, ◌++◌, get_or, drop, refl, ap, arith, zero, suc, inl, inr}
use Rattle.std.specs.List.{AllZip}
use Rattle.std.proofs.lemmas.Bool.Decides.{eqb_tells}
use Rattle.std.proofs.lemmas.List.{get_or_append_left, length-append, map-append}
use Rattle.lnt_header.specs.Joins.{AreRising}
use Rattle.lnt_csv.specs.Records.{Fields}
use Rattle.lnt_csv.proofs.RecordLaws.{first_begins, records_begin}
use Rattle.lnt_csv.proofs.RecordLaws.{one_list, prefix_of, same_least, stands_before}
use Rattle.lnt_csv.proofs.RecordLaws.{zip_push}
use Rattle.lnt_text.proofs.TextLaws.{one_decimal_number}
use Rattle.lnt_older.specs.Directories.{AreDirectories, AreRecords, HasBadRecord, IsAmong, IsBadRecord, IsDirectoryFile, IsDirectoryRecord}
use Rattle.lnt_older.specs.Directories.{directory_at, directory_names, units_of, Directory}
use Rattle.lnt_older.proofs.DirectoryLemmas.{map_more}

-- ---- what records say

one_units : (records : List Fields) (directories others : List Directory) → AllZip IsDirectoryRecord records directories
    → AllZip IsDirectoryRecord records others → units_of directories ≡ units_of others
one_units [] [] [] h k = refl
one_units [] [] (e ∷ others) h k = absurd k
one_units [] (d ∷ directories) others h k = absurd h
one_units (f ∷ records) [] others h k = absurd h
one_units (f ∷ records) (d ∷ directories) [] h k = absurd k
one_units (f ∷ records) (d ∷ directories) (e ∷ others) h k =
    let first : d.unit ≡ e.unit = one_decimal_number (get_or f 0 []) d.unit e.unit h.0.unit k.0.unit in
    let rest = one_units records directories others h.1 k.1 in
    cc (first, rest)

one_directory : (records : List Fields) (directories others : List Directory) → AllZip IsDirectoryRecord records directories
    → AllZip IsDirectoryRecord records others → (offset : ℕ) → directory_at directories offset ≡ directory_at others offset
one_directory [] [] [] h k offset = refl
one_directory [] [] (e ∷ others) h k offset = absurd k
one_directory [] (d ∷ directories) others h k offset = absurd h
one_directory (f ∷ records) [] others h k offset = absurd h
one_directory (f ∷ records) (d ∷ directories) [] h k offset = absurd k
one_directory (f ∷ records) (d ∷ directories) (e ∷ others) h k offset =
    let same : e.unit ≡ d.unit = one_decimal_number (get_or f 0 []) e.unit d.unit k.0.unit h.0.unit in
    elim (eqb_tells d.unit offset) [
      | inl here ↦ rw (same, here.0, h.0.path, k.0.path) refl
      | inr other ↦ rw (same, other.0) (one_directory records directories others h.1 k.1 offset)
    ]

-- ---- the first records of some that are so

-- The directories of records, and of the one after them.
record HasDirectories (older : List ℕ) (records : List Fields) (fields : Fields) (directories : List Directory) : Type 0 where
  first : List Directory
  directory : Directory
  past : List Directory
  joined : directories ≡ (first ++ directory ∷ []) ++ past
  each : AllZip IsDirectoryRecord records first
  is_record : IsDirectoryRecord fields directory
  among : IsAmong older directory.unit

directories_of : (older : List ℕ) (records : List Fields) (fields : Fields) (past : List Fields) (directories : List Directory)
    → AllZip IsDirectoryRecord ((records ++ fields ∷ []) ++ past) directories
    → AllZip (λ (f : Fields) (d : Directory). IsAmong older d.unit) ((records ++ fields ∷ []) ++ past) directories
    → HasDirectories older records fields directories
directories_of older [] fields past [] h k = absurd h
directories_of older [] fields past (d ∷ directories) h k =
    record { first = []; directory = d; past = directories; joined = refl; each = tt; is_record = h.0; among = k.0 }
directories_of older (r ∷ records) fields past [] h k = absurd h
directories_of older (r ∷ records) fields past (d ∷ directories) h k =
    let rest = directories_of older records fields past directories h.1 k.1 in
    record {
      first = d ∷ rest.first;
      directory = rest.directory;
      past = rest.past;
      joined = ap (λ (l : List Directory). d ∷ l) rest.joined;
      each = (h.0, rest.each);
      is_record = rest.is_record;
      among = rest.among;
    }

first_rise : (xs ys : List ℕ) → AreRising (xs ++ ys) → AreRising xs
first_rise xs ys up i j d lt few =
    let left = get_or_append_left xs ys d i (omega (arith, lt, few)) in
    let right = get_or_append_left xs ys d j few in
    omega (arith, up i j d lt (omega (arith, few, length-append xs ys)), left, right)

follows_first : (directories first past : List Directory) (directory : Directory) → units_of directories ≡ units_of first
    → AreDirectories ((first ++ directory ∷ []) ++ past) → AreDirectories (directories ++ directory ∷ [])
follows_first directories first past directory same up =
    let units : units_of ((first ++ directory ∷ []) ++ past) ≡ (units_of first ++ directory.unit ∷ []) ++ units_of past =
    map-append (λ (x : Directory). x.unit) (first ++ directory ∷ []) past
    ∙ ap (λ (l : List ℕ). l ++ units_of past) (map_more first directory) in
    rw (map_more directories directory, same) (first_rise (units_of first ++ directory.unit ∷ []) (units_of past) (rw units at up))

module _ (older bytes : List ℕ) where
  -- no records that are so begin with those up to one that isn't
  bad_none : (count : ℕ) → (f : HasBadRecord older bytes count) → (records past : List Fields) (directories : List Directory)
      → records ≡ (f.records ++ f.fields ∷ []) ++ past → AreRecords older records directories → ⊥
  bad_none count f records past directories joined so =
      let p = directories_of older f.records f.fields past directories (rw joined at so.each) (rw joined at so.units) in
      f.bad p.directory (record {
        each = zip_push IsDirectoryRecord f.records f.directories f.fields p.directory f.so.each p.is_record;
        rising = follows_first f.directories p.first p.past p.directory
            (one_units f.records f.directories p.first f.so.each p.each) (rw p.joined at so.rising);
        units = zip_push (λ (g : Fields) (d : Directory). IsAmong older d.unit) f.records f.directories f.fields p.directory f.so.units
            p.among;
      })

  earlier : (i j : ℕ) → HasBadRecord older bytes i → HasBadRecord older bytes j → i < j → ⊥
  earlier i j f g lt =
      let found = stands_before bytes (directory_names ∷ f.records) (directory_names ∷ g.records) f.fields g.fields f.begins g.begins
      (omega (arith, lt, f.count_is, g.count_is)) in
      bad_none i f g.records found.0 g.directories (ap (λ (l : List Fields). drop 1 l) found.1) g.so

  pub bad_one : (i j : ℕ) → IsBadRecord older bytes i → IsBadRecord older bytes j → i ≡ j
  bad_one zero zero h k = refl
  bad_one zero (suc j) h k = absurd (h (first_begins bytes directory_names (k.records ++ k.fields ∷ []) k.begins))
  bad_one (suc i) zero h k = absurd (k (first_begins bytes directory_names (h.records ++ h.fields ∷ []) h.begins))
  bad_one (suc i) (suc j) h k = ap suc (same_least i j (earlier i j h k) (earlier j i k h))

  -- a file with a bad record lists nothing
  pub listed_none : (i : ℕ) (directories : List Directory) → IsBadRecord older bytes i → IsDirectoryFile older bytes directories → ⊥
  listed_none zero directories h file = h (records_begin bytes directory_names file.records file.all)
  listed_none (suc i) directories h file =
      let found = prefix_of bytes (directory_names ∷ (h.records ++ h.fields ∷ [])) (directory_names ∷ file.records) h.begins file.all in
      bad_none i h file.records found.0 directories (ap (λ (l : List Fields). drop 1 l) found.1) file.so

  pub listed_one : (directories others : List Directory) → IsDirectoryFile older bytes directories → IsDirectoryFile older bytes others
      → (offset : ℕ) → directory_at directories offset ≡ directory_at others offset
  listed_one directories others a b offset =
      let same : b.records ≡ a.records = ap (λ (l : List Fields). drop 1 l)
      (one_list bytes (directory_names ∷ b.records) (directory_names ∷ a.records) b.all a.all) in
      one_directory a.records directories others a.so.each (rw same at b.so.each) offset
