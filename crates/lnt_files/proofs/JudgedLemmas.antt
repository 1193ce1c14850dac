-- Tables that are judged in one walk.
use Rattle.std.proofs.Common.{◌≡◌, ℕ, ◌+◌, ◌<◌, ◌≤◌, ◌↔◌, List, [], ◌∷◌, ◌++◌, length, Option, Some, None, refl, sym, ap, subst, ◌∙◌}
use Rattle.std.proofs.Common.{append_assoc, arith, Bool, false, IsTrue, MatchOption}
use Rattle.std.specs.List.{AllByRecursion}
use Rattle.std.proofs.lemmas.List.{length-append, append-nil, nil_from_length}
use Rattle.lnt_header_bytes.specs.Borrowed.{BorrowedTable}
use Rattle.lnt_header.specs.HeaderTests.{IsFirstNot}
use Rattle.lnt_header.specs.declared.header.Entry.{Entry}
use Rattle.lnt_header.specs.Parts.{HeaderParts}
use Rattle.lnt_header.specs.declared.header.Pair.{Pair}
use Rattle.lnt_files.specs.declared.tables.EntryTableFault.{EntryTableFault}
use Rattle.lnt_files.specs.declared.tables.EntryTableFault.TheVariants.{DirectoryNumber}
use Rattle.lnt_files.specs.Contents.{directory_number}
use Rattle.lnt_files.specs.Walks.{first_missing, NamesDirectoryBelow, HasAll, IsFilesFault, HasSeenEntries, Says, EntryStep, GivesEntry}
use Rattle.lnt_files.specs.Walks.{EntryView}
use Rattle.lnt_files.specs.Tables.{HasUsableFormat, HasPath, AreUsableTables, IsTablesFault}
use Rattle.std.proofs.lemmas.Grind.{common_steps}

-- ---- what was seen

pub seen_none : (table : BorrowedTable) → HasSeenEntries [] table table 0
seen_none table = record { joined = refl; count_is = refl; pairs_are = refl }

module _ {seen : List Entry} {table old : BorrowedTable} {count : ℕ} (s : HasSeenEntries seen table old count) where
  pub seen_more : {new : BorrowedTable} {view : EntryView} → (g : GivesEntry old view new)
      → HasSeenEntries (seen ++ g.entry ∷ []) table new (count + 1)
  seen_more {new} g = grind (arith, common_steps, append_assoc, length-append)

  -- what it says by the table's format
  pub says_in : {new : BorrowedTable} {view : EntryView} → (g : GivesEntry old view new) → Says table.pairs g.entry view
  says_in {view = view} g = subst (λ (ps : List Pair). Says ps g.entry view) s.pairs_are g.says

  seen_all : length table.entries ≤ count → seen ≡ table.entries
  seen_all le = grind (arith, common_steps, nil_from_length, length-append, append-nil)

  pub some_left : (new : BorrowedTable) → count < length table.entries → EntryStep old None new → ⊥
  some_left new lt ends = omega (arith, ap length s.joined, length-append seen old.entries, s.count_is, lt, ap length ends.0)

-- ---- all that were seen

all_push : {X : Type 0} (P : X → Type 0) (xs : List X) (x : X) → AllByRecursion P xs → P x → AllByRecursion P (xs ++ x ∷ [])
all_push P [] x h p = (p, tt)
all_push P (y ∷ xs) x h p = (h.0, all_push P xs x h.1 p)

-- each of the first entries has the text of its path
pub record AllHavePaths (line general : List ℕ) (table walk : BorrowedTable) (count : ℕ) : Type 0 where
  pub seen : List Entry
  pub has_seen : HasSeenEntries seen table walk count
  pub all : AllByRecursion (HasPath line general table.pairs) seen

pub all_begun : (line general : List ℕ) (table walk : BorrowedTable) → walk ≡ table → AllHavePaths line general table walk 0
all_begun line general table walk e = grind (arith, common_steps, seen_none)

-- what a test of the next entry tells
abbrev pub TellsPath : List ℕ → List ℕ → Bool → EntryView → Type 0
TellsPath line general told view =
    (pairs : List Pair) (entry : Entry) → Says pairs entry view → IsTrue told ↔ HasPath line general pairs entry

module _ {line general : List ℕ} {table old : BorrowedTable} {count : ℕ} (a : AllHavePaths line general table old count) where
  pub never_ends : (new : BorrowedTable) → count < length table.entries → EntryStep old None new → ⊥
  never_ends new lt ends = some_left a.has_seen new lt ends

  pub all_stepped : {new : BorrowedTable} {view : EntryView} (told : Bool) → GivesEntry old view new → TellsPath line general told view
      → IsTrue told → AllHavePaths line general table new (count + 1)
  all_stepped told g tells is = record {
    seen = a.seen ++ g.entry ∷ [];
    has_seen = seen_more a.has_seen g;
    all = all_push (HasPath line general table.pairs) a.seen g.entry a.all ((tells table.pairs g.entry (says_in a.has_seen g)).0 is);
  }

  pub all_done : length table.entries ≤ count → AllByRecursion (HasPath line general table.pairs) table.entries
  all_done le = subst (AllByRecursion (HasPath line general table.pairs)) (seen_all a.has_seen le) a.all

  pub all_but : {new : BorrowedTable} {view : EntryView} (told : Bool) → GivesEntry old view new → TellsPath line general told view
      → (IsTrue told → ⊥) → IsFirstNot (HasPath line general table.pairs) table.entries count
  all_but {new} told g tells other = grind (arith, common_steps, says_in)

-- ---- formats

pub no_entries : (pairs : List Pair) (entries : List Entry) (count : ℕ) → count ≡ length entries
    → (count ≡ 0 → entries ≡ []) × (entries ≡ [] → count ≡ 0)
no_entries pairs entries count e = ((λ none. nil_from_length entries (sym e ∙ none)), (λ none. e ∙ ap length none))

-- ---- files

false_is_not : IsTrue false → ⊥
false_is_not e = cc

longer : {X : Type 0} (P : X → Type 0) (xs more : List X) (k : ℕ) → IsFirstNot P xs k → IsFirstNot P (xs ++ more) k
longer P xs more k f = grind (arith, common_steps, append_assoc)

here : {X : Type 0} (P : X → Type 0) (xs : List X) (x : X) (k : ℕ) → length xs ≡ k → AllByRecursion P xs → (P x → ⊥)
    → IsFirstNot P (xs ++ x ∷ []) k
here P xs x k count all other = grind (arith, common_steps)

-- the first that is missing
abbrev Missing : {X : Type 0} → (X → Type 0) → List X → Option ℕ → Type 0
Missing P xs missing = MatchOption missing (AllByRecursion P xs) (λ k. IsFirstNot P xs k)

no_more : {X : Type 0} (P : X → Type 0) (xs : List X) (x : X) (k : ℕ) (missing : Option ℕ) (told : Bool) → length xs ≡ k
    → (IsTrue told → P x) × (P x → IsTrue told) → Missing P xs missing
    → Missing P (xs ++ x ∷ []) (first_missing missing k told)
no_more P xs x k missing told count tells m = grind (arith, common_steps, longer, all_push, here, false_is_not)

-- what the first files are, up to the first of them without its directory
pub record FilesSeen (line general : List ℕ) (directories : ℕ) (table walk : BorrowedTable) (count : ℕ) (missing : Option ℕ) : Type 0 where
  pub of_paths : AllHavePaths line general table walk count
  pub numbers : Missing (NamesDirectoryBelow directories table.pairs) of_paths.seen missing

pub files_begun : (line general : List ℕ) (directories : ℕ) (table walk : BorrowedTable) → walk ≡ table
    → FilesSeen line general directories table walk 0 None
files_begun line general directories table walk e =
    subst (λ (w : BorrowedTable). FilesSeen line general directories table w 0 None) (sym e)
    (record { of_paths = record { seen = []; has_seen = seen_none table; all = tt }; numbers = tt })

-- what a directory number of the next entry tells
abbrev pub TellsNumber : ℕ → EntryView → Type 0
TellsNumber number view = (pairs : List Pair) (entry : Entry) → Says pairs entry view → number ≡ directory_number pairs entry

module _ {line general : List ℕ} {directories : ℕ} {table old : BorrowedTable} {count : ℕ} {missing : Option ℕ}
    (s : FilesSeen line general directories table old count missing) where
  pub files_stepped : {new : BorrowedTable} {view : EntryView} (told below : Bool) (number : ℕ) → GivesEntry old view new
      → TellsPath line general told view → IsTrue told → TellsNumber number view → IsTrue below ↔ (number < directories)
      → FilesSeen line general directories table new (count + 1) (first_missing missing count below)
  unfolding all_stepped
  files_stepped told below number g tells is names lower =
      let seen = s.of_paths.has_seen in
      let number_is : number ≡ directory_number table.pairs g.entry = names table.pairs g.entry (says_in seen g) in
      record {
        of_paths = all_stepped s.of_paths told g tells is;
        numbers = no_more (NamesDirectoryBelow directories table.pairs) s.of_paths.seen g.entry count missing below seen.count_is
            ((λ t. omega (arith, lower.0 t, number_is)), (λ lt. lower.1 (omega (arith, lt, number_is)))) s.numbers;
      }

  pub files_never_end : (new : BorrowedTable) → count < length table.entries → EntryStep old None new → ⊥
  files_never_end new lt ends = never_ends s.of_paths new lt ends

  pub files_but : {new : BorrowedTable} {view : EntryView} (told : Bool) → GivesEntry old view new → TellsPath line general told view
      → (IsTrue told → ⊥) → IsFirstNot (HasPath line general table.pairs) table.entries count
  files_but told g tells other = all_but s.of_paths told g tells other

  numbers_done : length table.entries ≤ count → Missing (NamesDirectoryBelow directories table.pairs) table.entries missing
  numbers_done le = grind (arith, common_steps, seen_all)

  pub files_sound : length table.entries ≤ count → missing ≡ None → HasAll line general directories table
  files_sound le e = grind (arith, common_steps, all_done, numbers_done)

  pub files_missing : (index : ℕ) → length table.entries ≤ count → missing ≡ Some index
      → IsFilesFault line general directories table (DirectoryNumber index)
  files_missing index le e = grind (arith, common_steps, numbers_done, all_done)

-- ---- both tables

-- The tables of a header that are judged, and what is known of them once the directories are sound.
pub record AreJudged (line general : List ℕ) (h : HeaderParts) (d f : BorrowedTable) (count : ℕ) : Type 0 where
  pub directory_pairs : d.pairs ≡ h.directory_format
  pub directories : d.entries ≡ h.directories
  pub file_pairs : f.pairs ≡ h.file_format
  pub files : f.entries ≡ h.files
  pub count_is : count ≡ length d.entries
  pub directory_format : HasUsableFormat d.pairs d.entries
  pub file_format : HasUsableFormat f.pairs f.entries
  pub paths : AllByRecursion (HasPath line general d.pairs) d.entries

-- the header with these tables
abbrev with_tables : HeaderParts → List Pair → List Entry → List Pair → List Entry → HeaderParts
with_tables h pairs directories file_pairs files =
    record h { directory_format = pairs; directories = directories; file_format = file_pairs; files = files }

abbrev IsFound : List ℕ → List ℕ → Option EntryTableFault → HeaderParts → Type 0
IsFound line general found h = MatchOption found (AreUsableTables line general h) (λ fault. IsTablesFault line general h fault)

found_in : (line general : List ℕ) (h : HeaderParts) (d f : BorrowedTable) (found : Option EntryTableFault)
    → HasUsableFormat d.pairs d.entries → HasUsableFormat f.pairs f.entries → AllByRecursion (HasPath line general d.pairs) d.entries
    → MatchOption found (HasAll line general (length d.entries) f) (λ fault. IsFilesFault line general (length d.entries) f fault)
    → IsFound line general found (with_tables h d.pairs d.entries f.pairs f.entries)
found_in line general h d f found first second paths m = grind (arith, common_steps)

pub judged : (line general : List ℕ) (h : HeaderParts) (d f : BorrowedTable) (count : ℕ) (found : Option EntryTableFault)
    → AreJudged line general h d f count
    → MatchOption found (HasAll line general count f) (λ fault. IsFilesFault line general count f fault)
    → MatchOption found (AreUsableTables line general h) (λ fault. IsTablesFault line general h fault)
judged line general h d f count found j m =
    subst (λ (pairs : List Pair). IsFound line general found (with_tables h pairs h.directories h.file_format h.files)) j.directory_pairs
    (subst (λ (es : List Entry). IsFound line general found (with_tables h d.pairs es h.file_format h.files)) j.directories
    (subst (λ (pairs : List Pair). IsFound line general found (with_tables h d.pairs d.entries pairs h.files)) j.file_pairs
    (subst (λ (es : List Entry). IsFound line general found (with_tables h d.pairs d.entries f.pairs es)) j.files
    (found_in line general h d f found j.directory_format j.file_format j.paths
    (subst (λ (n : ℕ). MatchOption found (HasAll line general n f) (λ fault. IsFilesFault line general n f fault)) j.count_is m)))))

-- The lemmas of `first_without_path`.
pub ruleset first_without_path_lemmas = (all_begun, all_stepped, all_done, all_but, never_ends)

-- The lemmas of `files_fault`.
pub ruleset files_fault_lemmas = (files_stepped, files_never_end, files_but, files_sound, files_missing)
