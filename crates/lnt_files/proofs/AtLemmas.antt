-- Entries by their numbers.
use Rattle.std.proofs.Common.{◌≡◌, ℕ, zero, suc, ◌+◌, ◌<◌, ◌≤◌, List, [], ◌∷◌, ◌++◌, length, take, take-append-drop, length-take-le, Option}
use Rattle.std.proofs.Common.{Some, None, refl, sym, ap, subst, ◌∙◌, arith, IsSome, slice_get, option_and_then, option_map}
use Rattle.std.proofs.lemmas.Option.{slice_get_past}
use Rattle.lnt_header_bytes.specs.Borrowed.{BorrowedTable}
use Rattle.lnt_header_bytes.specs.Marks.{from_entry}
use Rattle.lnt_header.specs.declared.header.Entry.{Entry}
use Rattle.lnt_header.specs.Parts.{HeaderParts}
use Rattle.lnt_header.specs.declared.header.Pair.{Pair}
use Rattle.lnt_files.specs.Contents.{content_md5, path_text, place_of}
use Rattle.lnt_files.specs.Paths.{directory_text, file_path, listed_sum, path_bytes}
use Rattle.lnt_files.specs.Walks.{EntryAt, HasSeenEntries, Says, EntryStep, EntryView}
use Rattle.lnt_files.proofs.PathLemmas.{within}
use Rattle.lnt_files.proofs.JudgedLemmas.{seen_more, says_in, some_left}
use Rattle.std.proofs.lemmas.Grind.{common_steps}

-- a walk stands after so many entries
pub record IsAfter (table walk : BorrowedTable) (count : ℕ) : Type 0 where
  pub seen : List Entry
  pub has_seen : HasSeenEntries seen table walk count

pub after_first : (table walk : BorrowedTable) (first : ℕ) → first ≤ length table.entries → walk ≡ from_entry first table
    → IsAfter table walk first
after_first table walk first le e =
    subst (λ (w : BorrowedTable). IsAfter table w first) (sym e)
    (record {
      seen = take first table.entries;
      has_seen = record {
        joined = sym (take-append-drop first table.entries);
        count_is = length-take-le first table.entries le;
        pairs_are = refl;
      };
    })

pub after_more : (table old new : BorrowedTable) (count : ℕ) (step : Option EntryView) → IsAfter table old count
    → count < length table.entries → EntryStep old step new → IsAfter table new (count + 1)
after_more table old new count (Some view) b lt g =
    record { seen = b.seen ++ g.entry ∷ []; has_seen = seen_more b.has_seen g }
after_more table old new count None b lt ends = absurd (some_left b.has_seen new lt ends)

pub there : (table old new : BorrowedTable) (count : ℕ) (step : Option EntryView) → IsAfter table old count → count < length table.entries
    → EntryStep old step new → step ≡ None → ⊥
there table old new count step b lt ends e = grind (arith, common_steps, some_left)

-- none of this number
pub not_there : (table : BorrowedTable) (number : ℕ) → length table.entries ≤ number → EntryAt table number None
not_there table number le = slice_get_past table.entries number le

get_after : (xs ys : List Entry) (y : Entry) (n : ℕ) → length xs ≡ n → slice_get (xs ++ y ∷ ys) n ≡ Some y
get_after [] ys y zero e = refl
get_after [] ys y (suc n) e = absurd (omega arith)
get_after (x ∷ xs) ys y zero e = absurd (omega arith)
get_after (x ∷ xs) ys y (suc n) e = get_after xs ys y n (omega arith)

pub entry_is : (table old new : BorrowedTable) (number : ℕ) (step : Option EntryView) → IsAfter table old number
    → number < length table.entries → EntryStep old step new → EntryAt table number step
entry_is table old new number step b lt ends = grind (arith, common_steps, some_left, get_after, says_in)

-- ---- what is asked of an entry

-- what is told of the entry at a number is what is told of the table
of_entry : {X : Type 0} (f : Entry → Option X) (entries : List Entry) (number : ℕ) (entry : Entry) (x : Option X)
    → slice_get entries number ≡ Some entry → x ≡ f entry → x ≡ option_and_then f (slice_get entries number)
of_entry f entries number entry x e is = is ∙ sym (ap (option_and_then f) e)

pub directory_text_is : (line general : List ℕ) (h : HeaderParts) (table : BorrowedTable) (number : ℕ) (view : EntryView)
    (text : Option (List ℕ)) → table.pairs ≡ h.directory_format → table.entries ≡ h.directories
    → EntryAt table number (Some view)
    → ((pairs : List Pair) (entry : Entry) → Says pairs entry view → text ≡ path_text line general pairs entry)
    → text ≡ directory_text line general h number
directory_text_is line general h table number view text pairs_are entries_are at told = grind (arith, common_steps, there, of_entry)

pub no_directory_text : (line general : List ℕ) (h : HeaderParts) (table : BorrowedTable) (number : ℕ) → table.entries ≡ h.directories
    → EntryAt table number None → None ≡ directory_text line general h number
no_directory_text line general h table number entries_are at = grind (arith, common_steps)

-- an entry of this number, by the header
pub file_there : (h : HeaderParts) (table : BorrowedTable) (number : ℕ) (view : EntryView) → table.pairs ≡ h.file_format
    → table.entries ≡ h.files → EntryAt table number (Some view)
    → (entry : Entry) × (slice_get h.files number ≡ Some entry) × Says h.file_format entry view
file_there h table number view pairs_are entries_are at = grind (arith, common_steps)

pub some_is_not_none : (o : Option (List ℕ)) → IsSome o → None ≡ o → ⊥
some_is_not_none o h e = grind (arith, common_steps)

mapped_same : (o : Option (List ℕ)) → option_map (λ path. [] ++ path) o ≡ o
mapped_same None = refl
mapped_same (Some path) = refl

-- a path that is made with nothing before it
pub path_made : (line general : List ℕ) (h : HeaderParts) (number : ℕ) (entry : Entry) (old new : List ℕ) → old ≡ []
    → slice_get h.files number ≡ Some entry → option_map (λ path. old ++ path) (file_path line general h entry) ≡ Some new
    → Some new ≡ path_bytes line general h number
path_made line general h number entry old new none at made =
    sym made
    ∙ subst (λ (z : List ℕ). option_map (λ path. z ++ path) (file_path line general h entry) ≡ file_path line general h entry) (sym none)
    (mapped_same (file_path line general h entry))
    ∙ sym (ap (option_and_then (file_path line general h)) at)

pub within_files : (h : HeaderParts) (table : BorrowedTable) (number : ℕ) (view : EntryView) → table.pairs ≡ h.file_format
    → table.entries ≡ h.files → EntryAt table number (Some view) → number < length h.files
within_files h table number view pairs_are entries_are at = grind (arith, common_steps, there, file_there, within)

-- no file lists a sum where the format has none
pub none_listed : (h : HeaderParts) (pairs : List Pair) (number : ℕ) → pairs ≡ h.file_format → place_of content_md5 pairs ≡ None
    → None ≡ listed_sum h number
none_listed h pairs number same none = grind (arith, common_steps)

-- The lemmas of `entry_at`.
pub ruleset entry_at_lemmas = (after_first, after_more, not_there, entry_is, there)
