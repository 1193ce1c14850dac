-- Files as they are kept.
use Rattle.std.proofs.Common.{◌≡◌, ℕ, zero, suc, ◌+◌, ◌-◌, ◌<◌, ◌≤◌, List, [], ◌∷◌, ◌++◌, length, get_or, take, drop, Option, Some, None}
use Rattle.std.proofs.Common.{refl, sym, ap, subst, ◌∙◌, append_assoc, arith, length-append, length-drop, IsSome, option_map}
use Rattle.std.proofs.Common.{option_and_then}
use Rattle.std.proofs.lemmas.List.{append-nil, drop_at, nil_from_length, take-append-le, drop-append-le, take_all}
use Rattle.std.proofs.lemmas.Option.{slice_get_within}
use Rattle.std.proofs.lemmas.Slice.{between_is}
use Rattle.std.proofs.lemmas.Slice.Zip.{all_zipped_more, AllZip-long}
use Rattle.std.specs.List.{AllByRecursion, AllZip, slice_get, slice_range}
use Rattle.lnt_header.specs.declared.header.Entry.{Entry}
use Rattle.lnt_header.specs.Parts.{HeaderParts}
use Rattle.lnt_header.specs.declared.header.Pair.{Pair}
use Rattle.lnt_header_bytes.specs.Borrowed.{BorrowedTable}
use Rattle.lnt_files.specs.declared.files.PathEnd.{PathEnd}
use Rattle.lnt_files.specs.Contents.{sum_of}
use Rattle.lnt_files.specs.Files.{KeptFile, kept_path, kept_sum, AreFilesOf, kept_files, EndAt}
use Rattle.lnt_files.specs.Stepping.{start_of, IsKeptFile, KeepsFiles}
use Rattle.lnt_files.specs.Paths.{file_path}
use Rattle.lnt_files.specs.Tables.{AreUsableTables}
use Rattle.lnt_files.specs.Walks.{EntryStep, GivesEntry, Says, EntryView}
use Rattle.lnt_files.proofs.PathLemmas.{files_there}
use Rattle.std.proofs.lemmas.Grind.{common_steps}

-- ---- one file of those that are kept

pub kept_length : (paths : List ℕ) (start : ℕ) (files : List PathEnd) → length (kept_files paths start files) ≡ length files
kept_length paths start [] = refl
kept_length paths start (file ∷ files) = ap suc (kept_length paths file.end files)

pub kept_sum_is : (paths : List ℕ) (start : ℕ) (files : List PathEnd) (n : ℕ)
    → kept_sum (kept_files paths start files) n ≡ option_and_then (λ file. file.listed) (slice_get files n)
kept_sum_is paths start [] n = refl
kept_sum_is paths start (file ∷ files) zero = refl
kept_sum_is paths start (file ∷ files) (suc n) = kept_sum_is paths file.end files n

pub kept_path_is : (paths : List ℕ) (start : ℕ) (files : List PathEnd) (n : ℕ)
    → kept_path (kept_files paths start files) n ≡ option_map (λ file. slice_range paths (start_of start files n) file.end)
    (slice_get files n)
kept_path_is paths start [] n = refl
kept_path_is paths start (file ∷ files) zero = refl
kept_path_is paths start (file ∷ files) (suc n) = kept_path_is paths file.end files n

start_after : (start : ℕ) (files : List PathEnd) (n : ℕ) (d : PathEnd) → n < length files
    → start_of start files (suc n) ≡ (get_or files n d).end
start_after start [] n d lt = absurd (omega arith)
start_after start (file ∷ files) zero d lt = refl
start_after start (file ∷ files) (suc n) d lt = start_after file.end files n d (omega arith)

pub start_is_end : (start : ℕ) (files : List PathEnd) (n : ℕ) (d : PathEnd) → 0 < n → n < length files
    → start_of start files n ≡ (get_or files (n - 1) d).end
start_is_end start files n d some lt = grind (arith, common_steps, start_after)

-- ---- the ends

ends_below : (last start : ℕ) (files : List PathEnd) → EndAt last start files → start ≤ last
ends_below last start [] h = omega (arith, h)
ends_below last start (file ∷ files) h = let more : file.end ≤ last = ends_below last file.end files h.1 in omega (arith, h.0)

-- where a path ends
pub record IsEnd (start end last : ℕ) : Type 0 where
  pub past : start ≤ end
  pub within : end ≤ last

pub end_is_after : (last start : ℕ) (files : List PathEnd) (n : ℕ) (file : PathEnd) → EndAt last start files → slice_get files n ≡ Some file
    → IsEnd (start_of start files n) file.end last
end_is_after last start [] n file h e = absurd cc
end_is_after last start (first ∷ files) zero file h e =
    let same : first ≡ file = cc in
    subst (λ (f : PathEnd). IsEnd start f.end last) same (record { past = h.0; within = ends_below last first.end files h.1 })
end_is_after last start (first ∷ files) (suc n) file h e = end_is_after last first.end files n file h.1 e

pub within : (kept : List PathEnd) (n : ℕ) (file : PathEnd) → Some file ≡ slice_get kept n → n < length kept
within kept n file e = slice_get_within kept n file (sym e)

same_part : (paths : List ℕ) (start end : ℕ) → drop start (take end paths) ≡ slice_range paths start end
same_part paths start end = sym (between_is paths start end)

pub path_is : (paths : List ℕ) (kept : List PathEnd) (n start : ℕ) (file : PathEnd) → Some file ≡ slice_get kept n
    → start ≡ start_of 0 kept n
    → Some (drop start (take file.end paths)) ≡ kept_path (kept_files paths 0 kept) n
path_is paths kept n start file e s = grind (arith, common_steps, kept_path_is, same_part)

pub no_path_is : (paths : List ℕ) (kept : List PathEnd) (n : ℕ) → None ≡ slice_get kept n → None ≡ kept_path (kept_files paths 0 kept) n
no_path_is paths kept n e = grind (arith, common_steps, kept_path_is)

-- ---- one file more

ends_more : (last start : ℕ) (files : List PathEnd) (file : PathEnd) → EndAt last start files → last ≤ file.end
    → EndAt file.end start (files ++ file ∷ [])
ends_more last start [] file h le = (omega (arith, h), refl)
ends_more last start (first ∷ files) file h le = (h.0, ends_more last first.end files file h.1 le)

same_range : (paths more : List ℕ) (start end : ℕ) → start ≤ end → end ≤ length paths
    → slice_range (paths ++ more) start end ≡ slice_range paths start end
same_range paths more start end le within = grind (arith, common_steps, drop-append-le, take-append-le, length-drop)

last_range : (paths more : List ℕ) (start end : ℕ) → start ≡ length paths → end ≡ length paths + length more
    → slice_range (paths ++ more) start end ≡ more
last_range paths more start end e f = grind (arith, common_steps, drop_at, take_all)

kept_more : (paths more : List ℕ) (start : ℕ) (files : List PathEnd) (file : PathEnd) → EndAt (length paths) start files
    → file.end ≡ length paths + length more
    → kept_files (paths ++ more) start (files ++ file ∷ [])
    ≡ kept_files paths start files ++ record { path = more; listed = file.listed } ∷ []
kept_more paths more start [] file h e =
    ap (λ (z : List ℕ). record { path = z; listed = file.listed } ∷ []) (last_range paths more start file.end h e)
kept_more paths more start (first ∷ files) file h e =
    let same = same_range paths more start first.end h.0 (ends_below (length paths) first.end files h.1) in
    let rest = kept_more paths more first.end files file h.1 e in
    ap (λ (z : List ℕ). record { path = z; listed = first.listed } ∷ kept_files (paths ++ more) first.end (files ++ file ∷ [])) same
    ∙ ap (λ (z : List KeptFile). record { path = slice_range paths start first.end; listed = first.listed } ∷ z) rest

keeps_path : (line general : List ℕ) (h : HeaderParts) (seen : List Entry) (entry : Entry) (paths more : List ℕ) (kept : List PathEnd)
    (file : PathEnd)
    → KeepsFiles line general h seen paths kept → file_path line general h entry ≡ Some more → sum_of h.file_format entry ≡ file.listed
    → file.end ≡ length (paths ++ more)
    → KeepsFiles line general h (seen ++ entry ∷ []) (paths ++ more) (kept ++ file ∷ [])
keeps_path line general h seen entry paths more kept file k path sum end =
    grind (arith, common_steps, length-append, all_zipped_more, ends_more, kept_more)

keeps_new : (line general : List ℕ) (h : HeaderParts) (seen : List Entry) (entry : Entry) (paths new : List ℕ) (kept : List PathEnd)
    (file : PathEnd) (o : Option (List ℕ)) → KeepsFiles line general h seen paths kept → file_path line general h entry ≡ o
    → option_map (λ path. paths ++ path) o ≡ Some new → sum_of h.file_format entry ≡ file.listed → file.end ≡ length new
    → KeepsFiles line general h (seen ++ entry ∷ []) new (kept ++ file ∷ [])
keeps_new line general h seen entry paths new kept file None k is path sum end = absurd cc
keeps_new line general h seen entry paths new kept file (Some more) k is path sum end =
    let same : paths ++ more ≡ new = cc in
    subst (λ (z : List ℕ). KeepsFiles line general h (seen ++ entry ∷ []) z (kept ++ file ∷ [])) same
    (keeps_path line general h seen entry paths more kept file k is sum (end ∙ ap length (sym same)))

-- A walk over the files of a header stands after so many, whose paths and ends are kept.
pub record KeepsSeen (line general : List ℕ) (h : HeaderParts) (walk : BorrowedTable) (count : ℕ) (paths : List ℕ) (kept : List PathEnd)
    : Type 0 where
  pub seen : List Entry
  pub joined : h.files ≡ seen ++ walk.entries
  pub count_is : length seen ≡ count
  pub pairs_are : walk.pairs ≡ h.file_format
  pub keeps : KeepsFiles line general h seen paths kept

pub keeps_begun : (line general : List ℕ) (h : HeaderParts) (files walk : BorrowedTable) (paths : List ℕ) (kept : List PathEnd)
    → files.pairs ≡ h.file_format → files.entries ≡ h.files → walk ≡ files → paths ≡ [] → kept ≡ []
    → KeepsSeen line general h walk 0 paths kept
keeps_begun line general h files walk paths kept pairs entries same none no_end =
    subst (λ (z : List PathEnd). KeepsSeen line general h walk 0 paths z) (sym no_end)
    (subst (λ (z : List ℕ). KeepsSeen line general h walk 0 z []) (sym none)
    (subst (λ (w : BorrowedTable). KeepsSeen line general h w 0 [] []) (sym same)
    (record { seen = []; joined = sym entries; count_is = refl; pairs_are = pairs; keeps = record { ends = refl; same = tt } })))

in_middle : {X : Type 0} (P : X → Type 0) (xs ys : List X) (y : X) → AllByRecursion P (xs ++ y ∷ ys) → P y
in_middle P [] ys y all = all.0
in_middle P (x ∷ xs) ys y all = in_middle P xs ys y all.1

module _ {line general : List ℕ} {h : HeaderParts} {old : BorrowedTable} {count : ℕ} {paths : List ℕ} {kept : List PathEnd}
    (k : KeepsSeen line general h old count paths kept) where
  pub never_ends : (new : BorrowedTable) (n : ℕ) (entries : List Entry) → count < n → n ≡ length entries → entries ≡ h.files
      → EntryStep old None new → ⊥
  never_ends new n entries lt all same ends =
      omega (arith, lt, all, ap length same, ap length k.joined, length-append k.seen old.entries, k.count_is, ap length ends.0)

  -- the entry of the next file, which has a path
  pub next_file : {new : BorrowedTable} {view : EntryView} → AreUsableTables line general h → GivesEntry old view new
      → (entry : Entry) × Says h.file_format entry view × IsSome (file_path line general h entry)
  next_file {new} {view} usable g =
      let joined : h.files ≡ k.seen ++ g.entry ∷ new.entries = k.joined ∙ ap (λ (z : List Entry). k.seen ++ z) g.entries_are in (
        g.entry,
        subst (λ (ps : List Pair). Says ps g.entry view) k.pairs_are g.says,
        in_middle (λ file. IsSome (file_path line general h file)) k.seen new.entries g.entry
            (subst (AllByRecursion (λ file. IsSome (file_path line general h file))) joined (files_there line general h usable)),
      )

  pub keeps_more : {new : BorrowedTable} {view : EntryView} (more : List ℕ) (file : PathEnd) → GivesEntry old view new
      → ((entry : Entry) → Says h.file_format entry view
      → option_map (λ path. paths ++ path) (file_path line general h entry) ≡ Some more)
      → ((pairs : List Pair) (entry : Entry) → Says pairs entry view → file.listed ≡ sum_of pairs entry) → file.end ≡ length more
      → KeepsSeen line general h new (count + 1) more (kept ++ file ∷ [])
  keeps_more {new} {view} more file g path sum end =
      let says = subst (λ (ps : List Pair). Says ps g.entry view) k.pairs_are g.says in
      record {
        seen = k.seen ++ g.entry ∷ [];
        joined = k.joined ∙ ap (λ (z : List Entry). k.seen ++ z) g.entries_are ∙ sym (append_assoc k.seen (g.entry ∷ []) new.entries);
        count_is = omega (arith, length-append k.seen (g.entry ∷ []), k.count_is);
        pairs_are = g.pairs_are ∙ k.pairs_are;
        keeps = keeps_new line general h k.seen g.entry paths more kept file (file_path line general h g.entry) k.keeps refl
            (path g.entry says) (sym (sum h.file_format g.entry says)) end;
      }

  pub all_kept : (n : ℕ) (entries : List Entry) → n ≤ count → n ≡ length entries → entries ≡ h.files
      → KeepsFiles line general h h.files paths kept
  all_kept n entries le all same =
      let none : old.entries ≡ [] = nil_from_length old.entries
      (omega (arith, le, all, ap length same, ap length k.joined, length-append k.seen old.entries, k.count_is)) in
      let seen : k.seen ≡ h.files = sym (k.joined ∙ ap (λ (z : List Entry). k.seen ++ z) none ∙ append-nil k.seen) in
      subst (λ (z : List Entry). KeepsFiles line general h z paths kept) seen k.keeps

-- ---- all files

same_path : (line general : List ℕ) (h : HeaderParts) (files : List Entry) (kept : List KeptFile) (n : ℕ)
    → AllZip (IsKeptFile line general h) files kept
    → kept_path kept n ≡ option_and_then (file_path line general h) (slice_get files n)
same_path line general h [] [] n all = refl
same_path line general h (file ∷ files) (k ∷ kept) zero all = sym all.0.path
same_path line general h (file ∷ files) (k ∷ kept) (suc n) all = same_path line general h files kept n all.1
same_path line general h _ _ n all = absurd all

same_sum : (line general : List ℕ) (h : HeaderParts) (files : List Entry) (kept : List KeptFile) (n : ℕ)
    → AllZip (IsKeptFile line general h) files kept
    → kept_sum kept n ≡ option_and_then (sum_of h.file_format) (slice_get files n)
same_sum line general h [] [] n all = refl
same_sum line general h (file ∷ files) (k ∷ kept) zero all = sym all.0.sum
same_sum line general h (file ∷ files) (k ∷ kept) (suc n) all = same_sum line general h files kept n all.1
same_sum line general h _ _ n all = absurd all

pub are_files : (line general : List ℕ) (h : HeaderParts) (paths : List ℕ) (kept : List PathEnd)
    → KeepsFiles line general h h.files paths kept → AreFilesOf line general h (kept_files paths 0 kept)
are_files line general h paths kept k = record {
  count = AllZip-long (IsKeptFile line general h) h.files (kept_files paths 0 kept) k.same;
  paths = λ number. same_path line general h h.files (kept_files paths 0 kept) number k.same;
  sums = λ number. same_sum line general h h.files (kept_files paths 0 kept) number k.same;
}
