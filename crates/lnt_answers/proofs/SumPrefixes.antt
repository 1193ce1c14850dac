-- A writer that has appended a prefix of the lines of findings.
use Rattle.std.proofs.Common.{◌≡◌, ◌∙◌, ℕ, ◌+◌, ◌<◌, suc, List, [], ◌++◌, append-nil, append_assoc, length, get_or, take, drop, Option}
use Rattle.std.proofs.Common.{Some, None, ap, codes, refl, sym, subst, map, take-append-drop, flat_map}
use Rattle.std.specs.Io.KnownBytes.{Appends, append_known}
use Rattle.std.proofs.lemmas.List.{append_cancel_left, map-append}
use Rattle.std.proofs.lemmas.List.Concat.{flat_map-append}
use Rattle.lnt_io.specs.Prefixes.{AppendsPrefix}
use Rattle.lnt_io.proofs.PrefixLaws.{appends_known, prefix_after, prefix_none, prefix_same}
use Rattle.lnt_io.specs.Files.{FileState, FindsNoMore}
use Rattle.lnt_io.specs.declared.status.Status.{Status}
use Rattle.lnt_answers.specs.declared.digest.Agreement.{Agreement}
use Rattle.lnt_text.specs.Texts.{quoted_text}
use Rattle.lnt_lines.specs.Indexed.{file_path_in, file_sum_in, Indexed}
use Rattle.lnt_files.specs.Paths.{path_or_empty}
use Rattle.lnt_answers.specs.Lines.{lists_below}
use Rattle.lnt_answers.specs.SumLines.{AreSumsBegun, AreSumsPrinted, IsTrueOfFile, found_status, found_text, head_text}
use Rattle.lnt_answers.specs.SumLines.{listed_at, listed_in}
use Rattle.lnt_answers.specs.SumLines.{file_of, sum_line}
use Rattle.lnt_answers.proofs.SumLaws.{true_later}
use Rattle.lnt_answers.proofs.FileLemmas.{below_later, lists_of_more}
use Rattle.lnt_answers.proofs.SumLemmas.{sum_listed, true_joined}

-- ---- joins

begun_before : (finds : List ℕ → FileState → Type 0) (index : Indexed) (files more : List (ℕ × ℕ)) (old new : Option (List ℕ))
    → AreSumsBegun finds index files old new → AreSumsBegun finds index (files ++ more) old new
begun_before finds index files more old new so = record {
  findings = so.findings;
  rest = so.rest ++ more;
  places = sym (append_assoc (map file_of so.findings) so.rest more) ∙ ap (λ (list : List (ℕ × ℕ)). list ++ more) so.places;
  are_true = so.are_true;
  prefix = so.prefix;
}

prefix_of : (old new : Option (List ℕ)) (whole texts : List ℕ) → Appends old (append_known old whole) texts → AppendsPrefix old new whole
    → AppendsPrefix old new texts
prefix_of None new whole texts all f = record { prefix = []; rest = texts; joined = refl; appended = tt }
prefix_of (Some xs) new whole texts all f = prefix_same (Some xs) new whole texts (append_cancel_left xs whole texts all) f

-- ---- a file

-- nothing was written
pub sums_unbegun : (finds : List ℕ → FileState → Type 0) (index : Indexed) (files : List (ℕ × ℕ)) (old : Option (List ℕ))
    → AreSumsBegun finds index files old old
sums_unbegun finds index files old = record { findings = []; rest = files; places = refl; are_true = tt; prefix = prefix_none old [] }

-- the writer stopped within the line of a file
pub sum_stopped : (finds : List ℕ → FileState → Type 0) (index : Indexed) (unit file : ℕ) (a b : Option (List ℕ))
    (listed path shown bytes : List ℕ) (found : Option Agreement) → file_sum_in index unit file ≡ Some listed
    → path ≡ path_or_empty (file_path_in index unit file) → shown ≡ path_or_empty (file_path_in index unit file)
    → IsTrueOfFile finds path listed found
    → bytes ≡ (head_text unit file ++ found_text found) ++ (codes " " ++ (quoted_text shown ++ codes "\n"))
    → AppendsPrefix a b bytes → AreSumsBegun finds index (listed_at index unit file) a b
sum_stopped finds index unit file a b listed path shown bytes found is path_is shown_is so same f =
    let text = (head_text unit file ++ found_text found) ++ (codes " " ++ (quoted_text shown ++ codes "\n")) in
    let told = sum_listed finds index unit file a (append_known a text) listed path shown found (found_status found) is path_is shown_is so
    (appends_known a text) refl in
    record {
      findings = told.findings;
      rest = [];
      places = append-nil (map file_of told.findings) ∙ told.places;
      are_true = told.are_true;
      prefix = prefix_of a b text (flat_map (sum_line index) told.findings) told.printed (prefix_same a b bytes text same f);
    }

-- ---- within the files

module _ {finds finds' : List ℕ → FileState → Type 0} {index : Indexed} {a b c : Option (List ℕ)} {s : Status}
    (later : FindsNoMore finds finds') where
  begun_after : {files more : List (ℕ × ℕ)} → AreSumsPrinted finds index files a b s → AreSumsBegun finds' index more b c
      → AreSumsBegun finds index (files ++ more) a c
  begun_after {files} {more} so next = record {
    findings = so.findings ++ next.findings;
    rest = next.rest;
    places = ap (λ (list : List (ℕ × ℕ)). list ++ next.rest)
        (map-append file_of so.findings next.findings ∙ ap (λ (list : List (ℕ × ℕ)). list ++ map file_of next.findings) so.places)
        ∙ append_assoc files (map file_of next.findings) next.rest ∙ ap (λ (list : List (ℕ × ℕ)). files ++ list) next.places;
    are_true = true_joined finds index so.findings next.findings so.are_true
        (true_later finds finds' index next.findings later next.are_true);
    prefix = prefix_same a c _ _ (sym (flat_map-append (sum_line index) so.findings next.findings))
        (prefix_after a b c (flat_map (sum_line index) so.findings) (flat_map (sum_line index) next.findings) so.printed next.prefix);
  }

  -- of a unit
  pub sums_stopped : (unit file count : ℕ) → file < count → AreSumsPrinted finds index (lists_below (listed_at index unit) file) a b s
      → AreSumsBegun finds' index (listed_at index unit file) b c → AreSumsBegun finds index (lists_below (listed_at index unit) count) a c
  sums_stopped unit file count lt so next =
      let after = below_later (listed_at index unit) file count lt in
      subst (λ (list : List (ℕ × ℕ)). AreSumsBegun finds index list a c) after.1
      (begun_before finds index (lists_below (listed_at index unit) (suc file)) after.0 a c (begun_after so next))

  -- of all units
  pub units_stopped : (units : List ℕ) (i d : ℕ) → i < length units
      → AreSumsPrinted finds index (flat_map (listed_in index) (take i units)) a b s
      → AreSumsBegun finds' index (listed_in index (get_or units i d)) b c → AreSumsBegun finds index (flat_map (listed_in index) units) a c
  units_stopped units i d lt so next =
      let prefix = flat_map (listed_in index) (take i units) in
      let unit = listed_in index (get_or units i d) in
      let rest = flat_map (listed_in index) (drop (i + 1) units) in
      let all : (prefix ++ unit) ++ rest ≡ flat_map (listed_in index) units =
      ap (λ (list : List (ℕ × ℕ)). list ++ rest) (sym (lists_of_more (listed_in index) units i d lt))
      ∙ sym (flat_map-append (listed_in index) (take (i + 1) units) (drop (i + 1) units))
      ∙ ap (flat_map (listed_in index)) (take-append-drop (i + 1) units) in
      subst (λ (list : List (ℕ × ℕ)). AreSumsBegun finds index list a c) all
      (begun_before finds index (prefix ++ unit) rest a c (begun_after so next))
