-- Findings of files, one after another.
use Rattle.std.proofs.Common.{◌≡◌, ◌∙◌, ℕ, ◌+◌, ◌<◌, ◌≤◌, suc, List, [], ◌∷◌, ◌++◌, append-nil, length, get_or, take, Option, Some, None}
use Rattle.std.proofs.Common.{IfSome, ap, codes, refl, sym, subst, map, arith}
use Rattle.std.specs.List.{AllByRecursion, flat_map}
use Rattle.std.specs.Option.{option_map_or}
use Rattle.std.specs.Io.KnownBytes.{Appends}
use Rattle.std.proofs.KnownBytes.{Appends-trans}
use Rattle.std.proofs.lemmas.List.{map-append, take_all}
use Rattle.std.proofs.lemmas.List.Concat.{flat_map-append}
use Rattle.lnt_io.specs.Files.{FileState, FindsNoMore}
use Rattle.lnt_io.specs.declared.status.Status.{Status}
use Rattle.lnt_io.specs.declared.status.Status.TheVariants.{Done, No}
use Rattle.lnt_answers.specs.declared.digest.Agreement.{Agreement}
use Rattle.lnt_answers.specs.declared.digest.Agreement.TheVariants.{Same, Differs}
use Rattle.lnt_text.specs.Texts.{quoted_text}
use Rattle.lnt_lines.specs.Indexed.{file_path_in, file_sum_in, Indexed}
use Rattle.lnt_files.specs.Paths.{path_or_empty}
use Rattle.lnt_answers.proofs.FileLemmas.{lists_of_more}
use Rattle.lnt_answers.proofs.SumLaws.{true_later}
use Rattle.lnt_answers.specs.Lines.{lists_below}
use Rattle.lnt_answers.specs.SumLines.{AreSumsPrinted, Finding, IsTrueFinding, IsTrueOfFile, both, file_of, found_status, found_text}
use Rattle.lnt_answers.specs.SumLines.{head_text, listed_at, listed_in, sum_line, sums_status}

-- ---- joins

pub true_joined : (finds : List ℕ → FileState → Type 0) (index : Indexed) (first second : List Finding)
    → AllByRecursion (IsTrueFinding finds index) first → AllByRecursion (IsTrueFinding finds index) second
    → AllByRecursion (IsTrueFinding finds index) (first ++ second)
true_joined finds index [] second all more = more
true_joined finds index (finding ∷ first) second all more = (all.0, true_joined finds index first second all.1 more)

both_joined : (s t u : Status) → both (both s t) u ≡ both s (both t u)
both_joined Done t u = refl
both_joined No t u = refl

status_joined : (first second : List Finding) → sums_status (first ++ second) ≡ both (sums_status first) (sums_status second)
status_joined [] second = refl
status_joined (finding ∷ first) second =
    ap (both (found_status finding.found)) (status_joined first second)
    ∙ sym (both_joined (found_status finding.found) (sums_status first) (sums_status second))

status_alone : (found : Option Agreement) → found_status found ≡ both (found_status found) Done
status_alone None = refl
status_alone (Some Same) = refl
status_alone (Some (Differs sum)) = refl

module _ {finds finds' : List ℕ → FileState → Type 0} {index : Indexed} {a b c : Option (List ℕ)} {s t : Status}
    (later : FindsNoMore finds finds') where
  sums_joined : {files more : List (ℕ × ℕ)} → AreSumsPrinted finds index files a b s → AreSumsPrinted finds' index more b c t
      → AreSumsPrinted finds index (files ++ more) a c (both s t)
  sums_joined {files} so next = record {
    findings = so.findings ++ next.findings;
    places = map-append file_of so.findings next.findings ∙ ap (λ list. list ++ map file_of next.findings) so.places
        ∙ ap (λ list. files ++ list) next.places;
    are_true = true_joined finds index so.findings next.findings so.are_true
        (true_later finds finds' index next.findings later next.are_true);
    printed = subst (Appends a c) (sym (flat_map-append (sum_line index) so.findings next.findings))
        (Appends-trans a b c (flat_map (sum_line index) so.findings) (flat_map (sum_line index) next.findings) so.printed next.printed);
    status_is = ap (λ status. both status t) so.status_is ∙ ap (both (sums_status so.findings)) next.status_is
        ∙ sym (status_joined so.findings next.findings);
  }

  -- with one file of a unit more
  pub sums_more : (unit file : ℕ) → AreSumsPrinted finds index (lists_below (listed_at index unit) file) a b s
      → AreSumsPrinted finds' index (listed_at index unit file) b c t
      → AreSumsPrinted finds index (lists_below (listed_at index unit) (file + 1)) a c (both s t)
  sums_more unit file so next =
      let step : suc file ≡ file + 1 = omega arith in
      subst (λ (n : ℕ). AreSumsPrinted finds index (lists_below (listed_at index unit) n) a c (both s t)) step (sums_joined so next)

  -- with the files of one unit more
  pub sums_of_more : (units : List ℕ) (i d : ℕ) → i < length units
      → AreSumsPrinted finds index (flat_map (listed_in index) (take i units)) a b s
      → AreSumsPrinted finds' index (listed_in index (get_or units i d)) b c t
      → AreSumsPrinted finds index (flat_map (listed_in index) (take (i + 1) units)) a c (both s t)
  sums_of_more units i d lt so next =
      subst (λ (files : List (ℕ × ℕ)). AreSumsPrinted finds index files a c (both s t)) (sym (lists_of_more (listed_in index) units i d lt))
      (sums_joined so next)

-- ---- the files of a unit

-- a file with a listed sum, its path and the finding
pub sum_listed : (finds : List ℕ → FileState → Type 0) (index : Indexed) (unit file : ℕ) (a b : Option (List ℕ))
    (listed path shown : List ℕ) (found : Option Agreement) (status : Status) → file_sum_in index unit file ≡ Some listed
    → path ≡ path_or_empty (file_path_in index unit file) → shown ≡ path_or_empty (file_path_in index unit file)
    → IsTrueOfFile finds path listed found
    → Appends a b ((head_text unit file ++ found_text found) ++ (codes " " ++ (quoted_text shown ++ codes "\n")))
    → status ≡ found_status found → AreSumsPrinted finds index (listed_at index unit file) a b status
sum_listed finds index unit file a b listed path shown found status is path_is shown_is so printed status_is =
    let finding : Finding = record { unit = unit; file = file; found = found } in
    let named = subst (λ (name : List ℕ). IsTrueOfFile finds name listed found) path_is so in
    let line = subst (λ (name : List ℕ). Appends a b ((head_text unit file ++ found_text found)
    ++ (codes " " ++ (quoted_text name ++ codes "\n")))) shown_is printed in
    record {
      findings = finding ∷ [];
      places = sym (ap (λ (listed' : Option (List ℕ)). option_map_or (λ _. (unit, file) ∷ []) listed' []) is);
      are_true = (
        subst (λ (listed' : Option (List ℕ)). IfSome listed' (λ bytes.
            IsTrueOfFile finds (path_or_empty (file_path_in index unit file)) bytes found)) (sym is) named,
        tt,
      );
      printed = subst (Appends a b) (sym (append-nil (sum_line index finding))) line;
      status_is = status_is ∙ status_alone found;
    }

-- ---- the files of all units

pub sums_of_all : {finds : List ℕ → FileState → Type 0} {index : Indexed} {a b : Option (List ℕ)} {s : Status} (units : List ℕ) (i : ℕ)
    → length units ≤ i → AreSumsPrinted finds index (flat_map (listed_in index) (take i units)) a b s
    → AreSumsPrinted finds index (flat_map (listed_in index) units) a b s
sums_of_all {finds} {index} {a} {b} {s} units i le so =
    subst (λ (list : List ℕ). AreSumsPrinted finds index (flat_map (listed_in index) list) a b s) (take_all i units le) so
