-- Findings stay true where more may be told of the files.
use Rattle.std.proofs.Common.{ℕ, List, [], ◌∷◌, inl, inr, Option, Some, None, IfSome}
use Rattle.std.specs.List.{AllByRecursion}
use Rattle.lnt_io.specs.Files.{FileState, Overlong, Readable, FindsNoMore, Unread, Unreadable}
use Rattle.lnt_io.specs.declared.status.Status.{Status}
use Rattle.lnt_answers.specs.declared.digest.Agreement.{Agreement}
use Rattle.lnt_lines.specs.Indexed.{file_path_in, file_sum_in, Indexed}
use Rattle.lnt_files.specs.Paths.{path_or_empty}
use Rattle.lnt_answers.specs.SumLines.{AreSumsBegun, AreSumsPrinted, Finding, IsTrueFinding, IsTrueOfFile, IsUnreadable}

unreadable_later : (finds finds' : List ℕ → FileState → Type 0) (path : List ℕ) → FindsNoMore finds finds' → IsUnreadable finds' path
    → IsUnreadable finds path
unreadable_later finds finds' path later (inl no_text) = inl no_text
unreadable_later finds finds' path later (inr (inl standard)) = inr (inl standard)
unreadable_later finds finds' path later (inr (inr (inl (inl told)))) = inr (inr (inl (inl (later path Unreadable told))))
unreadable_later finds finds' path later (inr (inr (inl (inr told)))) = inr (inr (inl (inr (later path Unread told))))
unreadable_later finds finds' path later (inr (inr (inr told))) = inr (inr (inr (later path Overlong told)))

found_later : (finds finds' : List ℕ → FileState → Type 0) (path listed : List ℕ) (found : Option Agreement)
    → FindsNoMore finds finds' → IsTrueOfFile finds' path listed found → IsTrueOfFile finds path listed found
found_later finds finds' path listed None later so = unreadable_later finds finds' path later so
found_later finds finds' path listed (Some agreement) later so = (so.0, later path (Readable so.0) so.1, so.2)

true_of_sum : (finds finds' : List ℕ → FileState → Type 0) (path : List ℕ) (sum : Option (List ℕ)) (found : Option Agreement)
    → FindsNoMore finds finds' → IfSome sum (λ listed. IsTrueOfFile finds' path listed found)
    → IfSome sum (λ listed. IsTrueOfFile finds path listed found)
true_of_sum finds finds' path None found later so = tt
true_of_sum finds finds' path (Some listed) found later so = found_later finds finds' path listed found later so

-- true findings
pub true_later : (finds finds' : List ℕ → FileState → Type 0) (index : Indexed) (findings : List Finding) → FindsNoMore finds finds'
    → AllByRecursion (IsTrueFinding finds' index) findings → AllByRecursion (IsTrueFinding finds index) findings
true_later finds finds' index [] later so = tt
true_later finds finds' index (finding ∷ findings) later so = (
  true_of_sum finds finds' (path_or_empty (file_path_in index finding.unit finding.file)) (file_sum_in index finding.unit finding.file)
      finding.found later so.0,
  true_later finds finds' index findings later so.1,
)

-- the lines that were printed for them
pub sums_later : (finds finds' : List ℕ → FileState → Type 0) (index : Indexed) (files : List (ℕ × ℕ)) (old new : Option (List ℕ))
    (status : Status) → FindsNoMore finds finds' → AreSumsPrinted finds' index files old new status
    → AreSumsPrinted finds index files old new status
sums_later finds finds' index files old new status later so = record {
  findings = so.findings;
  places = so.places;
  are_true = true_later finds finds' index so.findings later so.are_true;
  printed = so.printed;
  status_is = so.status_is;
}

-- a prefix of them
pub begun_later : (finds finds' : List ℕ → FileState → Type 0) (index : Indexed) (files : List (ℕ × ℕ)) (old new : Option (List ℕ))
    → FindsNoMore finds finds' → AreSumsBegun finds' index files old new → AreSumsBegun finds index files old new
begun_later finds finds' index files old new later so = record {
  findings = so.findings;
  rest = so.rest;
  places = so.places;
  are_true = true_later finds finds' index so.findings later so.are_true;
  prefix = so.prefix;
}
