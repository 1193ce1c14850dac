-- The lines that say whether the files of a good section have their listed MD5 sums (DWARF 5, section 6.2.4.1).
--     finds       what may be known of the file with a name
--     old, new    what the writer holds before and afterwards
use Rattle.std.specs.Prelude.{◌≡◌, ◌≢◌, ℕ, List, ◌⊎◌, [], ◌∷◌, ◌++◌, map, IfSome, IsSome, IsUtf8, None, Option, Some, codes, decimal}
use Rattle.lnt_answers.specs.declared.digest.Agreement.{Agreement}
use Rattle.lnt_answers.specs.declared.digest.Agreement.TheVariants.{Same, Differs}
use Rattle.std.specs.List.{AllByRecursion, flat_map}
use Rattle.std.specs.Option.{option_map_or}
use Rattle.std.specs.Io.KnownBytes.{Appends}
use Rattle.lnt_io.specs.Files.{FileState, IsUnreadFile, Overlong, Readable}
use Rattle.lnt_io.specs.Prefixes.{AppendsPrefix}
use Rattle.hex.specs.Hex.{encode_lower}
use Rattle.md5.specs.Md5.{md5}
use Rattle.lnt_io.specs.declared.status.Status.{Status}
use Rattle.lnt_io.specs.declared.status.Status.TheVariants.{Done, No}
use Rattle.lnt_answers.specs.Lines.{lists_below}
use Rattle.lnt_text.specs.Texts.{quoted_text}
use Rattle.lnt_lines.specs.Indexed.{file_count_in, file_path_in, file_sum_in, Indexed}
use Rattle.lnt_files.specs.Paths.{path_or_empty}

-- ---- what an answer says of a sum and the listed one

-- Same: the two are equal. Differs: they are not, and the answer holds the sum.
abbrev pub Agrees : Agreement → List ℕ → List ℕ → Type 0
Agrees Same sum listed = sum ≡ listed
Agrees (Differs other) sum listed = (other ≡ sum) × (sum ≢ listed)

-- ---- the files with a listed sum, each by its unit's offset and its index, in the order of the section

abbrev pub listed_at : Indexed → ℕ → ℕ → List (ℕ × ℕ)
listed_at index unit file = option_map_or (λ _. (unit, file) ∷ []) (file_sum_in index unit file) []

abbrev pub listed_in : Indexed → ℕ → List (ℕ × ℕ)
listed_in index unit = lists_below (listed_at index unit) (file_count_in index unit)

abbrev pub listed_files : Indexed → List (ℕ × ℕ)
listed_files index = flat_map (listed_in index) index.units

-- The file with this name may be opened: it is the full path of a file with a listed sum, and isn't `-`.
pub record IsListedPath (index : Indexed) (name : List ℕ) : Type 0 where
  pub unit : ℕ
  pub file : ℕ
  pub listed : IsSome (file_sum_in index unit file)
  pub path : path_or_empty (file_path_in index unit file) ≡ name
  pub named : name ≢ codes "-"

-- ---- the finding for one file

-- the file of a unit, and whether it has its sum; `None` if it couldn't be read
pub record Finding : Type 0 where
  pub unit : ℕ
  pub file : ℕ
  pub found : Option Agreement

abbrev pub file_of : Finding → ℕ × ℕ
file_of finding = (finding.unit, finding.file)

-- No file is read at this path: it isn't UTF-8; or it is `-`; or the file can't be opened, or a read of it failed; or it is too long.
abbrev pub IsUnreadable : (List ℕ → FileState → Type 0) → List ℕ → Type 0
IsUnreadable finds path = (IsUtf8 path → ⊥) ⊎ (path ≡ codes "-") ⊎ IsUnreadFile (finds path)
    ⊎ finds path Overlong

-- What was found is true of the file at this path, for which this sum is listed. An agreement is true of the file's bytes, if they
-- are known; with `None` the file is unreadable.
abbrev pub IsTrueOfFile : (List ℕ → FileState → Type 0) → List ℕ → List ℕ → Option Agreement → Type 0
IsTrueOfFile finds path listed None = IsUnreadable finds path
IsTrueOfFile finds path listed (Some agreement) =
    (found : Option (List ℕ)) × finds path (Readable found) × IfSome found (λ bytes. Agrees agreement (md5 bytes) listed)

-- The finding is true of the file at its listed path and of its listed sum.
abbrev pub IsTrueFinding : (List ℕ → FileState → Type 0) → Indexed → Finding → Type 0
IsTrueFinding finds index finding =
    IfSome (file_sum_in index finding.unit finding.file)
    (λ listed. IsTrueOfFile finds (path_or_empty (file_path_in index finding.unit finding.file)) listed finding.found)

-- ---- what is printed

abbrev pub found_text : Option Agreement → List ℕ
found_text (Some Same) = codes "same"
found_text (Some (Differs sum)) = codes "differs " ++ encode_lower sum
found_text None = codes "unreadable"

abbrev pub head_text : ℕ → ℕ → List ℕ
head_text unit file = codes "unit " ++ (decimal unit ++ (codes " file " ++ (decimal file ++ codes " ")))

-- the line of a finding, with the full path of the file
abbrev pub sum_line : Indexed → Finding → List ℕ
sum_line index finding =
    (head_text finding.unit finding.file ++ found_text finding.found)
    ++ (codes " " ++ (quoted_text (path_or_empty (file_path_in index finding.unit finding.file)) ++ codes "\n"))

-- the status for a finding
abbrev pub found_status : Option Agreement → Status
found_status (Some Same) = Done
found_status (Some (Differs sum)) = No
found_status None = No

-- `Done` exactly when both are
abbrev pub both : Status → Status → Status
both Done second = second
both No second = No

-- `Done` exactly when each file has its sum
abbrev pub sums_status : List Finding → Status
sums_status [] = Done
sums_status (finding ∷ findings) = both (found_status finding.found) (sums_status findings)

-- What was appended to a writer that held these bytes is a line with a true finding for each of these files, and nothing
-- else.
pub record AreSumsPrinted (finds : List ℕ → FileState → Type 0) (index : Indexed) (files : List (ℕ × ℕ)) (old new : Option (List ℕ))
    (status : Status) : Type 0 where
  pub findings : List Finding
  pub places : map file_of findings ≡ files
  pub are_true : AllByRecursion (IsTrueFinding finds index) findings
  pub printed : Appends old new (flat_map (sum_line index) findings)
  pub status_is : status ≡ sums_status findings

-- A prefix of the lines of true findings was appended, and nothing else. They are of the first of these files, in order; of the rest
-- nothing is said.
pub record AreSumsBegun (finds : List ℕ → FileState → Type 0) (index : Indexed) (files : List (ℕ × ℕ)) (old new : Option (List ℕ))
    : Type 0 where
  pub findings : List Finding
  pub rest : List (ℕ × ℕ)
  pub places : map file_of findings ++ rest ≡ files
  pub are_true : AllByRecursion (IsTrueFinding finds index) findings
  pub prefix : AppendsPrefix old new (flat_map (sum_line index) findings)
