-- What is kept of the files of a header: the full path of each, and its sum if one is listed.
use Rattle.std.specs.Prelude.{◌≡◌, ℕ, List, length, Option, slice_get, option_map, option_and_then, ◌≤◌, [], ◌∷◌, slice_range}
use Rattle.lnt_header.specs.Parts.{HeaderParts}
use Rattle.lnt_files.specs.Paths.{path_bytes, listed_sum}
use Rattle.lnt_files.specs.declared.files.PathEnd.{PathEnd}

-- a file's full path, and its MD5 sum if it lists one
pub record KeptFile : Type 0 where
  pub path : List ℕ
  pub listed : Option (List ℕ)

abbrev pub kept_path : List KeptFile → ℕ → Option (List ℕ)
kept_path files number = option_map (λ file. file.path) (slice_get files number)

abbrev pub kept_sum : List KeptFile → ℕ → Option (List ℕ)
kept_sum files number = option_and_then (λ file. file.listed) (slice_get files number)

-- The kept files are those of the header: as many, with the same paths and the same sums.
pub record AreFilesOf (line general : List ℕ) (h : HeaderParts) (files : List KeptFile) : Type 0 where
  pub count : length files ≡ length h.files
  pub paths : (number : ℕ) → kept_path files number ≡ path_bytes line general h number
  pub sums : (number : ℕ) → kept_sum files number ≡ listed_sum h number

-- ---- how the files of a header are kept: the paths of all in one list of bytes, one after the other, and the end of each

-- the files, the first of whose paths begins at the start
abbrev pub kept_files : List ℕ → ℕ → List PathEnd → List KeptFile
kept_files paths start [] = []
kept_files paths start (file ∷ files) =
    record { path = slice_range paths start file.end; listed = file.listed } ∷ kept_files paths file.end files

-- the ends are in ascending order from the start to the last one
abbrev pub EndAt : ℕ → ℕ → List PathEnd → Type 0
EndAt last start [] = start ≡ last
EndAt last start (file ∷ files) = (start ≤ file.end) × EndAt last file.end files
