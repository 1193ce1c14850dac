-- Each file of usable tables has a path.
use Rattle.std.proofs.Common.{ℕ, ◌<◌, List, length, IsSome}
use Rattle.lnt_header.specs.Parts.{HeaderParts}
use Rattle.lnt_files.specs.Paths.{file_path, path_bytes}
use Rattle.lnt_files.specs.Tables.{AreUsableTables}
use Rattle.lnt_files.proofs.PathLemmas.{element_there, files_there}

pub has_path : (line general : List ℕ) (h : HeaderParts) (number : ℕ) → AreUsableTables line general h → number < length h.files
    → IsSome (path_bytes line general h number)
has_path line general h number usable lt = element_there (file_path line general h) h.files number (files_there line general h usable) lt
