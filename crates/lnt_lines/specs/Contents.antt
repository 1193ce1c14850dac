-- What is held of a good section, and what it answers.
use Rattle.std.specs.Prelude.{◌≡◌, ℕ, ◌==◌, List, map, length, Option, Some, IsPermutation}
use Rattle.std.specs.List.{AllByRecursion, AllZip, position, slice_get}
use Rattle.std.specs.Option.{option_and_then, option_map_or}
use Rattle.lnt_header.specs.Joins.{AreRising}
use Rattle.lnt_files.specs.Files.{AreFilesOf, KeptFile, kept_path, kept_sum}
use Rattle.lnt_sequences.specs.RowSpans.{spans_of}
use Rattle.lnt_sequences.specs.Sequences.{kept_sequences, line_answer, Selection}
use Rattle.lnt_spans.specs.declared.answer.More.{More}
use Rattle.lnt_spans.specs.declared.position.Position.{Position}
use Rattle.lnt_spans.specs.declared.span.Span.{Span}
use Rattle.lnt_spans.specs.Spans.{AreInOrder, span_answer}

-- the spans, and the offset and the files of each unit
pub record Contents : Type 0 where
  pub spans : List Span
  pub units : List ℕ
  pub files : List (List KeptFile)

-- Each span's answer includes the instruction set and the discriminator.
abbrev pub AreWhole : List Span → Type 0
AreWhole spans = AllByRecursion (λ (span : Span). (more : More) × (span.answer.more ≡ Some more)) spans

-- The spans are in order and their answers are complete, the units are in order, and each has its files.
pub record AreContents (contents : Contents) : Type 0 where
  pub in_order : AreInOrder contents.spans
  pub whole : AreWhole contents.spans
  pub rising : AreRising contents.units
  pub each : length contents.units ≡ length contents.files

-- the files of the unit at an offset, if there is one
abbrev pub files_at : List ℕ → List (List KeptFile) → ℕ → Option (List KeptFile)
files_at units files unit = option_and_then (slice_get files) (position (λ offset. offset == unit) units)

abbrev pub files_of : Contents → ℕ → Option (List KeptFile)
files_of contents unit = files_at contents.units contents.files unit

-- the number of its files; 0 if there is no unit
abbrev pub count_in : Contents → ℕ → ℕ
count_in contents unit = option_map_or length (files_of contents unit) 0

-- the path of one of its files, if it exists
abbrev pub path_in : Contents → ℕ → ℕ → Option (List ℕ)
path_in contents unit file = option_and_then (λ files. kept_path files file) (files_of contents unit)

-- the MD5 sum that is listed for one of its files
abbrev pub sum_in : Contents → ℕ → ℕ → Option (List ℕ)
sum_in contents unit file = option_and_then (λ files. kept_sum files file) (files_of contents unit)

-- The contents are those of the units: the spans of their kept sequences, each once and in order, which answer at each position as
-- the rows do; the units' offsets; and their files.
pub record AreContentsOf (line general : List ℕ) (selection : Selection) (contents : Contents) : Type 0 where
  pub spans_are : IsPermutation (spans_of (kept_sequences selection)) contents.spans
  pub in_order : AreInOrder contents.spans
  pub answers : (p : Position) → span_answer contents.spans p ≡ line_answer selection p
  pub units_are : contents.units ≡ map (λ unit. unit.0) selection.units
  pub files_are : AllZip (λ unit files. AreFilesOf line general unit.1.header files) selection.units contents.files
