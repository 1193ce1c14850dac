-- What each call returns and writes for C.
use Rattle.std.specs.Prelude.{◌≡◌, ◌≤◌, ◌⊎◌, ℕ, Bool, nat_le, true, false, if◌then◌else◌, Some, None, List, ◌++◌, length, map, take, drop}
use Rattle.std.specs.List.Sorted.{IsPermutation}
use Rattle.lnt_header.specs.declared.unit_parts.UnitParts.{UnitParts}
use Rattle.lnt_sequences.specs.RowSpans.{spans_of}
use Rattle.lnt_sequences.specs.Sequences.{kept_sequences, line_answer}
use Rattle.lnt_spans.specs.declared.answer.Version.{Version}
use Rattle.lnt_spans.specs.declared.answer.Version.TheVariants.{One, Two}
use Rattle.lnt_spans.specs.declared.position.Position.{Position}
use Rattle.lnt_spans.specs.declared.span.Span.{Span}
use Rattle.lnt_spans.specs.Spans.{AreInOrder, span_answer}
use Rattle.lnt_lines.specs.declared.no.No.{No}
use Rattle.lnt_lines.specs.Judging.{IsIndexOfSection}
use Rattle.lnt_lines.specs.Good.{IsGood, selected}
use Rattle.lnt_lines.specs.Indexed.{file_count_in, file_path_in, Indexed}
use Rattle.lnt_lines.specs.Nos.{IsTrueNo}
use Rattle.lnt_table.specs.declared.within.CheckedWithin.{CheckedWithin}
use Rattle.lnt_spans.specs.declared.scope.Scope.{Scope}
use Rattle.lnt_spans.specs.declared.scope.Scope.TheVariants.{All}
use Rattle.lnt_table.specs.AnyVersion.{IsTrueWithin}
use Rattle.lnt_table.specs.Written.{IsTableOfUnits}
use Rattle.lnt_ffi.specs.declared.section.FlatSection.{FlatSection}
use Rattle.lnt_ffi.specs.declared.unit.FlatUnit.{FlatUnit}
use Rattle.lnt_ffi.specs.declared.verdict.FlatVerdict.{FlatVerdict}
use Rattle.lnt_ffi.specs.CheckVerdicts.{paths_in, verdict_of_check}
use Rattle.lnt_ffi.specs.Flat.{options_of, span_of, FlatSpan}
use Rattle.lnt_ffi.specs.Verdicts.{numbered, verdict_of_no, yes}

-- memory ran out
abbrev pub memory : FlatVerdict
memory = numbered 33 0

-- the room with the list at its beginning if there is room for all of it, and otherwise the room as it is
abbrev pub with_prefix : {A : Type 0} → List A → List A → List A
with_prefix list room = if nat_le (length list) (length room) then list ++ drop (length list) room else room

-- ---- a section that isn't good, or that wasn't judged

pub data IsRefused (section : FlatSection) (returned : FlatVerdict) : Type 0 where
  bad : (reason : No) → IsTrueNo section.line_str.now section.general.now (options_of section) section.line.now reason
      → returned ≡ verdict_of_no reason → IsRefused section returned
  stopped : returned ≡ memory → IsRefused section returned

-- ---- a good section

-- The section is good. These are the spans of its kept sequences, each once, in order, and they answer as its rows do.
pub record AreSpansOf (section : FlatSection) (spans : List Span) : Type 0 where
  pub units : List (ℕ × UnitParts)
  pub good : IsGood section.line_str.now section.general.now (options_of section) section.line.now units
  pub spans_are : IsPermutation (spans_of (kept_sequences (selected (options_of section) units))) spans
  pub in_order : AreInOrder spans
  pub answers : (p : Position) → span_answer spans p ≡ line_answer (selected (options_of section) units) p

-- The section is good, and this is its index.
abbrev pub IsIndexOfFlat : FlatSection → Indexed → Type 0
IsIndexOfFlat section index = IsIndexOfSection section.line_str.now section.general.now (options_of section) section.line.now index

-- The section is good, and the bytes are the table of its units.
pub record IsTableOfFlat (section : FlatSection) (version : Version) (bytes : List ℕ) : Type 0 where
  pub units : List (ℕ × UnitParts)
  pub good : IsGood section.line_str.now section.general.now (options_of section) section.line.now units
  pub table : IsTableOfUnits version (selected (options_of section) units) bytes

-- ---- each call

-- The verdict is yes, and this is so of the count and the room; or the section is refused, nothing is counted, and the room is as it was.
abbrev pub ReturnsIfGood : {A : Type 0} → FlatSection → (ℕ → List A → List A → Type 0) → ℕ → List A → List A → FlatVerdict → Type 0
ReturnsIfGood section IsGiven count old new returned =
    (IsGiven count old new × (returned ≡ yes)) ⊎ (IsRefused section returned × (count ≡ 0) × (new ≡ old))

-- What a room holds that is too short for the spans isn't said.
abbrev pub ReturnsSpans : FlatSection → ℕ → List FlatSpan → List FlatSpan → FlatVerdict → Type 0
ReturnsSpans section = ReturnsIfGood section (λ count old new. (spans : List Span) × AreSpansOf section spans × (count ≡ length spans)
    × (count ≤ length old → map span_of (take count new) ≡ spans) × (drop count new ≡ drop count old))

-- what is so of the section and the bytes of a table of any version, at the positions of the scope
abbrev pub IsFound : Scope → FlatSection → List ℕ → CheckedWithin → Type 0
IsFound scope section text found =
    IsTrueWithin scope section.line_str.now section.general.now (options_of section) section.line.now text found

pub data ReturnsVerdict (section : FlatSection) (text : List ℕ) (returned : FlatVerdict) : Type 0 where
  judged : (found : CheckedWithin) → IsFound All section text found → returned ≡ verdict_of_check found
      → ReturnsVerdict section text returned
  stopped : returned ≡ memory → ReturnsVerdict section text returned

-- the same in a scope, with the paths of a difference by path in two rooms
pub data ReturnsVerdictByPath (scope : Scope) (section : FlatSection) (text old_table new_table old_section new_section : List ℕ)
    (returned : FlatVerdict) : Type 0 where
  judged : (found : CheckedWithin) → IsFound scope section text found → returned ≡ verdict_of_check found
      → new_table ≡ with_prefix (paths_in found).0 old_table → new_section ≡ with_prefix (paths_in found).1 old_section
      → ReturnsVerdictByPath scope section text old_table new_table old_section new_section returned
  stopped : returned ≡ memory → new_table ≡ old_table → new_section ≡ old_section
      → ReturnsVerdictByPath scope section text old_table new_table old_section new_section returned

abbrev pub version_of : Bool → Version
version_of is_wide = if is_wide then Two else One

abbrev pub ReturnsTable : FlatSection → Bool → ℕ → List ℕ → List ℕ → FlatVerdict → Type 0
ReturnsTable section is_wide = ReturnsIfGood section (λ count old new. (bytes : List ℕ) × IsTableOfFlat section (version_of is_wide) bytes
    × (count ≡ length bytes) × (new ≡ with_prefix bytes old))

-- ---- units and paths

-- the offset of a unit, and how many files it has
abbrev pub unit_in : Indexed → ℕ → FlatUnit
unit_in index offset = record { offset = offset; files = file_count_in index offset }

abbrev pub ReturnsUnits : FlatSection → ℕ → List FlatUnit → List FlatUnit → FlatVerdict → Type 0
ReturnsUnits section = ReturnsIfGood section (λ count old new. (index : Indexed) × IsIndexOfFlat section index
    × (count ≡ length index.units) × (new ≡ with_prefix (map (unit_in index) index.units) old))

pub data ReturnsPath (section : FlatSection) (unit file : ℕ) (is_there : Bool) (count : ℕ) (old new : List ℕ)
    (returned : FlatVerdict) : Type 0 where
  found : (index : Indexed) → IsIndexOfFlat section index → (path : List ℕ) → file_path_in index unit file ≡ Some path
      → is_there ≡ true → count ≡ length path → new ≡ with_prefix path old → returned ≡ yes
      → ReturnsPath section unit file is_there count old new returned
  nowhere : (index : Indexed) → IsIndexOfFlat section index → file_path_in index unit file ≡ None
      → is_there ≡ false → count ≡ 0 → new ≡ old → returned ≡ yes → ReturnsPath section unit file is_there count old new returned
  refused : IsRefused section returned → is_there ≡ false → count ≡ 0 → new ≡ old
      → ReturnsPath section unit file is_there count old new returned
