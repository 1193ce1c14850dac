-- What an index answers names a file that has a path.
use Rattle.std.proofs.Common.{◌≡◌, ℕ, ◌<◌, ◌==◌, List, [], length, get_or, Option, None, Some, sym, ap, ◌∙◌, subst, arith, IfSome, IsSome}
use Rattle.std.proofs.Common.{position, slice_get}
use Rattle.std.specs.Option.{option_and_then, option_map, option_map_or}
use Rattle.std.proofs.lemmas.List.Elements.{recursion_from_All}
use Rattle.std.proofs.lemmas.Option.{slice_get-get_or}
use Rattle.lnt_header.specs.Parts.{HeaderParts}
use Rattle.lnt_header.proofs.FirstLaws.{all_at}
use Rattle.lnt_header.specs.declared.unit_parts.UnitParts.{UnitParts}
use Rattle.lnt_machine.specs.Walking.{KeepsProgram, KeptProgram}
use Rattle.lnt_files.specs.Paths.{path_bytes}
use Rattle.lnt_files.specs.Tables.{AreUsableTables}
use Rattle.lnt_files.proofs.PathLaws.{has_path}
use Rattle.lnt_spans.specs.declared.answer.Answer.{Answer}
use Rattle.lnt_spans.specs.declared.position.Position.{Position}
use Rattle.lnt_sequences.specs.Rules.{HaveFiles}
use Rattle.lnt_sequences.specs.Sequences.{line_answer, live_in, Selection}
use Rattle.lnt_sequences.proofs.NamedLaws.{line_names, NamesFiles}
use Rattle.lnt_lines.specs.Indexed.{file_count_in, file_path_in, header_in, Indexed, IsIndex, IsIndexOf}
use Rattle.lnt_lines.proofs.IndexLemmas.{offset_at, zip_at}
use Rattle.lnt_lines.proofs.PlaceLemmas.{place_found}

-- the header that is found by the offset of a unit
pub header_at : (index : Indexed) (selection : Selection) (k : ℕ) (d : ℕ × UnitParts) → IsIndexOf selection index
    → k < length selection.units → header_in index (get_or selection.units k d).0 ≡ Some (get_or selection.units k d).1.header
header_at index selection k d is few =
    let unit : ℕ × UnitParts = get_or selection.units k d in
    let none : KeptProgram = record { header = unit.1.header; program = []; places = [] } in
    let at = offset_at selection.units k d few in
    let place : Some k ≡ position (λ offset. offset == unit.0) index.units =
    place_found index.units unit.0 k is.rising (omega (arith, at.1, ap length is.offsets))
    (ap (λ (offsets : List ℕ). get_or offsets k 0) is.offsets ∙ at.0) in
    let kept =
    zip_at (λ (u : ℕ × UnitParts) (p : KeptProgram). KeepsProgram p u.1) selection.units index.programs k d none is.programs few in
    ap (λ (found : Option ℕ). option_map (λ (p : KeptProgram). p.header) (option_and_then (slice_get index.programs) found)) (sym place)
    ∙ ap (option_map (λ (p : KeptProgram). p.header)) (slice_get-get_or index.programs k none kept.1)
    ∙ ap Some kept.0.header_is

abbrev HasPathIn : Indexed → ℕ → ℕ → Type 0
HasPathIn index unit file = IsSome (file_path_in index unit file)

path_at : (index : Indexed) (selection : Selection) (k : ℕ) (d : ℕ × UnitParts) → IsIndexOf selection index → k < length selection.units
    → (file : ℕ) → file < length (get_or selection.units k d).1.header.files → HasPathIn index (get_or selection.units k d).0 file
path_at index selection k d is few file there =
    subst
    (λ (header : Option HeaderParts). IsSome (option_and_then (λ (h : HeaderParts). path_bytes index.line index.general h file) header))
    (sym (header_at index selection k d is few))
    (has_path index.line index.general (get_or selection.units k d).1.header file
    (all_at (λ (unit : ℕ × UnitParts). AreUsableTables index.line index.general unit.1.header) selection.units k d few is.tables) there)

-- The file of what the index answers has a path.
pub answer_named : (index : Indexed) (p : Position) (answer : Option Answer) (is : IsIndex index) → answer ≡ line_answer is.selection p
    → IfSome answer (λ (a : Answer). IsSome (file_path_in index a.unit a.file))
answer_named index p answer is same =
    let dead = is.selection.dead in
    let units = is.selection.units in
    subst (λ (o : Option Answer). IfSome o (λ (a : Answer). HasPathIn index a.unit a.file)) (sym same)
    (line_names (HasPathIn index) is.selection p
    (recursion_from_All (NamesFiles (HasPathIn index) dead) units
    (λ k d few. record {
      have = all_at (λ (unit : ℕ × UnitParts). HaveFiles (length unit.1.header.files) (live_in dead unit)) units k d few is.files;
      there = path_at index is.selection k d is.index_is few;
    })))

-- Each file that is counted has a path.
pub counted_named : (index : Indexed) (header : Option HeaderParts) (unit file : ℕ) → header ≡ header_in index unit
    → IfSome header (λ (h : HeaderParts). AreUsableTables index.line index.general h)
    → file < file_count_in index unit → IsSome (file_path_in index unit file)
counted_named index header unit file is usable lt =
    by_header (header_in index unit)
    (subst (λ (o : Option HeaderParts). IfSome o (λ (h : HeaderParts). AreUsableTables index.line index.general h)) is usable) lt
  where
    by_header : (o : Option HeaderParts) → IfSome o (λ (h : HeaderParts). AreUsableTables index.line index.general h)
        → file < option_map_or (λ (h : HeaderParts). length h.files) o 0
        → IsSome (option_and_then (λ (h : HeaderParts). path_bytes index.line index.general h file) o)
    by_header None all few = absurd (omega (arith, few))
    by_header (Some h) all few = has_path index.line index.general h file all few
