-- The files that are held of a unit.
use Rattle.std.proofs.Common.{◌≡◌, ◌≢◌, ℕ, ◌==◌, ◌<◌, false, List, [], ◌∷◌, map, length, get_or, refl, sym, ap, subst, ◌∙◌, arith, None}
use Rattle.std.proofs.Common.{Option, Some}
use Rattle.std.specs.List.{All, Contains, position, position_or_len, slice_get}
use Rattle.std.specs.Option.{option_and_then, option_map, option_map_or}
use Rattle.std.proofs.lemmas.List.{length-map}
use Rattle.std.proofs.lemmas.List.Sums.{position_or_len_is}
use Rattle.std.proofs.lemmas.Option.{slice_get-get_or}
use Rattle.lnt_wire.specs.declared.format.Order.{Order}
use Rattle.lnt_header.specs.Parts.{HeaderParts}
use Rattle.lnt_header.specs.declared.unit_parts.UnitParts.{UnitParts}
use Rattle.lnt_machine.specs.Walking.{KeptProgram}
use Rattle.lnt_unit.specs.UnitBytes.{SectionBytes}
use Rattle.lnt_sequences.specs.Sequences.{Selection}
use Rattle.lnt_files.specs.Files.{AreFilesOf, KeptFile, kept_path, kept_sum}
use Rattle.lnt_lines.specs.Contents.{Contents, files_at, files_of, AreContentsOf}
use Rattle.lnt_lines.specs.Indexed.{header_in, Indexed, IsIndexOf}
use Rattle.lnt_lines.specs.Laws.{FilesOfUnits, HeadersOfUnits, ListsFilesOf}
use Rattle.lnt_lines.proofs.DraftLemmas.{rising_from}
use Rattle.lnt_lines.proofs.IndexLemmas.{offset_at, zip_at}
use Rattle.lnt_lines.proofs.NamedLemmas.{header_at}
use Rattle.lnt_lines.proofs.PlaceLemmas.{other_is, outside_is, place_found}

abbrev FilesOf : List ℕ → List ℕ → ℕ × UnitParts → List KeptFile → Type 0
FilesOf text general unit files = AreFilesOf text general unit.1.header files

-- its files are held
held : (text general : List ℕ) (selection : Selection) (order : Order) (section : List ℕ) (contents : Contents) (unit : ℕ × UnitParts)
    → SectionBytes order selection.units section → AreContentsOf text general selection contents → Contains selection.units unit
    → (files : List KeptFile) × (files_of contents unit.0 ≡ Some files) × AreFilesOf text general unit.1.header files
held text general selection order section contents unit spelled tells (k, lt, same) =
    let files = get_or contents.files k [] in
    let kept = zip_at (FilesOf text general) selection.units contents.files k unit [] tells.files_are lt in
    let at = offset_at selection.units k unit lt in
    let place : Some k ≡ position (λ offset. offset == unit.0) (map (λ (u : ℕ × UnitParts). u.0) selection.units) =
    place_found (map (λ (u : ℕ × UnitParts). u.0) selection.units) unit.0 k (rising_from order 0 selection.units section spelled) at.1
    (at.0 ∙ ap (λ (u : ℕ × UnitParts). u.0) same) in
    let there : files_of contents unit.0 ≡ Some files =
    ap (λ (list : List ℕ). files_at list contents.files unit.0) tells.units_are
    ∙ ap (λ (o : Option ℕ). option_and_then (slice_get contents.files) o) (sym place) ∙ slice_get-get_or contents.files k [] kept.1 in
    (files, there, subst (λ (u : ℕ × UnitParts). AreFilesOf text general u.1.header files) same kept.0)

listed : (text general : List ℕ) (selection : Selection) (order : Order) (section : List ℕ) (contents : Contents) (unit : ℕ × UnitParts)
    → SectionBytes order selection.units section → AreContentsOf text general selection contents → Contains selection.units unit
    → ListsFilesOf text general unit contents
listed text general selection order section contents unit spelled tells within =
    let found = held text general selection order section contents unit spelled tells within in
    let files = found.2 in
    record {
      count = ap (λ (o : Option (List KeptFile)). option_map_or length o 0) found.1 ∙ files.count;
      paths = λ file. ap (λ (o : Option (List KeptFile)). option_and_then (λ (f : List KeptFile). kept_path f file) o) found.1
          ∙ files.paths file;
      sums =
          λ file. ap (λ (o : Option (List KeptFile)). option_and_then (λ (f : List KeptFile). kept_sum f file) o) found.1 ∙ files.sums file;
    }

no_place : (units : List (ℕ × UnitParts)) (offset : ℕ) → All (λ (unit : ℕ × UnitParts). unit.0 ≢ offset) units
    → position (λ (n : ℕ). n == offset) (map (λ (u : ℕ × UnitParts). u.0) units) ≡ None
no_place units offset all =
    let offsets : List ℕ = map (λ (u : ℕ × UnitParts). u.0) units in
    let none : (j : ℕ) → j < length offsets → (get_or offsets j 0 == offset) ≡ false = λ j lt.
    let few : j < length units = omega (arith, lt, length-map units (λ (u : ℕ × UnitParts). u.0)) in
    other_is (get_or offsets j 0) offset (λ same. all j (0, get_or_unit units j few) few
    (sym (offset_at units j (0, get_or_unit units j few) few).0 ∙ same)) in
    let at : position_or_len (λ (n : ℕ). n == offset) offsets ≡ length offsets =
    position_or_len_is (λ (n : ℕ). n == offset) offsets (length offsets) 0 (omega arith) none (λ lt. absurd (omega arith)) in
    rw (at, outside_is (length offsets) (length offsets) (omega arith)) refl
  where
    get_or_unit : (us : List (ℕ × UnitParts)) (j : ℕ) → j < length us → UnitParts
    get_or_unit [] j lt = absurd (omega arith)
    get_or_unit (u ∷ us) j lt = u.1

pub files_of_units : FilesOfUnits
files_of_units = record {
  listed = λ text general selection order section contents unit spelled tells within. listed text general selection order section
      contents unit spelled tells within;
  none = λ text general selection contents offset tells all.
      ap (λ (list : List ℕ). files_at list contents.files offset) tells.units_are
      ∙ ap (λ (o : Option ℕ). option_and_then (slice_get contents.files) o) (no_place selection.units offset all);
}

-- ---- the headers of an index

abbrev say_header : Option KeptProgram → Option HeaderParts
say_header found = option_map (λ (kept : KeptProgram). kept.header) found

header_found : (selection : Selection) (index : Indexed) (unit : ℕ × UnitParts)
    → IsIndexOf selection index → Contains selection.units unit → header_in index unit.0 ≡ Some unit.1.header
header_found selection index unit is (k, lt, same) =
    subst (λ (u : ℕ × UnitParts). header_in index u.0 ≡ Some u.1.header) same (header_at index selection k unit is lt)

pub headers_of_units : HeadersOfUnits
headers_of_units = record {
  found = header_found;
  none = λ selection index offset is all.
      ap (λ (list : List ℕ). say_header (option_and_then (slice_get index.programs) (position (λ (n : ℕ). n == offset) list))) is.offsets
      ∙ ap (λ (o : Option ℕ). say_header (option_and_then (slice_get index.programs) o)) (no_place selection.units offset all);
}
