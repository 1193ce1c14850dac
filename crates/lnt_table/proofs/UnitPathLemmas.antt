-- The paths that an index of units gives are those of the units.
use Rattle.std.proofs.Common.{◌≡◌, ◌∙◌, ◌==◌, ◌≤◌, ◌+◌, Bool, ℕ, zero, suc, true, false, not, cond, List, [], ◌∷◌, length, map, Option}
use Rattle.std.proofs.Common.{Some, None, refl, sym, ap, arith, nat_lt, option_and_then, option_map}
use Rattle.std.specs.List.{AllZip, position, position_or_len, slice_get}
use Rattle.std.proofs.lemmas.Bool.Decides.{nat_tests}
use Rattle.std.proofs.lemmas.List.Folds.{find_at}
use Rattle.std.proofs.lemmas.Option.{slice_get_past}
use Rattle.lnt_header.specs.Parts.{HeaderParts}
use Rattle.lnt_header.specs.declared.unit_parts.UnitParts.{UnitParts}
use Rattle.lnt_machine.specs.Walking.{KeepsProgram, KeptProgram}
use Rattle.lnt_files.specs.Paths.{path_bytes, path_or_empty}
use Rattle.lnt_spans.specs.declared.answer.Answer.{Answer}
use Rattle.lnt_spans.specs.declared.position.Position.{Position}
use Rattle.lnt_spans.specs.declared.span.Span.{Span}
use Rattle.lnt_spans.specs.Spans.{span_answer}
use Rattle.lnt_sequences.specs.Sequences.{line_answer, Selection}
use Rattle.lnt_records.specs.declared.path_records.version.PathVersion.{PathVersion}
use Rattle.lnt_records.specs.PathSpans.{path_answer, spans_by_path}
use Rattle.lnt_lines.specs.Indexed.{header_in, Indexed, IsIndexOf}
use Rattle.lnt_table.specs.Headline.{header_at, indexed_path, path_at, told_path}

abbrev header_of : Option KeptProgram → Option HeaderParts
header_of found = option_map (λ (kept : KeptProgram). kept.header) found

abbrev AreKept : List (ℕ × UnitParts) → List KeptProgram → Type 0
AreKept units programs = AllZip (λ (unit : ℕ × UnitParts) (kept : KeptProgram). KeepsProgram kept unit.1) units programs

abbrev offsets : List (ℕ × UnitParts) → List ℕ
offsets units = map (λ (unit : ℕ × UnitParts). unit.0) units

-- the headers of programs that are kept of units
headers_alike : (units : List (ℕ × UnitParts)) (programs : List KeptProgram) (k : ℕ) → AreKept units programs
    → header_of (slice_get programs k) ≡ option_map (λ (unit : ℕ × UnitParts). unit.1.header) (slice_get units k)
headers_alike [] [] k kept = refl
headers_alike [] (p ∷ ps) k kept = absurd kept
headers_alike (u ∷ us) [] k kept = absurd kept
headers_alike (u ∷ us) (p ∷ ps) zero kept = ap Some kept.0.header_is
headers_alike (u ∷ us) (p ∷ ps) (suc k) kept = headers_alike us ps k kept.1

-- the first unit at an offset stands where the offset does
same_place : (units : List (ℕ × UnitParts)) (offset : ℕ)
    → position_or_len (λ (n : ℕ). n == offset) (offsets units) ≡ position_or_len (λ (unit : ℕ × UnitParts). unit.0 == offset) units
same_place [] offset = refl
same_place (u ∷ us) offset = ap (λ (n : ℕ). cond (not (u.0 == offset)) (1 + n) 0) (same_place us offset)

header_first : (units : List (ℕ × UnitParts)) (programs : List KeptProgram) (offset : ℕ) → AreKept units programs
    → header_of (slice_get programs (position_or_len (λ (n : ℕ). n == offset) (offsets units))) ≡ header_at units offset
header_first units programs offset kept =
    headers_alike units programs (position_or_len (λ (n : ℕ). n == offset) (offsets units)) kept
    ∙ ap (λ (k : ℕ). option_map (λ (unit : ℕ × UnitParts). unit.1.header) (slice_get units k)) (same_place units offset)
    ∙ ap (option_map (λ (unit : ℕ × UnitParts). unit.1.header)) (sym (find_at (λ (unit : ℕ × UnitParts). unit.0 == offset) units))

as_many : (units : List (ℕ × UnitParts)) (programs : List KeptProgram) → AreKept units programs
    → length programs ≡ length (offsets units)
as_many [] [] kept = refl
as_many [] (p ∷ ps) kept = absurd kept
as_many (u ∷ us) [] kept = absurd kept
as_many (u ∷ us) (p ∷ ps) kept = let rest = as_many us ps kept.1 in omega (arith, rest)

-- the element at the first index at which a test passes, from another list as long
at_position : {X : Type 0} (xs : List X) (test : ℕ → Bool) (ns : List ℕ) → length xs ≡ length ns
    → option_and_then (slice_get xs) (position test ns) ≡ slice_get xs (position_or_len test ns)
at_position xs test ns e = of_case (nat_lt (position_or_len test ns) (length ns)) refl
  where
    past : nat_lt (position_or_len test ns) (length ns) ≡ false → length xs ≤ position_or_len test ns
    past not = grind (arith, nat_tests, e, not)

    of_case : (within : Bool) → nat_lt (position_or_len test ns) (length ns) ≡ within
        → option_and_then (slice_get xs) (position test ns) ≡ slice_get xs (position_or_len test ns)
    of_case true is = rw is refl
    of_case false is = rw is (sym (slice_get_past xs (position_or_len test ns) (past is)))

header_is : (selection : Selection) (index : Indexed) (offset : ℕ) → IsIndexOf selection index
    → header_in index offset ≡ header_at selection.units offset
header_is selection index offset is =
    ap (λ (list : List ℕ). header_of (option_and_then (slice_get index.programs) (position (λ (n : ℕ). n == offset) list))) is.offsets
    ∙ ap header_of (at_position index.programs (λ n. n == offset) (offsets selection.units)
    (as_many selection.units index.programs is.programs))
    ∙ header_first selection.units index.programs offset is.programs

-- What an index of units answers by path is what the units answer.
pub same_answer : (version : PathVersion) (index : Indexed) (selection : Selection) → IsIndexOf selection index → (found : Option Answer)
    → option_map (path_answer version (indexed_path index)) found
    ≡ option_map (path_answer version (path_at index.line index.general selection.units)) found
same_answer version index selection is None = refl
same_answer version index selection is (Some answer) =
    let path : indexed_path index answer.unit answer.file ≡ path_at index.line index.general selection.units answer.unit answer.file =
    ap
    (λ (h : Option HeaderParts). path_or_empty
    (option_and_then (λ (header : HeaderParts). path_bytes index.line index.general header answer.file) h))
    (header_is selection index answer.unit is) in
    rw path refl

-- So is it of spans that answer as the units' rows do.
pub told_by_units : (version : PathVersion) (index : Indexed) (selection : Selection) (spans : List Span) → IsIndexOf selection index
    → ((p : Position) → span_answer spans p ≡ line_answer selection p) → (p : Position)
    → spans_by_path version (indexed_path index) spans p ≡ told_path version index selection p
told_by_units version index selection spans is answers p =
    ap (option_map (path_answer version (indexed_path index))) (answers p)
    ∙ same_answer version index selection is (line_answer selection p)
