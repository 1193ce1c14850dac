-- What verdicts say of a section (DWARF 5, section 6.2) and an address table.
--     line, general    the bytes of .debug_line_str and of .debug_str
--     section, table   the bytes of .debug_line, and those of the address table
use Rattle.std.specs.Prelude.{◌≡◌, ℕ, List, Option, option_map, ◌==◌, find, option_and_then}
use Rattle.lnt_header.specs.declared.unit_parts.UnitParts.{UnitParts}
use Rattle.lnt_spans.specs.declared.answer.Answer.{Answer}
use Rattle.lnt_spans.specs.declared.answer.Version.{Version}
use Rattle.lnt_spans.specs.declared.difference.Difference.{Difference}
use Rattle.lnt_spans.specs.declared.position.Position.{Position}
use Rattle.lnt_spans.specs.Answers.{in_version}
use Rattle.lnt_spans.specs.Spans.{span_answer}
use Rattle.lnt_sequences.specs.Sequences.{line_answer, Selection}
use Rattle.lnt_records.specs.declared.fault.TableFault.TheVariants as fault
use Rattle.lnt_compare.specs.declared.outcome.Compared.{Compared}
use Rattle.lnt_compare.specs.declared.outcome.Compared.TheVariants.{Fault, Differs}
use Rattle.lnt_compare.specs.Comparisons.{IsComparisonOf, IsTableWhere, in_versions, tables_by_number}
use Rattle.lnt_records.specs.Table.{by_number}
use Rattle.lnt_lines.specs.declared.options.Options.{Options}
use Rattle.lnt_lines.specs.Good.{IsGood, selected}
use Rattle.lnt_lines.specs.Nos.{IsTrueNo}
use Rattle.lnt_table.specs.declared.verdict.TableNo.{TableNo}
use Rattle.lnt_table.specs.declared.verdict.TableNo.TheVariants as no
use Rattle.lnt_table.specs.declared.verdict.Verdict.{Verdict}
use Rattle.lnt_table.specs.declared.verdict.Verdict.TheVariants.{Yes, No}
use Rattle.lnt_header.specs.Parts.{HeaderParts}
use Rattle.lnt_files.specs.Paths.{path_bytes, path_or_empty}
use Rattle.lnt_lines.specs.Indexed.{Indexed, file_path_in}
use Rattle.lnt_records.specs.declared.path_records.version.PathVersion.{PathVersion}
use Rattle.lnt_records.specs.PathSpans.{PathAnswer, path_answer}

-- the answer of a section's rows at a position, in the fields of this version of the address table
abbrev pub told_answer : Version → Selection → Position → Option Answer
told_answer version selection p = option_map (in_version version) (line_answer selection p)

-- the same in the fields of each version, for the address of dead code and the copies that options name
abbrev pub told_rows : Options → List (ℕ × UnitParts) → Version → Position → Option Answer
told_rows options units = in_versions (line_answer (selected options units))

-- The section is good, and this is so of its units.
pub record IsGoodWith (line general : List ℕ) (options : Options) (section : List ℕ) (IsSo : List (ℕ × UnitParts) → Type 0) : Type 0 where
  pub units : List (ℕ × UnitParts)
  pub good : IsGood line general options section units
  pub so : IsSo units

-- The section is good, and the result is that of comparing the table with its rows: that the table is one of a version, and at every
-- position its answer is that of the rows (`Same`); the first fault of bytes that aren't a table; or that the table is one of a version,
-- and the least position at which the two answers differ.
abbrev pub IsTrueByNumber : List ℕ → List ℕ → Options → List ℕ → List ℕ → Compared Difference → Type 0
IsTrueByNumber line general options section table compared =
    IsGoodWith line general options section (λ units. IsComparisonOf tables_by_number (told_rows options units) table compared)

-- The section is good. The table is one of a version, and at every position its answer is that of the section's rows.
abbrev pub AnswersRight : List ℕ → List ℕ → Options → List ℕ → List ℕ → Type 0
AnswersRight line general options section table = IsGoodWith line general options section (λ units.
    IsTableWhere by_number span_answer (told_rows options units) table (λ by_section by_table. (p : Position) → by_section p ≡ by_table p))

-- The reason is true, and it is the first thing that is wrong.
abbrev pub IsTrueTableNo : List ℕ → List ℕ → Options → List ℕ → List ℕ → TableNo → Type 0
IsTrueTableNo line general options section table (no.Section reason) = IsTrueNo line general options section reason
IsTrueTableNo line general options section table no.TableHeader = IsTrueByNumber line general options section table (Fault fault.Header)
IsTrueTableNo line general options section table (no.TableFields record_number) =
    IsTrueByNumber line general options section table (Fault (fault.Fields record_number))
IsTrueTableNo line general options section table (no.TableNumber record_number column) =
    IsTrueByNumber line general options section table (Fault (fault.Number record_number column))
IsTrueTableNo line general options section table (no.TableOrder record_number) =
    IsTrueByNumber line general options section table (Fault (fault.Order record_number))
IsTrueTableNo line general options section table (no.Differs position by_table by_section) =
    IsTrueByNumber line general options section table
    (Differs (record { position = position; by_table = by_table; by_section = by_section }))

abbrev pub IsTrueVerdict : List ℕ → List ℕ → Options → List ℕ → List ℕ → Verdict → Type 0
IsTrueVerdict line general options section table Yes = AnswersRight line general options section table
IsTrueVerdict line general options section table (No reason) = IsTrueTableNo line general options section table reason

-- ---- what a verdict says of the section, whatever the table is

abbrev pub IsGoodSection : List ℕ → List ℕ → Options → List ℕ → Type 0
IsGoodSection line general options section = (units : List (ℕ × UnitParts)) × IsGood line general options section units

-- The verdict's reason is why the section isn't good; if it gives no such reason, the section is good.
abbrev pub IsTrueOfSection : List ℕ → List ℕ → Options → List ℕ → Verdict → Type 0
IsTrueOfSection line general options section (No (no.Section reason)) = IsTrueNo line general options section reason
IsTrueOfSection line general options section other = IsGoodSection line general options section

-- ---- the answers of a section by path
--     line, general   the bytes of .debug_line_str and of .debug_str

-- the header of the unit at an offset in the section, if one stands there
abbrev pub header_at : List (ℕ × UnitParts) → ℕ → Option HeaderParts
header_at units offset = option_map (λ unit. unit.1.header) (find (λ unit. unit.0 == offset) units)

-- the full path of a file of a unit (DWARF 5, section 6.2.4.1)
abbrev pub path_at : List ℕ → List ℕ → List (ℕ × UnitParts) → ℕ → ℕ → List ℕ
path_at line general units unit file =
    path_or_empty (option_and_then (λ header. path_bytes line general header file) (header_at units unit))

-- the answer of the units' rows at a position, by path, in the fields of this version
abbrev pub answer_by_path : PathVersion → List ℕ → List ℕ → Selection → Position → Option PathAnswer
answer_by_path version line general selection p =
    option_map (path_answer version (path_at line general selection.units)) (line_answer selection p)

-- the full path of a file of a unit, as an index of the units gives it
abbrev pub indexed_path : Indexed → ℕ → ℕ → List ℕ
indexed_path index unit file = path_or_empty (file_path_in index unit file)

-- the answers of the units of an index
abbrev pub told_path : PathVersion → Indexed → Selection → Position → Option PathAnswer
told_path version index = answer_by_path version index.line index.general
