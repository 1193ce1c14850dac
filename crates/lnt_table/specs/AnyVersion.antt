-- What the answers of `check_any` say of a section and an address table of any version.
--     line, general    the bytes of .debug_line_str and of .debug_str
--     section, table   the bytes of .debug_line, and those of the address table
use Rattle.lnt_spans.specs.SpanKinds.{answer_held}
use Rattle.std.specs.Prelude.{◌≢◌, ℕ, List, Option, ◌⊎◌}
use Rattle.lnt_header.specs.declared.unit_parts.UnitParts.{UnitParts}
use Rattle.lnt_spans.specs.declared.position.Position.{Position}
use Rattle.lnt_compare.specs.declared.outcome.Compared.{Compared}
use Rattle.lnt_compare.specs.Comparisons.{IsComparisonOf, IsTableWhere, TableKind, tables_by_number}
use Rattle.lnt_records.specs.Faults.{IsUnnumbered}
use Rattle.lnt_compare.specs.declared.path_tables.answer.DifferenceByPath.{DifferenceByPath}
use Rattle.lnt_records.specs.declared.path_records.version.PathVersion.{PathVersion}
use Rattle.lnt_records.specs.PathSpans.{PathAnswer}
use Rattle.lnt_compare.specs.Outcomes.{tables_by_path}
use Rattle.lnt_lines.specs.declared.options.Options.{Options}
use Rattle.lnt_lines.specs.Good.{selected}
use Rattle.lnt_table.specs.Verdicts.{Checked}
use Rattle.lnt_table.specs.declared.kinds.OfKind.TheVariants.{Numbered, ByPath}
use Rattle.lnt_table.specs.declared.verdict.TableNo.TheVariants as no
use Rattle.lnt_table.specs.declared.verdict.Verdict.TheVariants.{No, Yes}
use Rattle.lnt_table.specs.Headline.{answer_by_path, IsGoodSection, IsGoodWith, IsTrueOfSection, IsTrueVerdict, told_rows}
use Rattle.lnt_spans.specs.Partial.{AreCounts, IsFirstMistake, IsRightWherever}
use Rattle.lnt_compare.specs.declared.outcome.Compared.TheVariants.{Same, Fault, Differs}
use Rattle.lnt_table.specs.declared.within.CheckedWithin.{CheckedWithin}
use Rattle.lnt_table.specs.declared.within.CheckedWithin.TheVariants.{Checked as Told, Covered}
use Rattle.lnt_spans.specs.declared.scope.Coverage.{Coverage}
use Rattle.lnt_spans.specs.declared.scope.Scope.{Scope}
use Rattle.lnt_spans.specs.declared.scope.Scope.TheVariants.{All, Answered}

-- the answers of a section's rows by path, with the full path of each file, for the options
abbrev pub told_paths : List ℕ → List ℕ → Options → List (ℕ × UnitParts) → PathVersion → Position → Option PathAnswer
told_paths line general options units version = answer_by_path version line general (selected options units)

-- The section is good. The table begins with the header of neither version 1 nor 2. `compared` is true of the table and of the answers
-- of the section's rows by path, in the fields of versions 3 and 4: `Fault` of the header if the table begins with that of neither of
-- these.
abbrev pub IsTrueByPath : List ℕ → List ℕ → Options → List ℕ → List ℕ → Compared DifferenceByPath → Type 0
IsTrueByPath line general options section table compared = IsUnnumbered table
    × IsGoodWith line general options section
    (λ units. IsComparisonOf tables_by_path (told_paths line general options units) table compared)

-- The answer is true, and a reason that it gives is the first. If the section is good and the table begins with the header of
-- neither version 1 nor 2, it is an answer by path, not a verdict.
abbrev pub IsTrueCheck : List ℕ → List ℕ → Options → List ℕ → List ℕ → Checked → Type 0
IsTrueCheck line general options section table (Numbered verdict) =
    IsTrueVerdict line general options section table verdict × (verdict ≢ No no.TableHeader)
IsTrueCheck line general options section table (ByPath compared) = IsTrueByPath line general options section table compared

-- What the answer says of the section, whatever the table is: that it is good, or why it isn't.
abbrev pub IsTrueCheckOfSection : List ℕ → List ℕ → Options → List ℕ → Checked → Type 0
IsTrueCheckOfSection line general options section (Numbered verdict) = IsTrueOfSection line general options section verdict
IsTrueCheckOfSection line general options section (ByPath compared) = IsGoodSection line general options section

-- ---- what the answers of `check_within` say of a section and an address table of any version
--     line, general    the bytes of .debug_line_str and of .debug_str
--     section, table   the bytes of .debug_line, and those of the address table

-- ---- a table of a kind, and a section that gives these answers in the fields of each version

-- The bytes are a table, and at every position at which it answers, its answer is the section's. It answers at this many of the section's
-- addresses.
abbrev pub IsRightOf : {V X Y D : Type 0} → TableKind V X Y D → (V → Position → Option Y) → List ℕ → Coverage → Type 0
IsRightOf kind section table coverage = IsTableWhere kind.format (answer_held kind.spans) section table (λ by_section by_table.
    IsRightWherever by_table by_section × AreCounts by_table by_section coverage.answered coverage.all)

-- The bytes are a table, and this is the least position at which it answers, and the section otherwise or not at all.
abbrev pub IsMistakenOf : {V X Y D : Type 0} → TableKind V X Y D → (V → Position → Option Y) → List ℕ → D → Type 0
IsMistakenOf kind section table mistake =
    IsTableWhere kind.format (answer_held kind.spans) section table
    (λ by_section by_table. IsFirstMistake by_table by_section (kind.stretch mistake))

-- ---- the answers

-- The table isn't right wherever it answers, or something else is wrong, and this is the first reason.
abbrev pub IsTruePart : List ℕ → List ℕ → Options → List ℕ → List ℕ → Checked → Type 0
IsTruePart line general options section table (Numbered Yes) = ⊥
IsTruePart line general options section table (Numbered (No (no.Differs position by_table by_section))) =
    IsGoodWith line general options section (λ units. IsMistakenOf tables_by_number (told_rows options units) table
    (record { position = position; by_table = by_table; by_section = by_section }))
IsTruePart line general options section table (Numbered (No reason)) =
    IsTrueVerdict line general options section table (No reason) × (No reason ≢ No no.TableHeader)
IsTruePart line general options section table (ByPath Same) = ⊥
IsTruePart line general options section table (ByPath (Fault told)) = IsTrueByPath line general options section table (Fault told)
IsTruePart line general options section table (ByPath (Differs mistake)) = IsUnnumbered table
    × IsGoodWith line general options section (λ units. IsMistakenOf tables_by_path (told_paths line general options units) table mistake)

-- The answer is true in the scope, and a reason that it gives is the first.
abbrev pub IsTrueWithin : Scope → List ℕ → List ℕ → Options → List ℕ → List ℕ → CheckedWithin → Type 0
IsTrueWithin All line general options section table (Told checked) = IsTrueCheck line general options section table checked
IsTrueWithin All line general options section table (Covered coverage) = ⊥
IsTrueWithin Answered line general options section table (Told checked) = IsTruePart line general options section table checked
IsTrueWithin Answered line general options section table (Covered coverage) =
    IsGoodWith line general options section (λ units. IsRightOf tables_by_number (told_rows options units) table coverage)
    ⊎ (IsUnnumbered table × IsGoodWith line general options section (λ units.
    IsRightOf tables_by_path (told_paths line general options units) table coverage))

-- An answer in the scope of all positions doesn't say how much is answered. This is so whatever is known of the bytes.
abbrev pub IsOfScope : CheckedWithin → Scope → Type 0
IsOfScope (Told checked) scope = Unit {0}
IsOfScope (Covered coverage) All = ⊥
IsOfScope (Covered coverage) Answered = Unit {0}

-- What the answer says of the section, whatever the table is: that it is good, or why it isn't.
abbrev pub IsTrueOfSectionWithin : List ℕ → List ℕ → Options → List ℕ → CheckedWithin → Type 0
IsTrueOfSectionWithin line general options section (Told checked) = IsTrueCheckOfSection line general options section checked
IsTrueOfSectionWithin line general options section (Covered coverage) = IsGoodSection line general options section
