-- The verdict that C sees of a check of a table of any version, and the paths beside it.
use Rattle.std.specs.Prelude.{ℕ, Bool, ◌/◌, ◌%◌, ◌^◌, ◌||◌, if◌then◌else◌, false, is_some, List, [], Option, Some, None, length, unwrap_or}
use Rattle.lnt_compare.specs.declared.path_tables.answer.AnswerByPath.{AnswerByPath}
use Rattle.lnt_compare.specs.declared.outcome.Compared.{Compared}
use Rattle.lnt_compare.specs.declared.outcome.Compared.TheVariants.{Same, Fault, Differs}
use Rattle.lnt_compare.specs.declared.path_tables.answer.DifferenceByPath.{DifferenceByPath}
use Rattle.lnt_table.specs.declared.kinds.OfKind.TheVariants.{Numbered, ByPath}
use Rattle.lnt_table.specs.declared.verdict.Verdict.TheVariants.{No}
use Rattle.lnt_table.specs.declared.within.CheckedWithin.{CheckedWithin}
use Rattle.lnt_table.specs.declared.within.CheckedWithin.TheVariants.{Checked as Told, Covered}
use Rattle.lnt_spans.specs.declared.scope.Coverage.{Coverage}
use Rattle.lnt_table.specs.Verdicts.{no_of_fault}
use Rattle.lnt_ffi.specs.declared.flat.FlatAnswer.{FlatAnswer}
use Rattle.lnt_ffi.specs.declared.verdict.FlatVerdict.{FlatVerdict}
use Rattle.lnt_ffi.specs.Flat.{nothing}
use Rattle.lnt_ffi.specs.Verdicts.{numbered, verdict_of_table, yes}

-- ---- one side of a difference, which may answer nothing

-- its path
abbrev pub path_in : Option AnswerByPath → List ℕ
path_in None = []
path_in (Some answer) = answer.path.items

-- its line, and its column if the table's version has one, else 0
abbrev pub flat_place : Option AnswerByPath → FlatAnswer
flat_place None = nothing
flat_place (Some answer) = record nothing { line = answer.line; column = unwrap_or answer.column 0 }

abbrev pub tells_column : Option AnswerByPath → Bool
tells_column None = false
tells_column (Some answer) = is_some answer.column

-- ---- a difference

-- The table's version is 3 where an answer has a column, and else 4.
abbrev pub of_difference : DifferenceByPath → FlatVerdict
of_difference difference = record (numbered 40 0) {
  address = difference.position.address;
  op = difference.position.op;
  index = length (path_in difference.by_table);
  value = length (path_in difference.by_section);
  table_answers = is_some difference.by_table;
  section_answers = is_some difference.by_section;
  path_version = if tells_column difference.by_table || tells_column difference.by_section then 3 else 4;
  by_table = flat_place difference.by_table;
  by_section = flat_place difference.by_section;
}

-- ---- a check

abbrev pub verdict_of_compared : Compared DifferenceByPath → FlatVerdict
verdict_of_compared Same = yes
verdict_of_compared (Fault found) = verdict_of_table (No (no_of_fault found))
verdict_of_compared (Differs difference) = of_difference difference

-- A yes, with how many addresses both answer at, and how many the section does. Each number is given as how often it has 2^64, and
-- what is left.
abbrev pub of_coverage : Coverage → FlatVerdict
of_coverage coverage = record yes {
  offset = coverage.answered / 2 ^ 64;
  index = coverage.answered % 2 ^ 64;
  other_offset = coverage.all / 2 ^ 64;
  value = coverage.all % 2 ^ 64;
}

abbrev pub verdict_of_check : CheckedWithin → FlatVerdict
verdict_of_check (Told (Numbered verdict)) = verdict_of_table verdict
verdict_of_check (Told (ByPath compared)) = verdict_of_compared compared
verdict_of_check (Covered coverage) = of_coverage coverage

-- the path that the table answers where the two differ by path, and that of the section
abbrev pub paths_in : CheckedWithin → List ℕ × List ℕ
paths_in (Told (ByPath (Differs difference))) = (path_in difference.by_table, path_in difference.by_section)
paths_in other = ([], [])
