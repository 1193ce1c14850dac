-- What the bodies of this crate say of a table of any version that is judged in a scope. Public contracts speak of `told_right` alone.
use Rattle.std.specs.Prelude.{◌≢◌, ℕ, List, Ok, Err}
use Rattle.lnt_spans.specs.declared.difference.Difference.{Difference}
use Rattle.lnt_sequences.specs.Sequences.{line_answer, Selection}
use Rattle.lnt_records.specs.declared.fault.TableFault.TheVariants as fault
use Rattle.lnt_records.specs.Faults.{IsUnnumbered}
use Rattle.lnt_compare.specs.declared.path_tables.answer.DifferenceByPath.{DifferenceByPath}
use Rattle.lnt_compare.specs.declared.outcome.Compared.TheVariants as compared
use Rattle.lnt_compare.specs.declared.outcome.TableRead.TheVariants.{Fault, Table}
use Rattle.lnt_compare.specs.Comparisons.{in_versions, tables_by_number}
use Rattle.lnt_compare.specs.Outcomes.{IsOutcomeOf, Outcome, tables_by_path}
use Rattle.lnt_lines.specs.Indexed.{Indexed}
use Rattle.lnt_table.specs.declared.kinds.OfKind.{OfKind}
use Rattle.lnt_table.specs.declared.kinds.OfKind.TheVariants.{ByPath, Numbered}
use Rattle.lnt_table.specs.declared.verdict.TableNo.TheVariants as no
use Rattle.lnt_table.specs.declared.verdict.Verdict.TheVariants.{No, Yes}
use Rattle.lnt_table.specs.declared.within.CheckedWithin.{CheckedWithin}
use Rattle.lnt_table.specs.declared.within.CheckedWithin.TheVariants.{Checked as Told, Covered}
use Rattle.lnt_spans.specs.declared.scope.Coverage.{Coverage}
use Rattle.lnt_spans.specs.declared.scope.Scope.{Scope}
use Rattle.lnt_spans.specs.declared.scope.Scope.TheVariants.{All, Answered}
use Rattle.lnt_table.specs.Headline.{told_path}
use Rattle.lnt_table.specs.Verdicts.{Checked, no_of_fault}

abbrev pub JudgedOfKind : Type 0
JudgedOfKind = OfKind (Outcome Difference) (Outcome DifferenceByPath)

-- It is true of the table and of the answers of the units' rows: by number, and the header isn't at fault; or by path, and the table
-- begins with the header of neither version 1 nor 2.
abbrev pub IsJudgedWith : Indexed → Selection → Scope → List ℕ → JudgedOfKind → Type 0
IsJudgedWith index selection scope table (Numbered judged) =
    IsOutcomeOf tables_by_number scope (in_versions (line_answer selection)) table judged × (judged ≢ Fault fault.Header)
IsJudgedWith index selection scope table (ByPath judged) =
    IsUnnumbered table × IsOutcomeOf tables_by_path scope (λ version. told_path version index selection) table judged

-- ---- what is told of it

-- that the table is right in the scope, or how much it answers, if not all positions count
abbrev pub told_right : Scope → Coverage → Checked → CheckedWithin
told_right All coverage checked = Told checked
told_right Answered coverage checked = Covered coverage

abbrev pub told_in : Scope → JudgedOfKind → CheckedWithin
told_in scope (Numbered (Fault told)) = Told (Numbered (No (no_of_fault told)))
told_in scope (Numbered (Table (Err wrong))) = Told (Numbered (No (no.Differs wrong.position wrong.by_table wrong.by_section)))
told_in scope (Numbered (Table (Ok coverage))) = told_right scope coverage (Numbered Yes)
told_in scope (ByPath (Fault told)) = Told (ByPath (compared.Fault told))
told_in scope (ByPath (Table (Err wrong))) = Told (ByPath (compared.Differs wrong))
told_in scope (ByPath (Table (Ok coverage))) = told_right scope coverage (ByPath compared.Same)
