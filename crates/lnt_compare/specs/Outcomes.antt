-- What the comparison of a table with a section comes to, by number or by path.
use Rattle.lnt_spans.specs.SpanKinds.{answer_held}
use Rattle.std.specs.Prelude.{ℕ, List, Option, Result}
use Rattle.lnt_spans.specs.declared.difference.Difference.{Difference}
use Rattle.lnt_spans.specs.declared.position.Position.{Position}
use Rattle.lnt_spans.specs.declared.scope.Coverage.{Coverage}
use Rattle.lnt_spans.specs.declared.scope.Scope.{Scope}
use Rattle.lnt_spans.specs.declared.span.Span.{Span}
use Rattle.lnt_spans.specs.Merged.{IsJudged}
use Rattle.lnt_spans.specs.Spans.{span_answer}
use Rattle.lnt_compare.specs.declared.outcome.TableRead.{TableRead}
use Rattle.lnt_compare.specs.declared.outcome.TableRead.TheVariants as outcome
use Rattle.lnt_compare.specs.Comparisons.{IsTableWhere, TableKind, in_versions, tables_by_number}
use Rattle.lnt_records.specs.Faults.{IsFaultIn}
use Rattle.lnt_compare.specs.declared.path_tables.answer.DifferenceByPath.{DifferenceByPath}
use Rattle.lnt_records.specs.declared.path_records.version.PathVersion.{PathVersion}
use Rattle.lnt_records.specs.PathSpans.{PathAnswer, PathSpan, path_spans}
use Rattle.lnt_compare.specs.PathStretches.{stretch_of}
use Rattle.lnt_records.specs.PathTables.{by_path}

-- how much of a section a table answers, or the first position at which it is wrong; or the first fault of a table
abbrev pub Outcome : Type 0 → Type 0
Outcome D = TableRead (Result Coverage D)

-- The bytes are a table, and in the scope it is judged to be this, by the section's answers; or this is their first fault.
abbrev pub IsOutcomeOf : {V X Y D : Type 0} → TableKind V X Y D → Scope → (V → Position → Option Y) → List ℕ → Outcome D → Type 0
IsOutcomeOf kind scope section bytes (outcome.Fault told) = IsFaultIn kind.format bytes told
IsOutcomeOf kind scope section bytes (outcome.Table judged) = IsTableWhere kind.format (answer_held kind.spans) section bytes
    (λ by_section by_table. IsJudged scope kind.stretch by_section by_table judged)

-- the same of a table by number and the spans of a section
abbrev pub IsOutcome : Scope → List ℕ → List Span → Outcome Difference → Type 0
IsOutcome scope bytes section told = IsOutcomeOf tables_by_number scope (in_versions (span_answer section)) bytes told

-- ---- what the comparison of a table by path with a section comes to

abbrev pub tables_by_path : TableKind PathVersion PathSpan PathAnswer DifferenceByPath
tables_by_path = record { format = by_path; spans = path_spans; stretch = stretch_of }

-- the same of a table by path
abbrev pub IsPathOutcome : Scope → List ℕ → (PathVersion → Position → Option PathAnswer) → Outcome DifferenceByPath → Type 0
IsPathOutcome scope bytes section told = IsOutcomeOf tables_by_path scope section bytes told
