-- What the comparison of a table with a section gives, by number or by path.
use Rattle.lnt_spans.specs.SpanKinds.{SpanKind, answer_held}
use Rattle.std.specs.Prelude.{◌≡◌, ℕ, List, Option, option_map}
use Rattle.lnt_spans.specs.declared.answer.Answer.{Answer}
use Rattle.lnt_spans.specs.declared.answer.Version.{Version}
use Rattle.lnt_spans.specs.declared.difference.Difference.{Difference}
use Rattle.lnt_spans.specs.declared.position.Position.{Position}
use Rattle.lnt_spans.specs.declared.span.Span.{Span}
use Rattle.lnt_spans.specs.Answers.{in_version}
use Rattle.lnt_spans.specs.AnyStretches.{Stretch}
use Rattle.lnt_spans.specs.Differences.{IsFirstDifference, stretch_of}
use Rattle.lnt_spans.specs.Spans.{number_spans}
use Rattle.lnt_compare.specs.declared.outcome.Compared.{Compared}
use Rattle.lnt_compare.specs.declared.outcome.Compared.TheVariants.{Same, Fault, Differs}
use Rattle.lnt_records.specs.Faults.{IsFaultIn}
use Rattle.lnt_records.specs.Table.{IsTableOfIn, TableFormat, by_number}

-- Tables with versions `V`, spans `X`, answers `Y` and differences `D`: their format, the parts of a span, and the stretch that begins
-- with a difference.
pub record TableKind (V X Y D : Type 0) : Type 1 where
  pub format : TableFormat V X
  pub spans : SpanKind X Y
  pub stretch : D → Stretch Y

abbrev pub tables_by_number : TableKind Version Span Answer Difference
tables_by_number = record { format = by_number; spans = number_spans; stretch = stretch_of }

-- answers in the fields of each version
abbrev pub in_versions : (Position → Option Answer) → Version → Position → Option Answer
in_versions answers version p = option_map (in_version version) (answers p)

-- ---- a comparison with a section that gives these answers, in the fields of each version

-- The bytes are a table, and this is so of what the section answers, in the fields of the table's version, and of what the table does.
pub record IsTableWhere {V X Y : Type 0} (format : TableFormat V X) (answers : List X → Position → Option Y)
    (section : V → Position → Option Y) (bytes : List ℕ) (IsSo : (Position → Option Y) → (Position → Option Y) → Type 0) : Type 0 where
  pub version : V
  pub table : List X
  pub is_table : IsTableOfIn format version bytes table
  pub so : IsSo (section version) (answers table)

-- The bytes are a table that answers at every position as the section does; or this is their first fault; or they are a table, and this
-- is its least difference from the section.
abbrev pub IsComparisonOf : {V X Y D : Type 0} → TableKind V X Y D → (V → Position → Option Y) → List ℕ → Compared D → Type 0
IsComparisonOf kind section bytes Same =
    IsTableWhere kind.format (answer_held kind.spans) section bytes (λ by_section by_table. (p : Position) → by_section p ≡ by_table p)
IsComparisonOf kind section bytes (Fault told) = IsFaultIn kind.format bytes told
IsComparisonOf kind section bytes (Differs difference) =
    IsTableWhere kind.format (answer_held kind.spans) section bytes
    (λ by_section by_table. IsFirstDifference by_section by_table (kind.stretch difference))

-- what is told of a comparison, wherever its difference is held
abbrev pub stretch_told : {D Y : Type 0} → (D → Stretch Y) → Compared D → Compared (Stretch Y)
stretch_told stretch Same = Same
stretch_told stretch (Fault told) = Fault told
stretch_told stretch (Differs difference) = Differs (stretch difference)
