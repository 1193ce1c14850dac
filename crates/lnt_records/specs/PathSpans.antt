-- Spans of positions with answers by path: what a list of them answers, and the canonical list for each way to answer.
use Rattle.std.specs.Prelude.{ℕ, List, Option, None, Some, ◌≡◌}
use Rattle.lnt_spans.specs.declared.answer.Answer.{Answer}
use Rattle.lnt_spans.specs.declared.position.Position.{Position}
use Rattle.lnt_spans.specs.declared.span.Span.{Span}
use Rattle.lnt_spans.specs.Merged.{answer_told}
use Rattle.lnt_records.specs.declared.path_records.version.PathVersion.{PathVersion}
use Rattle.lnt_records.specs.declared.path_records.version.PathVersion.TheVariants.{Four, Three}
use Rattle.lnt_spans.specs.SpanKinds.{AreCanonical, AreSpansInOrder, SpanKind, answer_held, last_end}

-- ---- the answer at a position by path: the bytes of the full path of the file, the line, and in version 3 the column

pub record PathAnswer : Type 0 where
  pub path : List ℕ
  pub line : ℕ
  pub column : Option ℕ

-- the column, if the version has columns
abbrev pub told_column : PathVersion → ℕ → Option ℕ
told_column Three column = Some column
told_column Four column = None

-- an answer by path, if these are the paths of the files of units
abbrev pub path_answer : PathVersion → (ℕ → ℕ → List ℕ) → Answer → PathAnswer
path_answer version path answer =
    record { path = path answer.unit answer.file; line = answer.line; column = told_column version answer.column }

-- what spans answer at a position, by path, if these are the paths of the files of units
abbrev pub spans_by_path : PathVersion → (ℕ → ℕ → List ℕ) → List Span → Position → Option PathAnswer
spans_by_path version path spans p = answer_told (path_answer version path) spans p

-- ---- spans

-- the position of a whole instruction
abbrev pub whole : ℕ → Position
whole address = record { address = address; op = 0 }

-- the half-open range of positions from `low` up to `high`, with one answer
pub record PathSpan : Type 0 where
  pub low : Position
  pub high : Position
  pub answer : PathAnswer

-- these spans as a kind of spans
abbrev pub path_spans : SpanKind PathSpan PathAnswer
path_spans = record { low = λ span. span.low; high = λ span. span.high; answer = λ span. span.answer }

-- the answer of the span that holds p, else None
abbrev pub path_span_answer : List PathSpan → Position → Option PathAnswer
path_span_answer spans p = answer_held path_spans spans p

-- Each span holds a position, and none begins below the end of the one before it.
abbrev pub StandInOrder : List PathSpan → Type 0
StandInOrder spans = AreSpansInOrder path_spans spans

-- These are the canonical spans with these answers.
pub record AreCanonicalOf (answers : Position → Option PathAnswer) (spans : List PathSpan) : Type 0 where
  pub canonical : AreCanonical path_spans spans
  pub same : (p : Position) → path_span_answer spans p ≡ answers p

-- where the last span ends, or the origin if there is none
abbrev pub path_end : List PathSpan → Position
path_end spans = last_end path_spans spans
