-- Lists of spans: what they answer, and the canonical list for each way to answer.
use Rattle.std.specs.Prelude.{◌≡◌, List, Option, option_map, ◌^◌, ◌<◌, Some, None}
pub use Rattle.lnt_spans.specs.declared.answer.Answer.{Answer}
pub use Rattle.lnt_spans.specs.declared.answer.Version.{Version}
pub use Rattle.lnt_spans.specs.declared.span.Span.{Span}
use Rattle.lnt_spans.specs.Answers.{in_version}
use Rattle.lnt_spans.specs.Positions.{Position}
use Rattle.lnt_spans.specs.SpanKinds.{AreCanonical, SpanKind, AreSpansInOrder, answer_held, last_end}
use Rattle.std.specs.List.{AllByRecursion}
use Rattle.lnt_spans.specs.declared.answer.More.{More}

-- ---- what spans answer

-- these spans as a kind of spans
abbrev pub number_spans : SpanKind Span Answer
number_spans = record { low = λ span. span.low; high = λ span. span.high; answer = λ span. span.answer }

-- the answer of the span that holds p, else None
abbrev pub span_answer : List Span → Position → Option Answer
span_answer spans p = answer_held number_spans spans p

-- that answer, narrowed to what a version of the address table contains
abbrev pub version_answer : Version → List Span → Position → Option Answer
version_answer version spans p = option_map (in_version version) (span_answer spans p)

-- the span with its answer narrowed to what the version contains
abbrev pub span_in_version : Version → Span → Span
span_in_version version span = record span { answer = in_version version span.answer }

-- ---- spans in order

-- Each span holds a position, and none begins below the end of the one before it.
abbrev pub AreInOrder : List Span → Type 0
AreInOrder spans = AreSpansInOrder number_spans spans

-- In order, none empty, and no two that touch with the same answer.
abbrev pub IsCanonical : List Span → Type 0
IsCanonical spans = AreCanonical number_spans spans

-- ---- spans of whole instructions, as all are if no instruction has more than one operation (DWARF 5, section 6.2.4)

-- the span begins and ends at operation index 0
abbrev pub IsOfInstructions : Span → Type 0
IsOfInstructions span = (span.low.op ≡ 0) × (span.high.op ≡ 0)

-- ---- spans whose numbers have at most 64 bits, so that they can be written in a table

pub record FitsPosition (position : Position) : Type 0 where
  pub address : position.address < 2 ^ 64
  pub op : position.op < 2 ^ 64

abbrev pub FitsMore : Option More → Type 0
FitsMore None = Unit {0}
FitsMore (Some more) = (more.isa < 2 ^ 64) × (more.discriminator < 2 ^ 64)

pub record FitsAnswer (answer : Answer) : Type 0 where
  pub unit : answer.unit < 2 ^ 64
  pub file : answer.file < 2 ^ 64
  pub line : answer.line < 2 ^ 64
  pub column : answer.column < 2 ^ 64
  pub more : FitsMore answer.more

pub record FitsSpan (span : Span) : Type 0 where
  pub low : FitsPosition span.low
  pub high : FitsPosition span.high
  pub answer : FitsAnswer span.answer

abbrev pub FitSpans : List Span → Type 0
FitSpans spans = AllByRecursion FitsSpan spans

-- ---- the records of a table by number, and where they end

-- the end of the last record, or the origin if there is none
abbrev pub end_of : List Span → Position
end_of spans = last_end number_spans spans

-- The span's answer has no more than the version contains.
abbrev pub IsTold : Version → Span → Type 0
IsTold version span = span_in_version version span ≡ span
