-- A table in the form in which it is written.
use Rattle.std.specs.Prelude.{◌≡◌, ℕ, List, [], ◌∷◌, ◌++◌, Option, Some, None}
use Rattle.std.specs.List.{AllZip}
use Rattle.lnt_text.specs.Digits.{IsPlainAddress, IsPlainDecimal}
use Rattle.lnt_io.specs.Prefixes.{AppendsPrefix}
use Rattle.lnt_spans.specs.declared.answer.Answer.{Answer}
use Rattle.lnt_spans.specs.declared.answer.More.{More}
use Rattle.lnt_spans.specs.declared.answer.Version.{Version}
use Rattle.lnt_spans.specs.declared.answer.Version.TheVariants.{One, Two}
use Rattle.lnt_spans.specs.declared.span.Span.{Span}
use Rattle.lnt_records.specs.Table.{Fields, IsTableOf, SaysSpan, column_names}

-- The answer has exactly the fields of the version.
abbrev pub IsOfVersion : Version → Answer → Type 0
IsOfVersion One answer = answer.more ≡ None
IsOfVersion Two answer = (more : More) × (answer.more ≡ Some more)

-- A record of the span without leading zeros and with letters in lower case.
abbrev pub IsPlainRecord : Version → Fields → Span → Type 0
IsPlainRecord version fields span = SaysSpan IsPlainAddress IsPlainDecimal version fields span

-- fields, with a comma before each
abbrev pub following : Fields → List ℕ
following [] = []
following (field ∷ fields) = 44 ∷ field ++ following fields

-- a record as a line
abbrev pub line_text : Fields → List ℕ
line_text [] = 10 ∷ []
line_text (field ∷ fields) = field ++ following fields ++ 10 ∷ []

-- records, each as the line that this function gives
abbrev pub lines_of : (Fields → List ℕ) → List Fields → List ℕ
lines_of line [] = []
lines_of line (fields ∷ records) = line fields ++ lines_of line records

abbrev pub lines_text : List Fields → List ℕ
lines_text records = lines_of line_text records

-- ---- tables of any format
--     old, new    the known bytes that the writer holds before and afterwards

-- How tables with versions `V` are written: the header of each version, a record as a line, and the records that are written of spans.
pub record LineFormat (V X : Type 0) : Type 1 where
  pub names : V → Fields
  pub line : Fields → List ℕ
  pub Says : V → Fields → X → Type 0

-- the header as a line, and a line for each span
pub record IsPlainTableIn {V X : Type 0} (format : LineFormat V X) (version : V) (bytes : List ℕ) (spans : List X) : Type 0 where
  pub records : List Fields
  pub lines : bytes ≡ lines_of format.line (format.names version ∷ records)
  pub each : AllZip (format.Says version) records spans

-- What was written is a prefix of the header and the lines of the first of these spans. Every table of the spans on plain lines
-- begins with it.
pub record BeginsTableIn {V X : Type 0} (format : LineFormat V X) (version : V) (spans : List X) (old new : Option (List ℕ)) : Type 0 where
  pub first : List X
  pub rest : List X
  pub joined : first ++ rest ≡ spans
  pub records : List Fields
  pub each : AllZip (format.Says version) records first
  pub prefix : AppendsPrefix old new (lines_of format.line (format.names version ∷ records))
  pub of_whole : (bytes : List ℕ) → IsPlainTableIn format version bytes spans → AppendsPrefix old new bytes

-- ---- tables by number

abbrev pub plain_by_number : LineFormat Version Span
plain_by_number = record { names = column_names; line = line_text; Says = IsPlainRecord }

abbrev pub IsPlainTable : Version → List ℕ → List Span → Type 0
IsPlainTable version bytes spans = IsPlainTableIn plain_by_number version bytes spans

-- The bytes are a table of these spans, on plain lines.
pub record IsWrittenTable (version : Version) (bytes : List ℕ) (spans : List Span) : Type 0 where
  pub table : IsTableOf version bytes spans
  pub plain : IsPlainTable version bytes spans

abbrev pub BeginsTable : Version → List Span → Option (List ℕ) → Option (List ℕ) → Type 0
BeginsTable version spans old new = BeginsTableIn plain_by_number version spans old new
