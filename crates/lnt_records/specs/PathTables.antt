-- An address table by path, in terms of the records that `csv` reads from its bytes.
use Rattle.std.specs.Prelude.{◌≡◌, ℕ, List, [], ◌∷◌, Option, Some, None, length, get_or, codes}
use Rattle.lnt_text.specs.Digits.{IsAddress, IsDecimal}
use Rattle.lnt_records.specs.Table.Kind.{address, decimal, text}
use Rattle.lnt_records.specs.Table.{Fields, IsTableIn, IsTableOfIn, Kind, TableFormat}
pub use Rattle.lnt_records.specs.declared.path_records.version.PathVersion.{PathVersion}
use Rattle.lnt_records.specs.declared.path_records.version.PathVersion.TheVariants.{Three, Four}
use Rattle.lnt_records.specs.PathSpans.{PathAnswer, PathSpan, StandInOrder, whole}
use Rattle.lnt_records.specs.declared.path_records.record.PathRecord.{PathRecord}
use Rattle.lnt_records.specs.declared.path_records.record.HeldPath.{HeldPath}

-- the header, record 0
abbrev pub path_column_names : PathVersion → Fields
path_column_names Three = codes "low" ∷ codes "high" ∷ codes "path" ∷ codes "line" ∷ codes "column" ∷ []
path_column_names Four = codes "low" ∷ codes "high" ∷ codes "path" ∷ codes "line" ∷ []

abbrev pub path_column_count : PathVersion → ℕ
path_column_count version = length (path_column_names version)

abbrev pub path_kinds : List Kind
path_kinds = address ∷ address ∷ text ∷ decimal ∷ decimal ∷ []

-- the column, which only version 3 has
abbrev pub SaysColumn : (List ℕ → ℕ → Type 0) → PathVersion → Fields → Option ℕ → Type 0
SaysColumn Number Three fields None = ⊥
SaysColumn Number Three fields (Some column) = Number (get_or fields 4 []) column
SaysColumn Number Four fields column = column ≡ None

-- A record of two addresses and an answer, in these encodings of addresses and numbers.
pub record SaysPath (Address Number : List ℕ → ℕ → Type 0) (version : PathVersion) (fields : Fields) (low high : ℕ)
    (answer : PathAnswer) : Type 0 where
  pub count : length fields ≡ path_column_count version
  pub low_is : Address (get_or fields 0 []) low
  pub high_is : Address (get_or fields 1 []) high
  pub path : get_or fields 2 [] ≡ answer.path
  pub line : Number (get_or fields 3 []) answer.line
  pub column : SaysColumn Number version fields answer.column

-- A record of the span, which begins and ends at operation index 0.
pub record SaysPathSpan (Address Number : List ℕ → ℕ → Type 0) (version : PathVersion) (fields : Fields) (span : PathSpan) : Type 0 where
  pub says : SaysPath Address Number version fields span.low.address span.high.address span.answer
  pub low_op : span.low.op ≡ 0
  pub high_op : span.high.op ≡ 0

abbrev pub IsPathRecord : PathVersion → Fields → PathSpan → Type 0
IsPathRecord version fields span = SaysPathSpan IsAddress IsDecimal version fields span

-- ---- a table

abbrev pub by_path : TableFormat PathVersion PathSpan
by_path = record { names = path_column_names; columns = path_kinds; Says = IsPathRecord; InOrder = StandInOrder }

abbrev pub IsPathTable : PathVersion → List Fields → List PathSpan → Type 0
IsPathTable version records spans = IsTableIn by_path version records spans

-- The bytes are a table of these spans.
abbrev pub IsPathTableOf : PathVersion → List ℕ → List PathSpan → Type 0
IsPathTableOf version bytes spans = IsTableOfIn by_path version bytes spans

-- ---- one record of a table by path, as it is read

-- a record's answer that is borrowed
abbrev pub said_answer : HeldPath → PathAnswer
said_answer said = record { path = said.path.now; line = said.line; column = said.column }

-- the answer of a record
abbrev pub record_answer : PathRecord → PathAnswer
record_answer said = said_answer said.answer

-- the span of a record
abbrev pub record_span : PathRecord → PathSpan
record_span said = record { low = whole said.low; high = whole said.high; answer = record_answer said }
