-- An address table, in terms of the records that `csv` reads from its bytes: first of any format, then by number.
use Rattle.std.specs.Prelude.{◌≡◌, ℕ, Bool, true, false, List, [], ◌∷◌, ◌++◌, Option, Some, None, length, get_or, codes}
use Rattle.std.specs.List.{AllZip}
pub use Rattle.lnt_csv.specs.Records.{BeginsWith, Fields, RecordsOf}
use Rattle.lnt_text.specs.Digits.{IsAddress, IsDecimal}
use Rattle.lnt_spans.specs.declared.answer.More.{More}
use Rattle.lnt_spans.specs.declared.answer.Version.{Version}
use Rattle.lnt_spans.specs.declared.answer.Version.TheVariants.{One, Two}
use Rattle.lnt_spans.specs.declared.span.Span.{Span}
use Rattle.lnt_spans.specs.Spans.{AreInOrder}

-- ---- columns

-- the kinds of columns
pub data Kind : Type 0 where
  address : Kind
  decimal : Kind
  flag : Kind
  text : Kind

-- 0 or 1
abbrev pub IsFlag : List ℕ → Bool → Type 0
IsFlag field false = field ≡ codes "0"
IsFlag field true = field ≡ codes "1"

abbrev pub IsOfKind : Kind → List ℕ → Type 0
IsOfKind address field = (n : ℕ) × IsAddress field n
IsOfKind decimal field = (n : ℕ) × IsDecimal field n
IsOfKind flag field = (on : Bool) × IsFlag field on
IsOfKind text field = Unit {0}

-- the field in column i is of the column's kind
abbrev pub IsOfColumn : List Kind → Fields → ℕ → Type 0
IsOfColumn columns fields i = IsOfKind (get_or columns i text) (get_or fields i [])

-- ---- a table of any format

-- The format of a table with versions `V` and spans `X`: the header of each version, the kinds of the columns, which spans records
-- are of, and when spans are in order.
pub record TableFormat (V X : Type 0) : Type 1 where
  pub names : V → Fields
  pub columns : List Kind
  pub Says : V → Fields → X → Type 0
  pub InOrder : List X → Type 0

-- each record is that of its span, and the spans are in order, none empty
pub record AreRecordsOf {V X : Type 0} (format : TableFormat V X) (version : V) (records : List Fields) (spans : List X) : Type 0 where
  pub each : AllZip (format.Says version) records spans
  pub in_order : format.InOrder spans

-- the header, and a record for each span
abbrev pub IsTableIn : {V X : Type 0} → TableFormat V X → V → List Fields → List X → Type 0
IsTableIn format version [] spans = ⊥
IsTableIn format version (first ∷ records) spans = (first ≡ format.names version) × AreRecordsOf format version records spans

-- The bytes are a table of these spans.
abbrev pub IsTableOfIn : {V X : Type 0} → TableFormat V X → V → List ℕ → List X → Type 0
IsTableOfIn format version bytes spans = (records : List Fields) × RecordsOf bytes records × IsTableIn format version records spans

-- ---- the columns of a table by number

abbrev pub common_names : Fields
common_names =
    codes "low" ∷ codes "low_op" ∷ codes "high" ∷ codes "high_op" ∷ codes "unit" ∷ codes "file" ∷ codes "line" ∷ codes "column"
    ∷ codes "is_stmt" ∷ []

-- the header, record 0
abbrev pub column_names : Version → Fields
column_names One = common_names
column_names Two = common_names ++ codes "isa" ∷ codes "discriminator" ∷ []

abbrev pub column_count : Version → ℕ
column_count version = length (column_names version)

abbrev pub kinds : List Kind
kinds = address ∷ decimal ∷ address ∷ decimal ∷ decimal ∷ decimal ∷ decimal ∷ decimal ∷ flag ∷ decimal ∷ decimal ∷ []

-- ---- a span's record

-- the two columns that only version 2 has
abbrev pub AreMore : (List ℕ → ℕ → Type 0) → Version → Fields → Option More → Type 0
AreMore Number One fields more = more ≡ None
AreMore Number Two fields None = ⊥
AreMore Number Two fields (Some more) = Number (get_or fields 9 []) more.isa × Number (get_or fields 10 []) more.discriminator

-- A record of the span, in these encodings of addresses and numbers.
pub record SaysSpan (Address Number : List ℕ → ℕ → Type 0) (version : Version) (fields : Fields) (span : Span) : Type 0 where
  pub count : length fields ≡ column_count version
  pub low : Address (get_or fields 0 []) span.low.address
  pub low_op : Number (get_or fields 1 []) span.low.op
  pub high : Address (get_or fields 2 []) span.high.address
  pub high_op : Number (get_or fields 3 []) span.high.op
  pub unit : Number (get_or fields 4 []) span.answer.unit
  pub file : Number (get_or fields 5 []) span.answer.file
  pub line : Number (get_or fields 6 []) span.answer.line
  pub column : Number (get_or fields 7 []) span.answer.column
  pub is_stmt : IsFlag (get_or fields 8 []) span.answer.is_stmt
  pub more : AreMore Number version fields span.answer.more

-- A record of the span in any encoding.
abbrev pub IsSpanRecord : Version → Fields → Span → Type 0
IsSpanRecord version fields span = SaysSpan IsAddress IsDecimal version fields span

-- ---- a table by number

abbrev pub by_number : TableFormat Version Span
by_number = record { names = column_names; columns = kinds; Says = IsSpanRecord; InOrder = AreInOrder }

abbrev pub IsTable : Version → List Fields → List Span → Type 0
IsTable version records spans = IsTableIn by_number version records spans

-- The bytes are a table of these spans.
abbrev pub IsTableOf : Version → List ℕ → List Span → Type 0
IsTableOf version bytes spans = IsTableOfIn by_number version bytes spans
