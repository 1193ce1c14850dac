-- The lines of a table by path. `tell` gives an answer by path.
use Rattle.std.specs.Prelude.{ℕ, List, ◌≡◌, false, [], ◌∷◌, ◌++◌, Option, Some, None, All}
use Rattle.csv.specs.Writing.{default_writer, field_text, needs_byte, row_text}
use Rattle.lnt_text.specs.Digits.{IsAddress, IsDecimal, IsPlainAddress, IsPlainDecimal, Begins}
use Rattle.lnt_records.specs.Table.{Fields}
use Rattle.lnt_records.specs.Written.{IsPlainTableIn, LineFormat}
use Rattle.lnt_records.specs.PathSpans.{PathSpan, PathAnswer}
use Rattle.lnt_records.specs.PathTables.{SaysPath, SaysPathSpan, path_column_names, PathVersion, record_answer}
use Rattle.lnt_spans.specs.declared.answer.Answer.{Answer}
use Rattle.lnt_spans.specs.declared.span.Span.{Span}
use Rattle.lnt_records.specs.declared.path_records.fields.PathFields.{PathFields}
use Rattle.lnt_records.specs.declared.path_records.version.PathVersion.TheVariants.{Four, Three}
use Rattle.lnt_records.specs.KeptPaths.{ArePairsOf, AreSummed, AreTextsOf}
use Rattle.lnt_records.specs.declared.path_records.record.PathRecord.{PathRecord}

-- A record of the span without leading zeros and with letters in lower case.
abbrev pub IsPlainPathRecord : PathVersion → Fields → PathSpan → Type 0
IsPlainPathRecord version fields span = SaysPathSpan IsPlainAddress IsPlainDecimal version fields span

-- Records are lines as `csv` writes them: with a field in quotes only if it needs them.
abbrev pub plain_by_path : LineFormat PathVersion PathSpan
plain_by_path = record { names = path_column_names; line = row_text default_writer; Says = IsPlainPathRecord }

abbrev pub IsPlainPathTable : PathVersion → List ℕ → List PathSpan → Type 0
IsPlainPathTable version bytes spans = IsPlainTableIn plain_by_path version bytes spans

-- the path of a file as a field that `csv` writes, and a comma
abbrev pub field_with_comma : List ℕ → List ℕ
field_with_comma path = field_text default_writer path ++ 44 ∷ []

-- a byte that doesn't force its field into quotes
pub record IsPlainByte (byte : ℕ) : Type 0 where
  pub needs_none : needs_byte default_writer byte ≡ false

-- the same of each file of each unit
abbrev pub path_field : (ℕ → ℕ → List ℕ) → ℕ → ℕ → List ℕ
path_field path unit file = field_with_comma (path unit file)

-- Every field and sum is that of its file, and it is remembered correctly which files have the same path, if these are the paths of files.
pub record AreFieldsOf (path : ℕ → ℕ → List ℕ) (fields : PathFields) : Type 0 where
  pub texts : AreTextsOf (path_field path) fields.texts
  pub sums : AreSummed (path_field path) fields.sums.tree
  pub pairs : ArePairsOf path fields.alike.pairs.items

-- the lines of spans, with only the addresses of their positions
abbrev pub plain_told : (Answer → PathAnswer) → LineFormat PathVersion Span
plain_told tell = record {
  names = path_column_names;
  line = row_text default_writer;
  Says = λ version fields span.
      SaysPath IsPlainAddress IsPlainDecimal version fields span.low.address span.high.address (tell span.answer);
}

-- the line in the file, in version 3 a comma and the column, and a line feed; then `rest`
abbrev pub IsPlace : (List ℕ → ℕ → Type 0) → PathVersion → ℕ → Option ℕ → List ℕ → List ℕ → Type 0
IsPlace Decimal Three line None bytes rest = ⊥
IsPlace Decimal Three line (Some column) bytes rest =
    (middle : List ℕ) × Begins Decimal bytes line 44 middle × Begins Decimal middle column 10 rest
IsPlace Decimal Four line column bytes rest = (column ≡ None) × Begins Decimal bytes line 10 rest

-- a line, as `csv` writes it, with these addresses and this answer, whose numbers are spelled so; then `rest`
pub record IsLineOf (Address Decimal : List ℕ → ℕ → Type 0) (version : PathVersion) (low high : ℕ) (answer : PathAnswer)
    (bytes rest : List ℕ) : Type 0 where
  pub fields : Fields
  pub joined : bytes ≡ row_text default_writer fields ++ rest
  pub says : SaysPath Address Decimal version fields low high answer

-- the line of a span, as it is written, with only the addresses of its positions; then `rest`
abbrev pub IsSpanLine : (Answer → PathAnswer) → PathVersion → Span → List ℕ → List ℕ → Type 0
IsSpanLine tell version span = IsLineOf IsPlainAddress IsPlainDecimal version span.low.address span.high.address (tell span.answer)

-- ---- one line

-- a path that needs no quotes and a comma, then `rest`
pub record IsPathBefore (path bytes rest : List ℕ) : Type 0 where
  pub joined : bytes ≡ path ++ 44 ∷ rest
  pub plain : All IsPlainByte path

-- the line of a record; then `rest`
abbrev pub IsPathLine : PathVersion → PathRecord → List ℕ → List ℕ → Type 0
IsPathLine version said = IsLineOf IsAddress IsDecimal version said.low said.high (record_answer said)
