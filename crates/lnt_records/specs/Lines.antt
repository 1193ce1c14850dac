-- A table that is parsed line by line. Public contracts speak of the line of a span alone.
use Rattle.std.specs.Prelude.{◌≡◌, ℕ, Bool, false, List, [], ◌∷◌, ◌++◌, Option, Some, None, decimal}
use Rattle.std.specs.Fmt.{digits}
use Rattle.lnt_text.specs.Digits.{Begins, IsAddress, IsDecimal, IsPlainAddress, IsPlainDecimal}
use Rattle.lnt_spans.specs.declared.answer.Answer.{Answer}
use Rattle.lnt_spans.specs.declared.answer.More.{More}
use Rattle.lnt_spans.specs.declared.answer.Version.{Version}
use Rattle.lnt_spans.specs.declared.answer.Version.TheVariants.{One, Two}
use Rattle.lnt_spans.specs.declared.position.Position.{Position}
use Rattle.lnt_spans.specs.declared.span.Span.{Span}
use Rattle.lnt_records.specs.Table.{Fields, IsFlag, SaysSpan}
use Rattle.lnt_records.specs.Written.{following, line_text}

-- ---- what the bytes begin with, and what is after it

-- the two fields of a position, each with a comma after it, in these encodings of addresses and numbers; then `rest`
pub record IsPosition (Address Number : List ℕ → ℕ → Type 0) (position : Position) (bytes rest : List ℕ) : Type 0 where
  pub address : List ℕ
  pub op : List ℕ
  pub joined : bytes ≡ address ++ 44 ∷ (op ++ 44 ∷ rest)
  pub address_is : Address address position.address
  pub op_is : Number op position.op

-- those fields without leading zeros
abbrev pub position_fields : Position → List ℕ
position_fields position = 48 ∷ 120 ∷ digits 16 false position.address ++ 44 ∷ (decimal position.op ++ 44 ∷ [])

-- the fields of a unit and a file, each with a comma after it; then `rest`
pub record AreUnitAndFile (Number : List ℕ → ℕ → Type 0) (unit file : ℕ) (bytes rest : List ℕ) : Type 0 where
  pub later : List ℕ
  pub unit_is : Begins Number bytes unit 44 later
  pub file_is : Begins Number later file 44 rest

-- those fields without leading zeros
abbrev pub unit_and_file : ℕ → ℕ → List ℕ
unit_and_file unit file = decimal unit ++ 44 ∷ (decimal file ++ 44 ∷ [])

-- 0 or 1, then `rest`
pub record IsFlagBefore (on : Bool) (bytes rest : List ℕ) : Type 0 where
  pub text : List ℕ
  pub joined : bytes ≡ text ++ rest
  pub text_is : IsFlag text on

-- the fields for what only version 2 has
abbrev pub AreMoreFields : (List ℕ → ℕ → Type 0) → Version → Fields → Option More → Type 0
AreMoreFields Number One fields more = (fields ≡ []) × (more ≡ None)
AreMoreFields Number Two fields None = ⊥
AreMoreFields Number Two fields (Some more) =
    (isa : List ℕ) × (discriminator : List ℕ) × (fields ≡ isa ∷ discriminator ∷ []) × Number isa more.isa
    × Number discriminator more.discriminator

-- those fields, each with a comma before it, and a line feed; then `rest`
pub record IsMore (Number : List ℕ → ℕ → Type 0) (version : Version) (more : Option More) (bytes rest : List ℕ) : Type 0 where
  pub fields : Fields
  pub joined : bytes ≡ following fields ++ 10 ∷ rest
  pub fields_are : AreMoreFields Number version fields more

-- the fields of an answer, separated by commas, and a line feed; then `rest`
pub record IsAnswer (Number : List ℕ → ℕ → Type 0) (version : Version) (answer : Answer) (bytes rest : List ℕ) : Type 0 where
  pub unit : List ℕ
  pub file : List ℕ
  pub line : List ℕ
  pub column : List ℕ
  pub is_stmt : List ℕ
  pub more : Fields
  pub joined : 44 ∷ bytes ≡ following (unit ∷ file ∷ line ∷ column ∷ is_stmt ∷ more) ++ 10 ∷ rest
  pub unit_is : Number unit answer.unit
  pub file_is : Number file answer.file
  pub line_is : Number line answer.line
  pub column_is : Number column answer.column
  pub is_stmt_is : IsFlag is_stmt answer.is_stmt
  pub more_are : AreMoreFields Number version more answer.more

-- the line of a span in these encodings, then `rest`
pub record SaysLine (Address Number : List ℕ → ℕ → Type 0) (version : Version) (span : Span) (bytes rest : List ℕ) : Type 0 where
  pub fields : Fields
  pub joined : bytes ≡ line_text fields ++ rest
  pub says : SaysSpan Address Number version fields span

-- the line of a span in any encoding, then `rest`
abbrev pub IsTextLine : Version → Span → List ℕ → List ℕ → Type 0
IsTextLine version span bytes rest = SaysLine IsAddress IsDecimal version span bytes rest

-- the line of a span without leading zeros and with letters in lower case, then `rest`
abbrev pub IsPlainLine : Version → Span → List ℕ → List ℕ → Type 0
IsPlainLine version span bytes rest = SaysLine IsPlainAddress IsPlainDecimal version span bytes rest
