-- How far a record was read, and how far lines were written.
use Rattle.std.specs.Prelude.{◌≡◌, ℕ, ◌+◌, List, ◌∷◌, ◌++◌, length, ◌≢◌, ◌<◌, [], Option, Some, None, get_or}
use Rattle.std.specs.List.{AllZip}
use Rattle.csv.specs.Reading.{Reached, default_config, strip_bom}
use Rattle.csv.specs.declared.parser.State.{State}
use Rattle.csv.specs.declared.parser.State.TheVariants as state
use Rattle.lnt_records.specs.Table.{Fields, TableFormat, AreMore, IsFlag, IsOfColumn, Kind, text}
use Rattle.lnt_records.specs.Written.{LineFormat, lines_of}
use Rattle.std.specs.Io.KnownBytes.{Appends}
use Rattle.lnt_text.specs.Digits.{IsAddress, IsDecimal}
use Rattle.lnt_io.specs.Prefixes.{AppendsPrefix}
use Rattle.lnt_spans.specs.declared.answer.Answer.{Answer}
use Rattle.lnt_spans.specs.declared.answer.Version.{Version}
use Rattle.lnt_spans.specs.declared.position.Position.{Position}
use Rattle.lnt_records.specs.declared.fault.TableFault.TheVariants as fault
use Rattle.lnt_records.specs.declared.record.RecordFault.{RecordFault}
use Rattle.lnt_records.specs.declared.record.RecordFault.TheVariants as record_fault
use Rattle.lnt_records.specs.declared.taking.TakeFault.{TakeFault}
use Rattle.lnt_records.specs.declared.taking.TakeFault.TheVariants as take_fault
use Rattle.lnt_records.specs.Faults.{IsFaultyColumn, TableFault}

-- ---- lines of a table that were passed

-- These lines are the records of these spans, and `count` is their number with the header.
pub record AreLinesIn {V X : Type 0} (format : TableFormat V X) (plain : LineFormat V X) (version : V) (text : List ℕ) (spans : List X)
    (count : ℕ) : Type 0 where
  pub records : List Fields
  pub text_is : text ≡ lines_of plain.line records
  pub each : AllZip (format.Says version) records spans
  pub count_is : count ≡ length records + 1

-- ---- a text with the lines that were passed cut out

-- Whatever records `csv` reads from the lines after their first one, `first`, it also reads from the bytes after those in `passed`.
abbrev pub IsCutAfter : Fields → List ℕ → List ℕ → List Fields → Type 0
IsCutAfter first lines bytes passed = (more : List Fields) (after : State) (rest : List ℕ)
    → Reached default_config state.StartRecord (strip_bom lines) (first ∷ more) after rest
    → Reached default_config state.StartRecord (strip_bom bytes) (passed ++ more) after rest

-- ---- one record

abbrev pub IsColumnOf : List Kind → Kind → ℕ → Type 0
IsColumnOf columns kind i = get_or columns i text ≡ kind

-- each field before column i is of its column's kind
abbrev pub AreSoundBefore : List Kind → Fields → ℕ → Type 0
AreSoundBefore columns fields i = (k : ℕ) → k < i → IsOfColumn columns fields k

-- the fault names the first column whose field isn't of its kind
abbrev pub IsColumnFault : List Kind → Fields → RecordFault → Type 0
IsColumnFault columns fields record_fault.Fields = ⊥
IsColumnFault columns fields (record_fault.Number i) = IsFaultyColumn columns fields i

-- either that, or the number of the record's fields isn't that of the columns
abbrev pub IsRecordFault : List Kind → ℕ → Fields → RecordFault → Type 0
IsRecordFault columns count fields record_fault.Fields = length fields ≢ count
IsRecordFault columns count fields (record_fault.Number i) = (length fields ≡ count) × IsFaultyColumn columns fields i

-- the fault of a table, if the record has this number
abbrev pub fault_at : ℕ → RecordFault → TableFault
fault_at number record_fault.Fields = fault.Fields number
fault_at number (record_fault.Number i) = fault.Number number i

-- the same for a record that wasn't taken: none if memory ran out
abbrev pub numbered_fault : ℕ → TakeFault → Option TableFault
numbered_fault number take_fault.Memory = None
numbered_fault number (take_fault.Record found) = Some (fault_at number found)
numbered_fault number take_fault.Order = Some (fault.Order number)

-- the position in columns i and i + 1
pub record SaysPosition (fields : Fields) (i : ℕ) (position : Position) : Type 0 where
  pub address : IsAddress (get_or fields i []) position.address
  pub op : IsDecimal (get_or fields (i + 1) []) position.op

-- the answer in the columns after the positions
pub record SaysAnswer (version : Version) (fields : Fields) (answer : Answer) : Type 0 where
  pub unit : IsDecimal (get_or fields 4 []) answer.unit
  pub file : IsDecimal (get_or fields 5 []) answer.file
  pub line : IsDecimal (get_or fields 6 []) answer.line
  pub column : IsDecimal (get_or fields 7 []) answer.column
  pub is_stmt : IsFlag (get_or fields 8 []) answer.is_stmt
  pub more : AreMore IsDecimal version fields answer.more

-- ---- lines that are added

-- The line of the span was appended.
pub record AddsLine {V X : Type 0} (plain : LineFormat V X) (version : V) (span : X) (old new : List ℕ) : Type 0 where
  pub fields : Fields
  pub joined : new ≡ old ++ plain.line fields
  pub says : plain.Says version fields span

-- A line for each of the spans was appended.
pub record AddsLines {V X : Type 0} (plain : LineFormat V X) (version : V) (spans : List X) (old new : List ℕ) : Type 0 where
  pub records : List Fields
  pub joined : new ≡ old ++ lines_of plain.line records
  pub each : AllZip (plain.Says version) records spans

-- What was written is the header, and a line for each of these spans.
pub record HasWrittenLines {V X : Type 0} (plain : LineFormat V X) (version : V) (old new : Option (List ℕ)) (spans : List X) : Type 0 where
  pub records : List Fields
  pub written : Appends old new (lines_of plain.line (plain.names version ∷ records))
  pub each : AllZip (plain.Says version) records spans

-- The writer stopped, and a prefix of the header and the lines of these spans has been written.
pub record HasBegunLines {V X : Type 0} (plain : LineFormat V X) (version : V) (old new : Option (List ℕ)) (spans : List X) : Type 0 where
  pub records : List Fields
  pub prefix : AppendsPrefix old new (lines_of plain.line (plain.names version ∷ records))
  pub each : AllZip (plain.Says version) records spans
