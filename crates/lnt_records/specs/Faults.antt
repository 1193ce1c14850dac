-- What is wrong with a table.
use Rattle.std.specs.Prelude.{◌≡◌, ◌≢◌, ℕ, ◌<◌, List, [], ◌∷◌, ◌++◌, length}
pub use Rattle.lnt_records.specs.declared.fault.TableFault.{TableFault}
use Rattle.lnt_records.specs.declared.fault.TableFault.TheVariants as fault
use Rattle.lnt_records.specs.Table.{BeginsWith, Fields, IsOfColumn, IsTableIn, Kind, TableFormat, by_number}
use Rattle.lnt_records.specs.PathTables.{by_path}

-- ---- one record

-- column i is the first whose field isn't of its kind
pub record IsFaultyColumn (columns : List Kind) (fields : Fields) (i : ℕ) : Type 0 where
  pub there : i < length fields
  pub before : (k : ℕ) → k < i → IsOfColumn columns fields k
  pub faulty : IsOfColumn columns fields i → ⊥

-- After the records of these spans, the record with this number and these fields has this fault.
abbrev pub IsFaultyIn : {V X : Type 0} → TableFormat V X → V → List X → ℕ → Fields → TableFault → Type 0
IsFaultyIn format version spans number fields fault.Header = ⊥
IsFaultyIn format version spans number fields (fault.Fields k) = (k ≡ number) × (length fields ≢ length (format.names version))
IsFaultyIn format version spans number fields (fault.Number k i) =
    (k ≡ number) × (length fields ≡ length (format.names version)) × IsFaultyColumn format.columns fields i
IsFaultyIn {V} {X} format version spans number fields (fault.Order k) =
    (k ≡ number) × (span : X) × format.Says version fields span × (format.InOrder (spans ++ span ∷ []) → ⊥)

-- ---- all records

-- A faulty record after records that are a table.
pub record HasFaultyRecordIn {V X : Type 0} (format : TableFormat V X) (bytes : List ℕ) (told : TableFault) : Type 0 where
  pub version : V
  pub records : List Fields
  pub spans : List X
  pub fields : Fields
  pub begins : BeginsWith bytes (records ++ fields ∷ [])
  pub table : IsTableIn format version records spans
  pub faulty : IsFaultyIn format version spans (length records) fields told

-- This is the first fault of the bytes.
abbrev pub IsFaultIn : {V X : Type 0} → TableFormat V X → List ℕ → TableFault → Type 0
IsFaultIn {V} format bytes fault.Header = (version : V) → BeginsWith bytes (format.names version ∷ []) → ⊥
IsFaultIn format bytes (fault.Fields k) = HasFaultyRecordIn format bytes (fault.Fields k)
IsFaultIn format bytes (fault.Number k i) = HasFaultyRecordIn format bytes (fault.Number k i)
IsFaultIn format bytes (fault.Order k) = HasFaultyRecordIn format bytes (fault.Order k)

-- ---- a table by number

abbrev pub IsFault : List ℕ → TableFault → Type 0
IsFault bytes told = IsFaultIn by_number bytes told

-- The bytes begin with the header of neither version 1 nor 2.
abbrev pub IsUnnumbered : List ℕ → Type 0
IsUnnumbered bytes = IsFault bytes fault.Header

-- ---- what is wrong with a table by path

-- This is the first fault of the bytes.
abbrev pub IsPathFault : List ℕ → TableFault → Type 0
IsPathFault bytes told = IsFaultIn by_path bytes told
