-- Records with more fields than any table has columns, of which only the first are read.
use Rattle.std.specs.Prelude.{◌≡◌, ◌⊎◌, ℕ, ◌<◌, ◌≤◌, [], ◌∷◌, ◌++◌, List, length}
use Rattle.std.specs.List.{AllByRecursion}
use Rattle.lnt_records.specs.Table.{BeginsWith, Fields, RecordsOf}

-- The bytes begin with these.
pub record IsPrefixOf (prefix bytes : List ℕ) : Type 0 where
  pub more : List ℕ
  pub joined : bytes ≡ prefix ++ more

-- The last record of the bytes is such a record.
pub record EndsWide (bytes : List ℕ) : Type 0 where
  pub records : List Fields
  pub last : Fields
  pub all : RecordsOf bytes (records ++ last ∷ [])
  pub wide : 11 < length last

-- A record that was read in the place of another: it is the same, or both are such records.
abbrev pub IsReadAs : Fields → Fields → Type 0
IsReadAs fields whole = (whole ≡ fields) ⊎ (11 < length fields) × (11 < length whole)

abbrev pub IsNarrow : Fields → Type 0
IsNarrow fields = length fields ≤ 11

-- The records of the prefix are those of the bytes, up to such a record if the prefix isn't all of them.
pub record IsReadFor (prefix bytes : List ℕ) : Type 0 where
  pub few : length prefix ≤ length bytes
  pub first : (fields : Fields) → IsNarrow fields → BeginsWith bytes (fields ∷ []) → BeginsWith prefix (fields ∷ [])
  pub begins : (records : List Fields) (fields : Fields) → BeginsWith prefix (records ++ fields ∷ [])
      → (whole : Fields) × IsReadAs fields whole × BeginsWith bytes (records ++ whole ∷ [])
  pub all : (records : List Fields) → RecordsOf prefix records → AllByRecursion IsNarrow records → RecordsOf bytes records
