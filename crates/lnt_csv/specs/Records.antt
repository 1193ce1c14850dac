-- The records that `csv` reads from some bytes.
use Rattle.std.specs.Prelude.{ℕ, List}
use Rattle.csv.specs.Reading.{AreRecords, Reached, default_config, strip_bom}
use Rattle.csv.specs.declared.parser.State.{State}
use Rattle.csv.specs.declared.parser.State.TheVariants as state

-- A record is a list of fields, and a field is a list of bytes.
abbrev pub Fields : Type 0
Fields = List (List ℕ)

-- these are all records of the bytes
abbrev pub RecordsOf : List ℕ → List Fields → Type 0
RecordsOf bytes records = AreRecords default_config state.StartRecord (strip_bom bytes) records

-- the records of the bytes begin with these
abbrev pub BeginsWith : List ℕ → List Fields → Type 0
BeginsWith bytes records = (after : State) × (rest : List ℕ) × Reached default_config state.StartRecord (strip_bom bytes) records after rest
