-- What the laws of tables of any format say.
use Rattle.std.specs.Prelude.{◌≡◌, ℕ, List}
use Rattle.lnt_records.specs.Faults.{IsFaultIn, TableFault}
use Rattle.lnt_records.specs.Table.{IsTableOfIn, TableFormat}

-- Bytes are a table of at most one version and one list of spans.
abbrev pub OneTable : {V X : Type 0} → TableFormat V X → Type 0
OneTable {V} {X} format = (bytes : List ℕ) (v w : V) (xs ys : List X) → IsTableOfIn format v bytes xs → IsTableOfIn format w bytes ys
    → (v ≡ w) × (xs ≡ ys)

-- Bytes that are a table have no fault.
abbrev pub NoFault : {V X : Type 0} → TableFormat V X → Type 0
NoFault {V} {X} format = (bytes : List ℕ) (version : V) (spans : List X) (told : TableFault) → IsTableOfIn format version bytes spans
    → IsFaultIn format bytes told → ⊥

-- At most one fault is the first of the bytes.
abbrev pub OneFault : {V X : Type 0} → TableFormat V X → Type 0
OneFault format = (bytes : List ℕ) (told other : TableFault) → IsFaultIn format bytes told → IsFaultIn format bytes other → told ≡ other
