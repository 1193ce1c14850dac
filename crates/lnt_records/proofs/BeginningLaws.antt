-- What the bytes of a table begin with.
use Rattle.std.proofs.Common.{ℕ, List, [], ◌∷◌, ◌++◌, subst}
use Rattle.lnt_csv.proofs.RecordLaws.{first_begins, records_begin}
pub use Rattle.lnt_csv.proofs.RecordLaws.{one_beginning}
use Rattle.lnt_records.specs.Faults.{HasFaultyRecordIn, TableFault}
use Rattle.lnt_records.specs.Table.{BeginsWith, Fields, IsTableIn, IsTableOfIn, RecordsOf, TableFormat}

-- A table begins with the header of its version.
pub table_begins : {V X : Type 0} (format : TableFormat V X) (bytes : List ℕ) (version : V) (spans : List X)
    → IsTableOfIn format version bytes spans → BeginsWith bytes (format.names version ∷ [])
table_begins format bytes version spans table = by table.0 table.1 table.2
  where
    by : (records : List Fields) → RecordsOf bytes records → IsTableIn format version records spans
        → BeginsWith bytes (format.names version ∷ [])
    by [] r t = absurd t
    by (first ∷ records) r t = subst (λ (f : Fields). BeginsWith bytes (f ∷ [])) t.0 (records_begin bytes first records r)

-- Bytes with a faulty record begin with a header too.
pub faulty_begins : {V X : Type 0} (format : TableFormat V X) (bytes : List ℕ) (told : TableFault)
    → (h : HasFaultyRecordIn format bytes told) → BeginsWith bytes (format.names h.version ∷ [])
faulty_begins format bytes told h = by h.records h.begins h.table
  where
    by : (records : List Fields) → BeginsWith bytes (records ++ h.fields ∷ []) → IsTableIn format h.version records h.spans
        → BeginsWith bytes (format.names h.version ∷ [])
    by [] b t = absurd t
    by (first ∷ records) b t = subst (λ (f : Fields). BeginsWith bytes (f ∷ [])) t.0 (first_begins bytes first (records ++ h.fields ∷ []) b)
