-- The fields that header_length counts, as they are read one after another. No public contract speaks of these: `HeaderFieldsBytes`
-- has the same fields.
use Rattle.std.specs.Prelude.{ℕ, List, true}
use Rattle.lnt_wire.specs.declared.format.Format.{Format}
use Rattle.lnt_wire.specs.declared.format.Order.{Order}
use Rattle.lnt_header.specs.Joins.{Both}
use Rattle.lnt_header.specs.declared.header.Entry.{Entry}
use Rattle.lnt_header.specs.declared.header.Pair.{Pair}
use Rattle.lnt_header_bytes.specs.TableBytes.{TableOf}
use Rattle.lnt_header_bytes.specs.HeaderFaults.{SinglesBytes, LengthsBytes, Singles}

abbrev pub Table : Type 0
Table = List Pair × List Entry

abbrev pub TwoTables : Format → Order → Table × Table → List ℕ → Type 0
TwoTables format order v bytes = Both (TableOf format order) (λ _. TableOf format order) v bytes

abbrev pub AfterLengths : Format → Order → List ℕ → Table × Table → List ℕ → Type 0
AfterLengths format order lengths v bytes = TwoTables format order v bytes

abbrev pub AfterSingles : Format → Order → Singles → List ℕ × (Table × Table) → List ℕ → Type 0
AfterSingles format order s v bytes = Both (LengthsBytes s.opcode_base) (AfterLengths format order) v bytes

-- six fields of one byte, the standard opcode lengths, the directories and the files
abbrev pub FieldsBytes : Format → Order → Singles × (List ℕ × (Table × Table)) → List ℕ → Type 0
FieldsBytes format order v bytes = Both (SinglesBytes true) (AfterSingles format order) v bytes
