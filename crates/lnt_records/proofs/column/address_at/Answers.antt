use Rattle.lnt_records.proofs.ColumnLemmas.{no_address}
use Rattle.lnt_records.proofs.column.address_at.Goals as goal

pub returns-in-None-clause-err : goal.returns-in-None-clause-err
returns-in-None-clause-err g c = no_address _ _ _ c.requires.there c.requires.kind c.requires.before
    (rw c.field.ensures at c.in-None.ensures)
