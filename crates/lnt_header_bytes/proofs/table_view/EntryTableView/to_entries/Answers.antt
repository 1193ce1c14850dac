use Rattle.std.proofs.Common.{◌≡◌, ◌∙◌, sym, ap, subst, length, ℕ}
use Rattle.lnt_wire.specs.Reading.{Reads}
use Rattle.lnt_header_bytes.specs.Borrowed.{BorrowedTable, borrowed_table}
use Rattle.lnt_header.specs.Joins.{Several}
use Rattle.lnt_header_bytes.proofs.BorrowedLaws.{length_found}
use Rattle.lnt_header_bytes.specs.TableBytes.{EntryBytes}
use Rattle.lnt_header_bytes.proofs.ViewLemmas.{entries_are, entries_there}
use Rattle.lnt_header_bytes.proofs.table_view.EntryTableView.to_entries.Goals as goal

pub returns-in-Ok : goal.returns-in-Ok
returns-in-Ok c =
    let t = c.self.inside in
    let table : BorrowedTable = borrowed_table t.format t.order t.pairs.now t.entries.count t.entries.bytes.now in
    let count : t.entries.count ≡ length table.entries =
    sym (length_found t.format t.order t.pairs.now t.entries.count t.entries.bytes.now) in
    let old = c.cursor.result in
    let lies = rw (← c.self.view_is) at c.cursor.ensures.rest in
    let same = rw (← c.self.view_is) at c.cursor.ensures.order in
    let read : Reads (Several (length table.entries) (EntryBytes t.format old.order t.pairs.now)) c.in-Ok.entries.items old
    c.read_entries.new.cursor =
    subst (λ (n : ℕ). Reads (Several n (EntryBytes t.format old.order t.pairs.now)) c.in-Ok.entries.items old c.read_entries.new.cursor)
    count c.in-Ok.ensures.ok in
    entries_are table c.in-Ok.entries.items old c.read_entries.new.cursor same lies read
    ∙ ap (λ (b : BorrowedTable). b.entries) c.self.view_is

pub unreachable-requires : goal.unreachable-requires
unreachable-requires c =
    let t = c.self.inside in
    let table : BorrowedTable = borrowed_table t.format t.order t.pairs.now t.entries.count t.entries.bytes.now in
    let count : t.entries.count ≡ length table.entries =
    sym (length_found t.format t.order t.pairs.now t.entries.count t.entries.bytes.now) in
    let lies = rw (← c.self.view_is) at c.cursor.ensures.rest in
    let same = rw (← c.self.view_is) at c.cursor.ensures.order in
    entries_there table t.entries.count c.cursor.result count same lies (c.in-Err.ensures.err c.in_default.not-Memory).none
