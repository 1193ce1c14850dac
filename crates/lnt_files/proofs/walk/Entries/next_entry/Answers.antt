use Rattle.std.proofs.Common.{◌-◌, subst}
use Rattle.lnt_header_bytes.specs.Borrowed.{BorrowedTable}
use Rattle.lnt_files.specs.Walks.{GivesEntry, left_of}
use Rattle.lnt_files.proofs.WalkLemmas.{in_table, none_in_table, walk_steps, walk_goes_on, walk_never_stops}
use Rattle.lnt_files.proofs.walk.Entries.next_entry.Goals as goal

pub unreachable-requires : goal.unreachable-requires
unreachable-requires c =
    let w = c.self.inside in
    let table = w.table.now in
    walk_never_stops table w.places w.left w.cursor c.if-self-eq0.false c.self.invariant
    (none_in_table table c.format-format.result c.pairs-pairs.result.now w.cursor c.format-format.ensures c.pairs-pairs.ensures
    c.in_default.ensures.err.none)

pub invariant_of-self : goal.invariant_of-self
invariant_of-self c =
    let w = c.self.inside in
    let table = w.table.now in
    walk_goes_on table w.places w.left c.read_entry.new.kept w.cursor c.read_entry.new.cursor c.if-self-eq0.false c.self.invariant
    (in_table table c.format-format.result c.pairs-pairs.result.now w.places c.read_entry.new.kept w.cursor c.read_entry.new.cursor
    c.format-format.ensures c.pairs-pairs.ensures c.self.invariant.places_are c.in-Ok.ensures.ok)

pub returns : goal.returns
returns c =
    let w = c.self.inside in
    let table = w.table.now in
    let new = c.read_entry.new.cursor in
    let given : GivesEntry (left_of table w.left w.cursor) c.read_entry.new.kept (left_of table (w.left - 1) new) =
    walk_steps table w.places w.left c.read_entry.new.kept w.cursor new c.if-self-eq0.false c.self.invariant
    (in_table table c.format-format.result c.pairs-pairs.result.now w.places c.read_entry.new.kept w.cursor new c.format-format.ensures
    c.pairs-pairs.ensures c.self.invariant.places_are c.in-Ok.ensures.ok) in
    subst (λ (t : BorrowedTable). GivesEntry t c.read_entry.new.kept (left_of table (w.left - 1) new)) c.self.view_is given
