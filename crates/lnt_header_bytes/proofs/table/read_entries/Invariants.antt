use Rattle.std.proofs.Common.{◌≡◌, length}
use Rattle.lnt_header.specs.Joins.{Each}
use Rattle.lnt_wire.specs.Reading.{Reads}
use Rattle.lnt_header_bytes.specs.TableBytes.{EntryBytes}
use Rattle.lnt_header_bytes.proofs.table.read_entries.Given as goal

abbrev pub invariant-loop : goal.invariant-loop
invariant-loop l = (length l.entries.items ≡ l.counter)
    × Reads (Each (EntryBytes l.fn.format l.fn.cursor.order l.fn.pairs)) l.entries.items l.fn.cursor l.cursor
