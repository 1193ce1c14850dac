use Rattle.std.specs.Prelude.{◌-◌}
use Rattle.lnt_header_bytes.specs.Borrowed.{borrowed_table}
use Rattle.lnt_header_bytes.specs.Marks.{AreMarks}
use Rattle.lnt_header_bytes.proofs.MarkLemmas.{StandsAt}
use Rattle.lnt_header_bytes.proofs.marks.marks_of.Given as goal

abbrev pub invariant-loop-number : goal.invariant-loop-number
invariant-loop-number l =
    AreMarks (borrowed_table l.fn.format l.fn.order l.fn.pairs l.fn.entries.count l.fn.entries.bytes.now)
    l.fn.entries.bytes.now l.marks.items
    × StandsAt (borrowed_table l.fn.format l.fn.order l.fn.pairs l.fn.entries.count l.fn.entries.bytes.now)
    l.fn.entries.bytes.now (l.number - 1) l.cursor
