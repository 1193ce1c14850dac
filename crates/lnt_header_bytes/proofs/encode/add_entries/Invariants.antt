use Rattle.std.proofs.Common.{take}
use Rattle.lnt_wire.specs.Bytes.{Appends}
use Rattle.lnt_header_bytes.specs.HeaderPuts.{EntryParts}
use Rattle.lnt_header.specs.Joins.{Each}
use Rattle.lnt_header_bytes.proofs.encode.add_entries.Given as goal

abbrev pub invariant-loop-entry : goal.invariant-loop-entry
invariant-loop-entry l = Appends (Each (EntryParts l.fn.format l.fn.order)) (take l.entry-index l.fn.entries) l.fn.out.items l.out.items
