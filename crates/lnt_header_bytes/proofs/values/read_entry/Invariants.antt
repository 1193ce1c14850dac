use Rattle.lnt_header_bytes.proofs.EntryValueLemmas.{AreKeptTo}
use Rattle.lnt_header_bytes.proofs.values.read_entry.Given as goal

abbrev pub invariant-loop-index : goal.invariant-loop-index
invariant-loop-index g l = AreKeptTo l.fn.format l.fn.pairs l.index (g.K.KeepsValues.has_kept l.fn.keeper l.kept) l.fn.cursor l.cursor
