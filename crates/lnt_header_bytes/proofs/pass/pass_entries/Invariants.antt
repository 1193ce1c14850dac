use Rattle.lnt_header_bytes.proofs.PassLemmas.{EntriesPassed}
use Rattle.lnt_header_bytes.proofs.pass.pass_entries.Given as goal

abbrev pub invariant-loop : goal.invariant-loop
invariant-loop l = EntriesPassed l.fn.format l.fn.pairs l.counter l.fn.cursor l.cursor
