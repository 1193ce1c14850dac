use Rattle.lnt_header_bytes.proofs.ViewPutLemmas.{EntriesPut}
use Rattle.lnt_header_bytes.proofs.view_encode.add_entries_view.Given as goal

abbrev pub invariant-loop : goal.invariant-loop
invariant-loop l = EntriesPut l.fn.table l.fn.format l.fn.order l.counter l.cursor l.fn.out.items l.out.items
