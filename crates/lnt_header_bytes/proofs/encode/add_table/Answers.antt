use Rattle.std.proofs.Common.{rules, arith}
use Rattle.std.proofs.lemmas.Grind.{elements}
use Rattle.lnt_header_bytes.proofs.EncodeLemmas.{table_put}
use Rattle.lnt_header_bytes.proofs.encode.add_table.Goals as goal

pub returns-in-Held-clause-ok : goal.returns-in-Held-clause-ok
returns-in-Held-clause-ok c = search (rules, table_put)

pub returns-in-InPlace-clause-ok : goal.returns-in-InPlace-clause-ok
returns-in-InPlace-clause-ok c = search (rules, table_put)

pub add_entries-requires : goal.add_entries-requires
add_entries-requires c = grind (arith, elements)
