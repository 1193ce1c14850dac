use Rattle.std.proofs.Common.{inr}
use Rattle.lnt_symbols.proofs.GsymLemmas.{spans_begun, spans_table}
use Rattle.lnt_symbols.proofs.gsym.print_spans.Goals as goal

pub returns-in-Ok-clause-table : goal.returns-in-Ok-clause-table
returns-in-Ok-clause-table g c = λ gsym has.
    spans_table _ c.args.names.now gsym (g.W.Write.contents c.args.out.now)
    (g.W.Write.contents c.write_instructions_by_path.new.out) (c.of.ensures gsym has) c.in-Ok.ensures.table

pub returns-in-Err-clause-begun : goal.returns-in-Err-clause-begun
returns-in-Err-clause-begun g c = λ gsym has.
    inr (spans_begun _ c.args.names.now gsym (g.W.Write.contents c.args.out.now)
    (g.W.Write.contents c.write_instructions_by_path.new.out) (c.of.ensures gsym has) c.in-Err.ensures.begun)
