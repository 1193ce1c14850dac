use Rattle.lnt_symbols.proofs.GsymLemmas.{printed_fault}
use Rattle.lnt_symbols.proofs.gsym.print_gsym.Goals as goal

pub returns-in_ok-print_line-in-Err-clause-printed : goal.returns-in_ok-print_line-in-Err-clause-printed
returns-in_ok-print_line-in-Err-clause-printed g c = printed_fault c.args.order c.args.bytes.now c.in-Err.fault
    (g.W.Write.contents c.args.out.now) (g.W.Write.contents c.print_line.new.out) c.in-Err.ensures c.in_ok-print_line-in-Err.ensures.line
