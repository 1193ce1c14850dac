use Rattle.lnt_io.proofs.PrefixLaws.{prefix_none, so_stopped}
use Rattle.lnt_dump.proofs.Headers.{directories_cut}
use Rattle.lnt_dump.proofs.header.print_header.Goals as goal

pub returns-in_err-put_numbers-clause-prefix : goal.returns-in_err-put_numbers-clause-prefix
returns-in_err-put_numbers-clause-prefix g c = so_stopped c.from_residual.result _ (prefix_none (g.W.Write.contents c.args.out.now) _)

pub returns-in_err-print_entries-clause-prefix : goal.returns-in_err-print_entries-clause-prefix
returns-in_err-print_entries-clause-prefix g c =
    so_stopped c.from_residual-in_err-print_entries.result _
    (directories_cut c.args.frame.now c.args.header.now _ c.directories.result.now c.args.page.now.items c.put_numbers.new.text.items
    c.numbers.ensures.numbers c.directories.ensures.pairs c.directories.ensures.entries c.in_ok-put_numbers.ensures.ok
    c.in_err-print_entries.ensures.prefix)
