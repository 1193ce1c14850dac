use Rattle.std.proofs.Common.{◌++◌}
use Rattle.lnt_symbols.proofs.SourceLemmas.{err_if_some, ok_if_some}
use Rattle.lnt_symbols.proofs.breakpad.print.print_breakpad.Goals as goal

pub returns-clause-printed : goal.returns-clause-printed
returns-clause-printed g c = ok_if_some c.print_read.result (g.R.Source.remaining c.args.file.now) _ (λ more e.
    c.print_read.ensures.printed (c.args.window ++ more) (rw e at c.read_file.ensures.ok) (rw e at c.read_file.ensures.err))

pub returns-clause-begun : goal.returns-clause-begun
returns-clause-begun g c = err_if_some c.print_read.result (g.R.Source.remaining c.args.file.now) _ _ (λ more e.
    c.print_read.ensures.begun (c.args.window ++ more) (rw e at c.read_file.ensures.ok) (rw e at c.read_file.ensures.err))
