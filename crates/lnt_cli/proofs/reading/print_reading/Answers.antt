use Rattle.lnt_cli.proofs.ReadingLemmas.{conversion_stopped, conversion_told}
use Rattle.lnt_cli.proofs.reading.print_reading.Goals as goal

pub returns-in-Convert-clause-printed : goal.returns-in-Convert-clause-printed
returns-in-Convert-clause-printed g c =
    rw c.in-Convert.is (conversion_told c.args.order c.in-Convert.format c.in-Convert.to (g.R.Source.remaining c.args.source.now)
    (g.W.Write.contents c.args.out.now) (g.W.Write.contents c.print_converted.new.out) c.print_converted.result
    c.print_converted.ensures.done c.print_converted.ensures.no)

pub returns-in-Convert-clause-begun : goal.returns-in-Convert-clause-begun
returns-in-Convert-clause-begun g c =
    rw c.in-Convert.is (conversion_stopped c.args.order c.in-Convert.format c.in-Convert.to (g.R.Source.remaining c.args.source.now)
    (g.W.Write.contents c.args.out.now) (g.W.Write.contents c.print_converted.new.out) c.print_converted.result
    c.print_converted.ensures.begun)
