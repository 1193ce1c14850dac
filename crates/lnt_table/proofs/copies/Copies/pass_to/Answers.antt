use Rattle.lnt_spans.proofs.DerivedOrder.{at_most_from_not_lt}
use Rattle.lnt_table.proofs.CopiesLemmas.{whole_on}
use Rattle.lnt_table.proofs.copies.Copies.pass_to.Goals as goal

pub returns-else-lt-clause-ready : goal.returns-else-lt-clause-ready
returns-else-lt-clause-ready c selection are =
    whole_on selection c.args.self.now c.args.whole c.args.low are (at_most_from_not_lt c.if-lt.ensures)
