use Rattle.lnt_compare.proofs.PassingLemmas.{left_after}
use Rattle.lnt_compare.proofs.remaining.Remaining.after.Goals as goal

pub returns : goal.returns
returns g c rest left =
    left_after g.S.SpanSource.to_come c.args.first c.args.next c.args.spans c.is_none.result c.is_none.ensures rest left
