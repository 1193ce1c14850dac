use Rattle.lnt_spans.proofs.FinishLemmas.{right_answered}
use Rattle.lnt_spans.proofs.merge.Merge.finish_answered.Goals as goal

pub returns : goal.returns
returns g c tell spans by_table m =
    right_answered g.S.SpanSource.to_come tell g.T.Telling.value_of c.args.self spans by_table c.count_left-missed.result c.sum.result
    c.in_default.is c.count_left-missed.ensures c.sum.ensures m
