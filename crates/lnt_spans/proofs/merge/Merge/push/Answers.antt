use Rattle.std.proofs.Common.{refl}
use Rattle.lnt_spans.proofs.MergedLemmas.{merged_more, merged_still}
use Rattle.lnt_spans.proofs.merge.Merge.push.Goals as goal

pub returns-then-is_some-clause-merged : goal.returns-then-is_some-clause-merged
returns-then-is_some-clause-merged g c spans by_table by_more m more =
    merged_still g.S.SpanSource.to_come (g.T.Telling.tell c.args.telling.now) g.T.Telling.value_of c.args.self.now _ spans by_table by_more
    c.args.low c.args.high (g.T.Telling.said c.args.held) c.if-is_some.ensures refl refl refl c.requires.past c.requires.holds
    c.add_between.ensures more m

pub returns-clause-merged : goal.returns-clause-merged
returns-clause-merged g c spans by_table by_more m more =
    merged_more g.S.SpanSource.to_come (g.T.Telling.tell c.args.telling.now) g.T.Telling.value_of c.args.self.now _ _ spans by_table by_more
    c.args.low c.args.high (g.T.Telling.said c.args.held) c.if-is_some.ensures refl c.requires.past c.requires.holds c.add_between.ensures
    c.in_ok-pass_gap.ensures c.in_ok-self.ensures.mistaken more m
