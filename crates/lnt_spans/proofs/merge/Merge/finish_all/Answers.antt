use Rattle.std.proofs.Common.{◌∙◌, sym}
use Rattle.lnt_spans.proofs.FinishLemmas.{first_ahead}
use Rattle.lnt_spans.proofs.merge.Merge.finish_all.Goals as goal

pub returns-in-Some-next : goal.returns-in-Some-next
returns-in-Some-next g c spans by_table m =
    first_ahead g.S.SpanSource.to_come (g.T.Telling.tell c.args.telling.now) g.T.Telling.value_of c.args.self spans by_table
    c.in-Some-next.span c.in_ok-first.first (sym c.or.ensures ∙ c.in_default.is) c.in-Some-next.is c.in_ok-first.ensures m
