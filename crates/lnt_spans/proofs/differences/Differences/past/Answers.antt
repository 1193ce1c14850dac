use Rattle.lnt_spans.proofs.StretchLemmas.{noted_after}
use Rattle.lnt_spans.proofs.differences.Differences.past.Goals as goal

pub returns : goal.returns
returns g c by_section passed spans records coming coming' order order' told end counted same =
    noted_after g.S.SpanSource.to_come g.T.SpanSource.to_come c.args.section c.of.result c.args.version c.args.at c.args.answered
    c.past.result by_section passed spans records c.past.ensures coming (c.of.ensures records coming') order order' told end counted same
