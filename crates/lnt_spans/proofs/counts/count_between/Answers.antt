use Rattle.std.proofs.Common.{◌∙◌}
use Rattle.lnt_spans.proofs.CountLemmas.{counted_between}
use Rattle.lnt_spans.proofs.counts.count_between.Goals as goal

pub returns-clause-count : goal.returns-clause-count
returns-clause-count c =
    c.saturating_sub.ensures
    ∙ counted_between c.args.low c.args.high c.first_from-2.result c.first_from.result
    (record { at = c.first_from-2.ensures.from; under = c.first_from-2.ensures.below })
    (record { at = c.first_from.ensures.from; under = c.first_from.ensures.below }) c.first_from.ensures.bound
