use Rattle.lnt_spans.specs.Differences.{stretch_of, stretches_of}
use Rattle.lnt_spans.proofs.differences.Differences.stretch_end.Goals as goal

pub returns-clause-end : goal.returns-clause-end
returns-clause-end g c f f' given last h going = c.in-Ok.ensures.end f f' (stretches_of given) (stretch_of last) h going
