use Rattle.std.proofs.Common.{rules}
use Rattle.lnt_spans.proofs.search.Probes.count.Goals as goal

pub returns : goal.returns
returns c = search rules
