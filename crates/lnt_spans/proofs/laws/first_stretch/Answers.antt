use Rattle.std.proofs.Common.{rules}
use Rattle.lnt_spans.proofs.StretchLemmas.{first_stretch}
use Rattle.lnt_spans.proofs.laws.first_stretch.Goals as goal

pub returns : goal.returns
returns c = search (rules, first_stretch)
