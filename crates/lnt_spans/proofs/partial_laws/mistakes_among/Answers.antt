use Rattle.lnt_spans.proofs.AmongLemmas.{mistakes_among}
use Rattle.lnt_spans.proofs.partial_laws.mistakes_among.Goals as goal

pub returns : goal.returns
returns g c by_table by_section stretches = mistakes_among by_table by_section stretches
