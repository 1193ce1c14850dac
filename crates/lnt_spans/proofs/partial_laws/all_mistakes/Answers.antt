use Rattle.lnt_spans.proofs.PartialLemmas.{all_mistakes}
use Rattle.lnt_spans.proofs.partial_laws.all_mistakes.Goals as goal

pub returns : goal.returns
returns g c by_table by_section stretches = all_mistakes by_table by_section stretches
