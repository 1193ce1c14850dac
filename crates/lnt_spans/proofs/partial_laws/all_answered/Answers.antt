use Rattle.lnt_spans.proofs.PartialLemmas.{all_answered}
use Rattle.lnt_spans.proofs.partial_laws.all_answered.Goals as goal

pub returns : goal.returns
returns g c by_table by_section of_both of_section = all_answered by_table by_section of_both of_section
