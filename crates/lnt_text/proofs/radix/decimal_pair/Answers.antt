use Rattle.lnt_text.proofs.PairLemmas.{first_of_pair, second_of_pair}
use Rattle.lnt_text.proofs.radix.decimal_pair.Goals as goal

pub returns-clause-first : goal.returns-clause-first
returns-clause-first c = first_of_pair 10 100 c.args.value c.requires

pub returns-clause-second : goal.returns-clause-second
returns-clause-second c = second_of_pair 10 100 c.args.value c.requires
