use Rattle.std.proofs.Common.{rules}
use Rattle.lnt_answers.proofs.sums.status_of.Goals as goal

pub returns-in-Some-Differs : goal.returns-in-Some-Differs
returns-in-Some-Differs c = search rules

pub returns-in-Some-Differs-2 : goal.returns-in-Some-Differs-2
returns-in-Some-Differs-2 c = search rules
