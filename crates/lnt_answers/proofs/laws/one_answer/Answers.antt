use Rattle.lnt_answers.proofs.AddressWholes.{one_named_positions, tell_lines}
use Rattle.lnt_answers.proofs.laws.one_answer.Goals as goal

pub returns-clause-some : goal.returns-clause-some
returns-clause-some c = tell_lines

pub returns-clause-one : goal.returns-clause-one
returns-clause-one c = one_named_positions
