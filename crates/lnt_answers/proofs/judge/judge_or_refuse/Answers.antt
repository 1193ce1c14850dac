use Rattle.std.proofs.Common.{rules}
use Rattle.lnt_answers.proofs.judge.judge_or_refuse.Goals as goal

pub returns-in-Good-clause-printed : goal.returns-in-Good-clause-printed
returns-in-Good-clause-printed g c = search rules

pub returns-in-Good-clause-silent : goal.returns-in-Good-clause-silent
returns-in-Good-clause-silent g c = search rules
