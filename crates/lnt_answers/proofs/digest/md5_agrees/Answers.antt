use Rattle.std.proofs.Common.{rules}
use Rattle.lnt_answers.proofs.digest.md5_agrees.Goals as goal

pub returns-then-eq-clause-ok : goal.returns-then-eq-clause-ok
returns-then-eq-clause-ok g c = search rules
