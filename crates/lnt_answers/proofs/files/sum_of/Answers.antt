use Rattle.std.proofs.Common.{rules}
use Rattle.lnt_answers.proofs.files.sum_of.Goals as goal

pub returns-in_ok-encode-in-Some : goal.returns-in_ok-encode-in-Some
returns-in_ok-encode-in-Some c = search rules
