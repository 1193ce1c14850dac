use Rattle.std.proofs.Common.{rules}
use Rattle.lnt_lines.proofs.lines.Lines.lookup.Goals as goal

pub returns-clause-answer : goal.returns-clause-answer
returns-clause-answer c = search rules
