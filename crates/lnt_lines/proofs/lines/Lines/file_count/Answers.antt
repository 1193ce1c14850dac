use Rattle.std.proofs.Common.{rules}
use Rattle.lnt_lines.proofs.lines.Lines.file_count.Goals as goal

pub returns-in-None : goal.returns-in-None
returns-in-None c = search rules
