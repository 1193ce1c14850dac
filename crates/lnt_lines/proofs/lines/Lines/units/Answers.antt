use Rattle.std.proofs.Common.{rules}
use Rattle.lnt_lines.proofs.lines.Lines.units.Goals as goal

pub returns : goal.returns
returns c = search rules
