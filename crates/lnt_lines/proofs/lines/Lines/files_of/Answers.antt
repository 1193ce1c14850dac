use Rattle.std.proofs.Common.{arith}
use Rattle.std.proofs.lemmas.Grind.{elements}
use Rattle.lnt_lines.proofs.lines.Lines.files_of.Goals as goal

pub returns : goal.returns
returns c = grind (arith, elements)
