use Rattle.std.proofs.Common.{arith}
use Rattle.std.proofs.lemmas.Grind.{elements}
use Rattle.lnt_files.proofs.contents.form_at.Goals as goal

pub returns : goal.returns
returns c = grind (arith, elements)
