use Rattle.std.proofs.Common.{arith}
use Rattle.std.proofs.lemmas.Grind.{common_steps}
use Rattle.lnt_files.proofs.paths.add_pieces.Goals as goal

pub add_below-requires-2 : goal.add_below-requires-2
add_below-requires-2 c = grind (arith, common_steps)

pub returns : goal.returns
returns c = grind (arith, common_steps)
