use Rattle.std.proofs.Common.{rules, arith}
use Rattle.std.proofs.lemmas.Grind.{common_steps}
use Rattle.lnt_header.proofs.TestLemmas.{zip_start, zip_more, zip_not, zip_end, other_lengths}
use Rattle.lnt_header.proofs.tested.is_of_format.Goals as goal

pub returns-then-values-pairs : goal.returns-then-values-pairs
returns-then-values-pairs c = search (rules, zip_start, zip_more, zip_not, zip_end, other_lengths)

pub returns : goal.returns
returns c = grind (arith, common_steps)
