use Rattle.std.proofs.Common.{rules, arith}
use Rattle.std.proofs.lemmas.Grind.{elements}
use Rattle.lnt_files.proofs.AtLemmas.{after_first, after_more, not_there, entry_is, there}
use Rattle.lnt_files.proofs.in_place.paths.entry_at.Goals as goal

pub loop-init : goal.loop-init
loop-init c = search (rules, after_first, after_more, not_there, entry_is, there)

pub loop-preserved : goal.loop-preserved
loop-preserved c = search (rules, after_first, after_more, not_there, entry_is, there)

pub returns-then-number-count : goal.returns-then-number-count
returns-then-number-count c = search (rules, after_first, after_more, not_there, entry_is, there)

pub returns : goal.returns
returns c = grind (arith, elements)
