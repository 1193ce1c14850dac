use Rattle.std.proofs.Common.{rules, arith}
use Rattle.std.proofs.lemmas.Grind.{common_steps}
use Rattle.lnt_files.proofs.JudgedLemmas.{all_begun, all_stepped, all_done, all_but, never_ends}
use Rattle.lnt_files.proofs.in_place.judged.first_without_path.Goals as goal

pub loop-index-preserved : goal.loop-index-preserved
loop-index-preserved c = search (rules, all_begun, all_stepped, all_done, all_but, never_ends)

pub returns : goal.returns
returns c = grind (arith, common_steps)
