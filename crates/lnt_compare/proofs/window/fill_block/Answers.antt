use Rattle.std.proofs.Common.{rules}
use Rattle.lnt_compare.proofs.WindowLaws.{passes_none, passes_block}
use Rattle.lnt_compare.proofs.window.fill_block.Goals as goal

pub loop-source-preserved : goal.loop-source-preserved
loop-source-preserved g c = search (rules, passes_none, passes_block)

pub returns-then-branch-eq0-clause-taken : goal.returns-then-branch-eq0-clause-taken
returns-then-branch-eq0-clause-taken g c = search (rules, passes_none, passes_block)
