use Rattle.std.proofs.Common.{take}
use Rattle.lnt_symbols.specs.BreakpadAnswers.{kept}
use Rattle.lnt_symbols.specs.Stepping.{AreInTree}
use Rattle.lnt_symbols.proofs.breakpad.kept.tree_of.Given as goal

abbrev pub invariant-loop-range : goal.invariant-loop-range
invariant-loop-range l = AreInTree l.tree (kept (λ y. y) (take l.range-index l.ranges))
