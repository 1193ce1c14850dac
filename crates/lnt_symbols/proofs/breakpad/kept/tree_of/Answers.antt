use Rattle.std.proofs.Common.{arith, subst, sym, take}
use Rattle.lnt_symbols.specs.BreakpadAnswers.{kept}
use Rattle.lnt_symbols.specs.Stepping.{AreInTree}
use Rattle.lnt_symbols.proofs.KeptLemmas.{kept_take}
use Rattle.lnt_symbols.proofs.breakpad.kept.tree_of.Goals as goal

pub loop-range-preserved : goal.loop-range-preserved
loop-range-preserved c =
    subst (AreInTree c.keep_in.new.tree)
    (sym (kept_take c.args.ranges.now c.loop-range.range-index (record { address = 0; size = 0 }) (omega arith)))
    (c.in_ok-keep_in.ensures.kept (kept (λ y. y) (take c.loop-range.range-index c.args.ranges.now)) c.loop-range.invariant)
