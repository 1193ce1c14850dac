use Rattle.std.proofs.Common.{◌∙◌}
use Rattle.lnt_sequences.proofs.BriefLemmas.{comes_quiet, comes_row, kept_more, kept_same, was_kept}
use Rattle.lnt_sequences.proofs.brief.BriefRows.add_short.Goals as goal

pub loop-made-preserved-in_default-made : goal.loop-made-preserved-in_default-made
loop-made-preserved-in_default-made c = record {
  base = c.loop-made.invariant.base;
  part = c.loop-made.invariant.part;
  kept = λ list are. kept_same list c.loop-made.self c.loop-made.left c.step_short.new.self (c.loop-made.invariant.kept list are)
      (comes_quiet c.loop-made.left c.step_short.new.self c.in-Some.made c.in-Some.ensures.comes c.in_default-made.not-Some);
}

pub loop-made-preserved : goal.loop-made-preserved
loop-made-preserved c = record {
  base = c.add.ensures.base ∙ c.loop-made.invariant.base;
  part = c.add.ensures.part ∙ c.loop-made.invariant.part;
  kept = λ list are. kept_more list c.loop-made.self c.add.new.self c.loop-made.left c.step_short.new.self c.in-Some-made.row
      (c.loop-made.invariant.kept list are)
      (comes_row c.loop-made.left c.step_short.new.self c.in-Some.made c.in-Some-made.row c.in-Some.ensures.comes c.in-Some-made.is)
      (was_kept _ _ c.in_ok-add.field-0 c.in_ok-add.ensures.kept c.if-not-branch.false) c.add.ensures.base;
}

pub returns-clause-kept : goal.returns-clause-kept
returns-clause-kept c list are =
    kept_same list c.loop-made.self c.loop-made.left c.step_short.new.self (c.loop-made.invariant.kept list are) c.in_default.ensures.comes
