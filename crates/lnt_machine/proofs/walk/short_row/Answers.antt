use Rattle.std.proofs.Common.{arith}
use Rattle.lnt_machine.proofs.WalkingLemmas.{next_out, next_quiet, next_row, none_put, row_put}
use Rattle.lnt_machine.proofs.walk.short_row.Goals as goal

pub returns-in_default-step_uncounted-clause-gives : goal.returns-in_default-step_uncounted-clause-gives
returns-in_default-step_uncounted-clause-gives c h rows has =
    absurd (next_out (c.loop-op.invariant.2 h rows has) c.in-Some.ensures.steps c.in_default-step_uncounted.ensures.out_of_range)

pub returns-then-appends-clause-gives : goal.returns-then-appends-clause-gives
returns-then-appends-clause-gives c h rows has =
    next_row (c.loop-op.invariant.2 h rows has) c.in-Some.ensures.steps c.in-Ok.ensures.ok (row_put _ _ c.if-appends.true)

pub loop-op-preserved : goal.loop-op-preserved
loop-op-preserved c =
    let step = c.in-Some.ensures.steps in (
      rw (c.in-Ok.ensures.ok.numbers, step.header_is) c.loop-op.invariant.0,
      omega (arith, step.shorter, c.loop-op.invariant.1),
      λ h rows has. next_quiet (c.loop-op.invariant.2 h rows has) step c.in-Ok.ensures.ok (none_put _ _ c.if-appends.false),
    )
