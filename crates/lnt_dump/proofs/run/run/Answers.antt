use Rattle.std.proofs.Common.{◌∙◌, subst, sym}
use Rattle.std.proofs.lemmas.Result.{err_from_is_err_and}
use Rattle.lnt_ops.specs.Walks.{Walk}
use Rattle.lnt_dump.proofs.RunWalks.{IsJudging, judging_fails, judging_first, judging_next, judging_open, judging_whole, running_out}
use Rattle.lnt_machine.proofs.RanLaws.{fails_op, gives_op, may_step}
use Rattle.lnt_dump.proofs.run.run.Goals as goal

pub loop-op-init : goal.loop-op-init
loop-op-init c =
    subst (λ (w : Walk). IsJudging c.args.unit.now w c.new-run.result) (sym c.into_iter-op-iterator.ensures.into_iter_gives)
    (judging_first c.ops-op-items.ensures.is_view c.ops-op-items.ensures.header
    c.ops-op-items.ensures.going c.ops-op-items.ensures.place c.ops-op-items.ensures.rest c.ops-op-items.ensures.order
    (c.new-run.ensures.header ∙ c.numbers.ensures) c.new-run.ensures.done c.new-run.ensures.count)

pub step-requires : goal.step-requires
step-requires c =
    may_step _ c.loop-op.run.machine _ _ c.loop-op.invariant.header (gives_op c.in_ok-op.was c.in-Some.ensures.steps)

pub returns-in_err-op-clause-err : goal.returns-in_err-op-clause-err
returns-in_err-op-clause-err c =
    let p = err_from_is_err_and c.from_residual.result c.from_residual.ensures.1 in
    rw (p.1, p.2) (judging_fails c.ops-op-items.ensures.is_header
    c.ops-op-items.ensures.is_view c.loop-op.invariant (fails_op c.in_err-op.was c.in-Some.ensures.steps))

pub not_run-requires : goal.not_run-requires
not_run-requires c =
    λ ops is. running_out c.ops-op-items.ensures.is_header (c.loop-op.invariant.running ops is)
    (gives_op c.in_ok-op.was c.in-Some.ensures.steps) c.in-Err.ensures.out_of_range c.in-Err.ensures.fault

pub loop-op-preserved : goal.loop-op-preserved
loop-op-preserved c =
    judging_next c.ops-op-items.ensures.is_header c.ops-op-items.ensures.is_view c.loop-op.invariant
    (gives_op c.in_ok-op.was c.in-Some.ensures.steps) c.in_default.ensures.ok

pub returns-in_err-end-clause-err : goal.returns-in_err-end-clause-err
returns-in_err-end-clause-err c =
    let p = err_from_is_err_and c.from_residual-in_err-end.result c.from_residual-in_err-end.ensures.1 in
    rw (p.1, p.2) (judging_open c.ops-op-items.ensures.is_view
    c.loop-op.invariant c.in-None.ensures.steps c.in_err-end.ensures.left_open c.in_err-end.ensures.fault)

pub returns-clause-ok : goal.returns-clause-ok
returns-clause-ok c =
    judging_whole c.ops-op-items.ensures.is_view c.loop-op.invariant c.in-None.ensures.steps c.in_ok-end.ensures.ok
