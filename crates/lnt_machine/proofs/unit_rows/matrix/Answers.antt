use Rattle.std.proofs.Common.{◌∙◌, ap, arith}
use Rattle.std.proofs.lemmas.Result.{err_from_is_err_and}
use Rattle.std.proofs.lemmas.Grind.{common_steps}
use Rattle.lnt_header.specs.Parts.{HeaderParts}
use Rattle.lnt_machine.proofs.MatrixLemmas.{made_out, made_quiet, made_row, made_sequences}
use Rattle.lnt_machine.proofs.RanLaws.{ran_all, ran_first, ran_open, ran_whole}
use Rattle.lnt_machine.proofs.SequenceLaws.{cut_none}
use Rattle.lnt_machine.proofs.unit_rows.matrix.Goals as goal

pub loop-op-init : goal.loop-op-init
loop-op-init c = record {
  ran = ran_first (c.new-run.ensures.header ∙ c.numbers.ensures.numbers ∙ ap (λ (h : HeaderParts). h.numbers) c.header.ensures)
      c.new-run.ensures.done c.new-run.ensures.count;
  cut = rw (c.new-sequences.ensures.items, c.new-rows.ensures.items) cut_none;
}

pub loop-op-preserved-in_default : goal.loop-op-preserved-in_default
loop-op-preserved-in_default c =
    made_quiet _ _ c.loop-op.invariant c.ops-op-items.ensures.value c.loop-op-test.true c.op-item.is c.view.ensures
    c.in_ok-row.ensures.ok (omega arith) c.in_default.not-Some

pub loop-op-preserved : goal.loop-op-preserved
loop-op-preserved c =
    made_row _ _ c.loop-op.invariant c.ops-op-items.ensures.value c.loop-op-test.true c.op-item.is c.view.ensures
    c.in_ok-row.ensures.ok (omega arith) c.in-Some.is c.in_ok-add_row.ensures.ok

pub returns-in_err-row-clause-err : goal.returns-in_err-row-clause-err
returns-in_err-row-clause-err c =
    let p = err_from_is_err_and c.from_residual.result c.from_residual.ensures.1 in
    rw (p.1, p.2) (made_out _ _ c.loop-op.invariant c.ops-op-items.ensures.value c.loop-op-test.true c.op-item.is c.view.ensures
    c.in_err-row.ensures.out_of_range c.in_err-row.ensures.fault)

pub returns-in_err-end-clause-err : goal.returns-in_err-end-clause-err
returns-in_err-end-clause-err c =
    let p = err_from_is_err_and c.from_residual-in_err-end.result c.from_residual-in_err-end.ensures.1 in
    rw (p.1, p.2, c.in_err-end.ensures.fault) (ran_open (ran_all c.args.unit.now _ c.loop-op.invariant.ran
    (rw (← c.ops-op-items.ensures.value) c.loop-op-test.false)) c.in_err-end.ensures.left_open)

pub returns-clause-runs : goal.returns-clause-runs
returns-clause-runs c =
    ran_whole (ran_all c.args.unit.now _ c.loop-op.invariant.ran (rw (← c.ops-op-items.ensures.value) c.loop-op-test.false))
    c.in_ok-end.ensures.ok

pub returns-clause-rows : goal.returns-clause-rows
returns-clause-rows c =
    made_sequences c.args.unit.now _ _ _ _ c.loop-op.invariant (rw (← c.ops-op-items.ensures.value) c.loop-op-test.false)

pub step-requires : goal.step-requires
step-requires c = grind (arith, common_steps)
