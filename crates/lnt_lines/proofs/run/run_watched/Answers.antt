use Rattle.std.proofs.Common.{◌≡◌, ◌∙◌, ap, length}
use Rattle.std.proofs.lemmas.Result.{err_from_is_err_and}
use Rattle.lnt_header.specs.Parts.{HeaderParts}
use Rattle.lnt_unit.specs.BrokenUnits.{BrokenUnit}
use Rattle.lnt_unit.proofs.ViewLaws.{given_broken}
use Rattle.lnt_machine.proofs.RanLaws.{fails_op, gives_op}
use Rattle.lnt_sequences.proofs.UnitLaws.{collects_none}
use Rattle.lnt_lines.specs.Judging.{CollectsAlso}
use Rattle.lnt_lines.specs.Running.{RunsSoFar}
use Rattle.lnt_lines.proofs.RefusalLemmas.{fault_refused}
use Rattle.lnt_lines.proofs.RunLemmas.{ran_all, ran_none, ran_open, run_refused}
use Rattle.lnt_lines.proofs.run.run_watched.Goals as goal

pub loop-op-init : goal.loop-op-init
loop-op-init c =
    let at = c.ops-ops.ensures in
    let view = c.args.view.now in
    let files : c.count.result ≡ length view.header.files =
    c.count.ensures ∙ ap length (c.files.ensures.entries) ∙ ap (λ (h : HeaderParts). length h.files) c.header.ensures in
    let start = ran_none c.args.dead view c.args.unit (CollectsAlso c.args.dead view.unit.offset c.args.collected.now c.args.collected.now)
    c.ops-ops.result c.new.result c.new-2.result at.header at.going
    at.place at.rest at.order c.requires.unit (c.new.ensures.header ∙ c.numbers.ensures) c.new.ensures.done
    c.new.ensures.count (rw files at c.new-2.ensures)
    (λ sequences k. collects_none c.args.dead view.unit.offset c.args.collected.now sequences k) in
    (rw c.requires.places start, ap length c.program.ensures)

pub returns-in_err-op-clause-err : goal.returns-in_err-op-clause-err
returns-in_err-op-clause-err c =
    let p = err_from_is_err_and c.from_residual.result c.from_residual.ensures.1 in
    let view = c.args.view.now in
    let fault = c.in_err-op.field-0.0 in
    let broken : BrokenUnit view.unit.order fault view.unit.offset view.unit.bytes =
    given_broken view c.loop-op.invariant.0.ops fault c.loop-op.ops c.next_long.new.self c.ops-ops.ensures.is_header
    c.ops-ops.ensures.is_view c.loop-op.invariant.0.given (fails_op c.in_err-op.was c.in-Some.ensures.steps) in
    rw p.1 (λ text general. fault_refused text general c.args.dead view.unit fault p.0 p.2 (λ _. broken))

pub returns-in-Err-clause-err : goal.returns-in-Err-clause-err
returns-in-Err-clause-err c =
    let view = c.args.view.now in
    run_refused c.args.dead view c.args.unit c.in-Err.fault c.refusal_for.result
    (λ other. c.in-Err.ensures.err other c.args.dead view c.args.collected.now c.loop-op.ops
    c.next_long.new.self c.loop-op.invariant.0 (gives_op c.in_ok-op.was c.in-Some.ensures.steps))
    c.refusal_for.ensures c.ops-ops.ensures.is_header c.ops-ops.ensures.is_view c.requires.unit

pub returns-in-Err-step_short-clause-err : goal.returns-in-Err-step_short-clause-err
returns-in-Err-step_short-clause-err c =
    let view = c.args.view.now in
    let size : c.loop-op.watched.length ≡ length view.program = c.loop-op.invariant.1 in
    let room = c.ops-ops.ensures.is_view.room in
    let ran : RunsSoFar c.args.dead view c.step.new.self c.args.collected.now c.step.new.collected c.next_long.new.self
    c.step.new.places.items =
    c.in_default-step.ensures.goes_on c.args.dead view c.args.collected.now c.loop-op.ops
    c.next_long.new.self c.loop-op.invariant.0 (gives_op c.in_ok-op.was c.in-Some.ensures.steps) (room, size) c.left.ensures in
    run_refused c.args.dead view c.args.unit c.in-Err-step_short.fault c.refusal_for-in-Err-step_short.result
    (λ other. c.in-Err-step_short.ensures.err other c.args.dead view c.args.collected.now ran
    (room, c.in_default-step.ensures.same ∙ size))
    c.refusal_for-in-Err-step_short.ensures c.ops-ops.ensures.is_header c.ops-ops.ensures.is_view c.requires.unit

pub loop-op-preserved : goal.loop-op-preserved
loop-op-preserved c =
    let view = c.args.view.now in
    let size : c.loop-op.watched.length ≡ length view.program = c.loop-op.invariant.1 in
    let room = c.ops-ops.ensures.is_view.room in
    let ran : RunsSoFar c.args.dead view c.step.new.self c.args.collected.now c.step.new.collected c.next_long.new.self
    c.step.new.places.items =
    c.in_default-step.ensures.goes_on c.args.dead view c.args.collected.now c.loop-op.ops
    c.next_long.new.self c.loop-op.invariant.0 (gives_op c.in_ok-op.was c.in-Some.ensures.steps) (room, size) c.left.ensures in
    let after : c.step.new.self.length ≡ length view.program = c.in_default-step.ensures.same ∙ size in (
      c.in_default-step_short.ensures.goes_on c.args.dead view c.args.collected.now ran
          (room, after),
      c.in_default-step_short.ensures.same ∙ after,
    )

pub returns-in-Err-end-clause-err : goal.returns-in-Err-end-clause-err
returns-in-Err-end-clause-err c =
    rw c.in-Err-end.ensures.fault (ran_open c.ops-ops.ensures.is_view c.loop-op.invariant.0 c.in_default.ensures.steps
    c.in-Err-end.ensures.left_open c.requires.unit)

pub returns-clause-runs : goal.returns-clause-runs
returns-clause-runs c =
    ran_all c.ops-ops.ensures.is_view c.loop-op.invariant.0 c.in_default.ensures.steps c.ops-ops.ensures.is_header
    c.in_default-end.ensures.ok c.missing_file.ensures c.falls.ensures
