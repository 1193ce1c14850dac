use Rattle.std.proofs.Common.{◌∙◌, ap, sym, subst, arith, rules, Option}
use Rattle.std.proofs.lemmas.Result.{err_from_is_err_and}
use Rattle.lnt_ops.specs.Walks.{Walk}
use Rattle.lnt_machine.specs.declared.row.Row.{Row}
use Rattle.lnt_machine.specs.RowWalks.{Breaks}
use Rattle.lnt_machine.specs.Running.{RunsOn, RunState}
use Rattle.lnt_machine.proofs.RanLaws.{fails_op, gives_op, may_step}
use Rattle.lnt_machine.proofs.RowWalkLemmas.{leaves_here, passes_more}
use Rattle.lnt_machine.proofs.rows.next_row.Goals as goal

pub returns-in_err-row-clause-err : goal.returns-in_err-row-clause-err
returns-in_err-row-clause-err c =
    let p = err_from_is_err_and c.from_residual-in_err-row.result c.from_residual-in_err-row.ensures.1 in
    rw (p.1, p.2) (leaves_here c.loop-op.invariant.2 (gives_op c.in_ok-op.was c.in-Some.ensures.steps) c.in_err-row.ensures.out_of_range
    c.in_err-row.ensures.fault c.in_err-row.ensures.unchanged)

pub loop-op-preserved : goal.loop-op-preserved
loop-op-preserved c =
    let step = gives_op c.in_ok-op.was c.in-Some.ensures.steps in (
      rw (c.in_ok-row.ensures.ok.machine.done.numbers, step.header_is) c.loop-op.invariant.0,
      omega (arith, step.shorter, c.loop-op.invariant.1),
      passes_more c.loop-op.invariant.2 step c.in_ok-row.ensures.ok c.in_default-2.not-Some,
    )

pub returns-then-is_open-clause-ok : goal.returns-then-is_open-clause-ok
returns-then-is_open-clause-ok c = search rules

pub step-requires : goal.step-requires
step-requires c =
    may_step c.in_ok-op.field-0 c.loop-op.run.machine c.loop-op.ops c.next.new.self c.loop-op.invariant.0
    (gives_op c.in_ok-op.was c.in-Some.ensures.steps)

pub returns-in_err-op-clause-err : goal.returns-in_err-op-clause-err
returns-in_err-op-clause-err c =
    let p = err_from_is_err_and c.from_residual.result c.from_residual.ensures.1 in
    let breaks : Breaks c.in_err-op.field-0.0 c.args.run.now c.args.ops.now c.loop-op.run c.next.new.self = record {
      walk_before = c.loop-op.ops;
      passes = c.loop-op.invariant.2;
      fails = fails_op c.in_err-op.was c.in-Some.ensures.steps;
    } in
    rw (p.1, p.2) breaks

pub returns-in_err-op-clause-same : goal.returns-in_err-op-clause-same
returns-in_err-op-clause-same c = c.loop-op.invariant.0 ∙ sym (fails_op c.in_err-op.was c.in-Some.ensures.steps).header_is

pub returns-in_err-row-clause-same : goal.returns-in_err-row-clause-same
returns-in_err-row-clause-same c =
    ap (λ (r : RunState). r.machine.numbers) c.in_err-row.ensures.unchanged ∙ c.loop-op.invariant.0
    ∙ sym (gives_op c.in_ok-op.was c.in-Some.ensures.steps).header_is

pub returns-in-Some-2-clause-same : goal.returns-in-Some-2-clause-same
returns-in-Some-2-clause-same c =
    c.in_ok-row.ensures.ok.machine.done.numbers ∙ c.loop-op.invariant.0 ∙ sym (gives_op c.in_ok-op.was c.in-Some.ensures.steps).header_is

pub returns-in-Some-2-clause-shorter : goal.returns-in-Some-2-clause-shorter
returns-in-Some-2-clause-shorter c =
    omega (arith, (gives_op c.in_ok-op.was c.in-Some.ensures.steps).shorter, c.loop-op.invariant.1)

pub returns-in-Some-2-clause-ok : goal.returns-in-Some-2-clause-ok
returns-in-Some-2-clause-ok c = record {
  run_before = c.loop-op.run;
  walk_before = c.loop-op.ops;
  passes = c.loop-op.invariant.2;
  item = c.in_ok-op.field-0;
  step = gives_op c.in_ok-op.was c.in-Some.ensures.steps;
  made = subst (λ (made : Option Row). RunsOn c.in_ok-op.field-0 c.loop-op.run c.step.new.self made) c.in-Some-2.is c.in_ok-row.ensures.ok;
}

pub loop-op-smaller : goal.loop-op-smaller
loop-op-smaller c =
    let step = gives_op c.in_ok-op.was c.in-Some.ensures.steps in
    rw (step.goes_on, step.going) step.shorter

pub returns-clause-ok : goal.returns-clause-ok
returns-clause-ok c = record {
  walk_before = c.loop-op.ops;
  passes = c.loop-op.invariant.2;
  ends = c.in_default.ensures.steps;
  open_is = sym c.if-is_open.ensures;
}

pub returns-clause-same : goal.returns-clause-same
returns-clause-same c = c.loop-op.invariant.0 ∙ ap (λ (w : Walk). w.numbers) (sym c.in_default.ensures.steps.unchanged)

pub returns-then-is_open-clause-same : goal.returns-then-is_open-clause-same
returns-then-is_open-clause-same c = c.loop-op.invariant.0 ∙ ap (λ (w : Walk). w.numbers) (sym c.in_default.ensures.steps.unchanged)
