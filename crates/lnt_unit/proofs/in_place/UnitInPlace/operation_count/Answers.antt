use Rattle.std.proofs.Common.{subst, Some, Result}
use Rattle.std.proofs.lemmas.Result.{err_from_is_err_and}
use Rattle.lnt_wire.specs.declared.fault.Fault.{Fault}
use Rattle.lnt_header.specs.declared.op.OpView.{OpView}
use Rattle.lnt_ops.specs.Walks.{Fails, GivesOperation, WalkStep}
use Rattle.lnt_unit.specs.BrokenUnits.{BrokenUnit}
use Rattle.lnt_unit.proofs.ViewLaws.{given_broken}
use Rattle.lnt_unit.proofs.ViewLemmas.{counted_more, counted_all}
use Rattle.lnt_unit.proofs.in_place.UnitInPlace.operation_count.Goals as goal

pub returns-in_err-op-clause-err : goal.returns-in_err-op-clause-err
returns-in_err-op-clause-err c =
    let p = err_from_is_err_and c.from_residual.result c.from_residual.ensures.1 in
    let view = c.args.self.now in
    let fault = c.in_err-op.field-0.0 in
    let so = c.loop-op.invariant in
    let step : Fails fault c.loop-op.op-iterator c.next.new.self =
    subst (λ (r : Result OpView Fault). WalkStep c.loop-op.op-iterator (Some r) c.next.new.self) c.in_err-op.was c.in-Some.ensures.steps in
    let broken : BrokenUnit view.unit.order fault view.unit.offset view.unit.bytes =
    given_broken view so.ops fault c.loop-op.op-iterator c.next.new.self c.ops-op-items.ensures.is_header c.ops-op-items.ensures.is_view
    so.given step in
    rw (p.1, p.2) broken

pub loop-op-preserved : goal.loop-op-preserved
loop-op-preserved c =
    let step : GivesOperation c.in_ok-op.field-0 c.loop-op.op-iterator c.next.new.self =
    subst (λ (r : Result OpView Fault). WalkStep c.loop-op.op-iterator (Some r) c.next.new.self) c.in_ok-op.was c.in-Some.ensures.steps in
    counted_more c.args.self.now c.loop-op.count c.in_ok-op.field-0 c.loop-op.op-iterator c.next.new.self c.loop-op.invariant step

pub returns-clause-ok : goal.returns-clause-ok
returns-clause-ok c =
    counted_all c.args.self.now c.loop-op.count c.loop-op.op-iterator c.next.new.self c.ops-op-items.ensures.is_view c.loop-op.invariant
    c.in-None.ensures.steps
