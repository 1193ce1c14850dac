use Rattle.std.proofs.Common.{◌≡◌, ◌≢◌, ◌∷◌, ◌++◌, [], subst, arith, Some, Result}
use Rattle.std.proofs.lemmas.Grind.{common_steps}
use Rattle.std.proofs.lemmas.Result.{err_from_is_err_and}
use Rattle.lnt_wire.specs.declared.fault.Reason.TheVariants.{Memory}
use Rattle.lnt_wire.specs.declared.fault.Fault.{Fault}
use Rattle.lnt_header.specs.declared.op.OpView.{OpView}
use Rattle.lnt_ops.specs.Programs.{BrokenProgram}
use Rattle.lnt_ops.specs.Walks.{Fails, GivesOperation, WalkStep}
use Rattle.lnt_ops.proofs.ProgramLaws.{is_view, ops_admitted, ops_none, walk_broken, walk_done, walk_more}
use Rattle.lnt_ops.proofs.program.read_ops.Goals as goal

pub returns-in_err-view-clause-err : goal.returns-in_err-view-clause-err
returns-in_err-view-clause-err c =
    let p = err_from_is_err_and c.from_residual.result c.from_residual.ensures.1 in
    let fault = c.in_err-view.field-0.0 in
    let step : Fails fault c.loop-view.view-iterator c.next.new.self =
    subst (λ (r : Result OpView Fault). WalkStep c.loop-view.view-iterator (Some r) c.next.new.self) c.in_err-view.was
    c.in-Some.ensures.steps in
    let rest : fault.reason ≢ Memory → BrokenProgram c.args.numbers.now c.args.place c.args.program.now fault =
    λ _. walk_broken c.args.numbers.now c.args.place c.args.program.now c.loop-view.ops.items fault c.loop-view.view-iterator
    c.next.new.self
    c.new-view-items.ensures.numbers c.loop-view.invariant.0 c.loop-view.invariant.2 step in
    rw (p.1, p.2) rest

pub loop-view-preserved : goal.loop-view-preserved
loop-view-preserved c =
    let op = c.in_ok-op.op in
    let items : c.push.new.self.items ≡ c.loop-view.ops.items ++ op ∷ [] = grind (arith, common_steps) in
    let step : GivesOperation c.in_ok-view.field-0 c.loop-view.view-iterator c.next.new.self =
    subst (λ (r : Result OpView Fault). WalkStep c.loop-view.view-iterator (Some r) c.next.new.self) c.in_ok-view.was
    c.in-Some.ensures.steps in
    rw items (walk_more c.args.numbers.now c.args.place c.args.program.now c.loop-view.ops.items op c.in_ok-view.field-0
    c.loop-view.view-iterator c.next.new.self c.loop-view.invariant.0 c.loop-view.invariant.2 step c.in_ok-op.ensures)

pub returns-clause-ok : goal.returns-clause-ok
returns-clause-ok c =
    rw c.new.ensures (walk_done c.args.numbers.now c.args.place c.args.program.now c.loop-view.ops.items c.loop-view.view-iterator
    c.next.new.self c.loop-view.invariant.1 c.loop-view.invariant.2 c.in-None.ensures.steps)

pub returns-clause-admitted : goal.returns-clause-admitted
returns-clause-admitted c =
    rw c.new.ensures (ops_admitted c.args.numbers.now c.args.place c.args.program.now c.loop-view.ops.items c.loop-view.view-iterator.at
    c.loop-view.invariant.2)

pub loop-view-init : goal.loop-view-init
loop-view-init c =
    let items = c.new-view-items.ensures in
    rw (c.into_iter-view-iterator.ensures.into_iter_gives, c.new-ops.ensures.items) (
      items.header,
      items.going,
      ops_none c.args.numbers.now c.args.place c.args.program.now c.new-view-items.result.at items.place items.rest items.order,
    )

pub loop-view-smaller : goal.loop-view-smaller
loop-view-smaller c =
    let step : GivesOperation c.in_ok-view.field-0 c.loop-view.view-iterator c.next.new.self =
    subst (λ (r : Result OpView Fault). WalkStep c.loop-view.view-iterator (Some r) c.next.new.self) c.in_ok-view.was
    c.in-Some.ensures.steps in
    rw (step.goes_on, step.going) step.shorter

pub owned_op-requires : goal.owned_op-requires
owned_op-requires c =
    let step : GivesOperation c.in_ok-view.field-0 c.loop-view.view-iterator c.next.new.self =
    subst (λ (r : Result OpView Fault). WalkStep c.loop-view.view-iterator (Some r) c.next.new.self) c.in_ok-view.was
    c.in-Some.ensures.steps in
    is_view c.loop-view.view-iterator.numbers c.in_ok-view.field-0 c.loop-view.view-iterator.at c.next.new.self.at step.gives

pub returns-in_err-view-clause-ok : goal.returns-in_err-view-clause-ok
returns-in_err-view-clause-ok c = rw (err_from_is_err_and c.from_residual.result c.from_residual.ensures.1).1 tt

pub returns-in_err-view-clause-admitted : goal.returns-in_err-view-clause-admitted
returns-in_err-view-clause-admitted c = rw (err_from_is_err_and c.from_residual.result c.from_residual.ensures.1).1 tt
