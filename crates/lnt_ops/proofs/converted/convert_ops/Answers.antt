use Rattle.std.proofs.Common.{◌≢◌, subst, Some, Result, arith}
use Rattle.std.proofs.lemmas.Result.{err_from_is_err_and}
use Rattle.std.proofs.lemmas.Grind.{common_steps}
use Rattle.lnt_wire.specs.declared.fault.Fault.{Fault}
use Rattle.lnt_wire.specs.declared.fault.Reason.TheVariants.{Memory}
use Rattle.lnt_header.specs.declared.op.OpView.{OpView}
use Rattle.lnt_ops.proofs.ProgramLaws.{walk_broken}
use Rattle.lnt_ops.specs.Programs.{BrokenProgram}
use Rattle.lnt_ops.specs.Walks.{Fails, GivesOperation, WalkStep}
use Rattle.lnt_ops.proofs.ConvertedLemmas.{converted_extends, converted_more, view_of_header}
use Rattle.lnt_ops.proofs.OpPutLemmas.{extends_more}
use Rattle.lnt_ops.proofs.converted.convert_ops.Goals as goal

pub returns-in_err-view-clause-err : goal.returns-in_err-view-clause-err
returns-in_err-view-clause-err c =
    let p = err_from_is_err_and c.from_residual.result c.from_residual.ensures.1 in
    let fault = c.in_err-view.field-0.0 in
    let so = c.loop-view.invariant in
    let step : Fails fault c.loop-view.view-iterator c.next.new.self =
    subst (λ (r : Result OpView Fault). WalkStep c.loop-view.view-iterator (Some r) c.next.new.self) c.in_err-view.was
    c.in-Some.ensures.steps in
    let rest : fault.reason ≢ Memory → BrokenProgram c.args.numbers.now c.args.place c.args.program.now fault =
    λ _. walk_broken c.args.numbers.now c.args.place c.args.program.now so.ops fault c.loop-view.view-iterator c.next.new.self
    c.new-view-items.ensures.numbers so.header_is so.so step in
    rw (p.1, p.2) rest

pub loop-view-preserved : goal.loop-view-preserved
loop-view-preserved c =
    let step : GivesOperation c.in_ok-view.field-0 c.loop-view.view-iterator c.next.new.self =
    subst (λ (r : Result OpView Fault). WalkStep c.loop-view.view-iterator (Some r) c.next.new.self) c.in_ok-view.was
    c.in-Some.ensures.steps in
    converted_more c.args.numbers.now c.args.place c.args.program.now c.args.to c.address_size-size.result c.args.out.now.items _ _
    c.in_ok-view.field-0 c.loop-view.view-iterator c.next.new.self c.loop-view.invariant step
    c.address_size-size.ensures.value c.in_ok-put_view.ensures.ok

pub put_view-requires-clause-admitted : goal.put_view-requires-clause-admitted
put_view-requires-clause-admitted c =
    let step : GivesOperation c.in_ok-view.field-0 c.loop-view.view-iterator c.next.new.self =
    subst (λ (r : Result OpView Fault). WalkStep c.loop-view.view-iterator (Some r) c.next.new.self) c.in_ok-view.was
    c.in-Some.ensures.steps in
    view_of_header c.args.numbers.now c.address_size-size.result c.in_ok-view.field-0 c.loop-view.view-iterator c.next.new.self
    c.loop-view.invariant.header_is c.address_size-size.ensures.value step

pub returns-clause-ok : goal.returns-clause-ok
returns-clause-ok c = grind (arith, common_steps)

pub returns-in_err-view-clause-extends : goal.returns-in_err-view-clause-extends
returns-in_err-view-clause-extends c =
    let p = err_from_is_err_and c.from_residual.result c.from_residual.ensures.1 in
    rw p.1 (converted_extends _ _ _ _ _ _ _ c.loop-view.invariant)

pub returns-in_err-put_view-clause-extends : goal.returns-in_err-put_view-clause-extends
returns-in_err-put_view-clause-extends c =
    let p = err_from_is_err_and c.from_residual-in_err-put_view.result c.from_residual-in_err-put_view.ensures.1 in
    rw p.1 (extends_more _ _ _ (converted_extends _ _ _ _ _ _ _ c.loop-view.invariant) c.in_err-put_view.ensures.extends)
