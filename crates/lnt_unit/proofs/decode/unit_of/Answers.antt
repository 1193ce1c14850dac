use Rattle.std.proofs.Common.{◌≡◌, ◌≢◌, ◌+◌, ◌-◌, length, subst, arith}
use Rattle.std.proofs.lemmas.Result.{err_from_is_err_and}
use Rattle.std.proofs.lemmas.Grind.{common_steps}
use Rattle.lnt_wire.specs.FrameBytes.{frame_bytes}
use Rattle.lnt_wire.specs.declared.fault.Reason.TheVariants.{Memory}
use Rattle.lnt_header.specs.Joins.{Each}
use Rattle.lnt_header.specs.declared.numbers.NumberParts.{NumberParts}
use Rattle.lnt_ops.specs.OpBytes.{OpBytes}
use Rattle.lnt_ops.specs.Programs.{BrokenProgram}
use Rattle.lnt_unit.specs.BrokenUnits.{BrokenUnit}
use Rattle.lnt_unit.proofs.BrokenLaws.{header_broken, ops_broken}
use Rattle.lnt_unit.proofs.ReadLaws.{program_within}
use Rattle.lnt_unit.proofs.UnitLaws.{unit_found}
use Rattle.lnt_unit.proofs.decode.unit_of.Goals as goal

pub returns-in_err-header-clause-err : goal.returns-in_err-header-clause-err
returns-in_err-header-clause-err c =
    let p = err_from_is_err_and c.from_residual.result c.from_residual.ensures.1 in
    let frame = c.args.frame.now in
    let fault = c.in_err-header.field-0.0 in
    let broken : fault.reason ≢ Memory → BrokenUnit c.args.order fault frame.offset (frame_bytes c.args.order frame.format frame.body.now) =
    λ some. header_broken c.args.order fault frame.offset _ (c.in_err-header.ensures.err some) in
    rw (p.1, p.2) broken

pub returns-in-Err-clause-err : goal.returns-in-Err-clause-err
returns-in-Err-clause-err c =
    let frame = c.args.frame.now in
    let bytes = frame_bytes c.args.order frame.format frame.body.now in
    let program = c.in_ok-header.program.now in
    let within = program_within c.args.order c.in_ok-header.header program bytes c.in_ok-header.ensures.ok in
    let ends : c.args.end - length program + length program ≡ frame.offset + length bytes = omega (arith, c.requires.end, within) in
    λ some. ops_broken c.args.order c.in_ok-header.header program bytes c.in-Err.fault frame.offset _ c.in_ok-header.ensures.ok ends
    (subst (λ (g : NumberParts). BrokenProgram g (c.args.end - length program) program c.in-Err.fault) c.numbers.ensures.numbers
    (c.in-Err.ensures.err some))

pub returns-in-Ok-clause-ok : goal.returns-in-Ok-clause-ok
returns-in-Ok-clause-ok c =
    rw c.of.ensures (unit_found c.args.order _ c.in_ok-header.program.now _ c.in_ok-header.ensures.ok
    (subst (λ (g : NumberParts). Each (OpBytes g) c.in-Ok.ops c.in_ok-header.program.now) c.numbers.ensures.numbers c.in-Ok.ensures.ok))

pub overflow_sub-place : goal.overflow_sub-place
overflow_sub-place c = grind (arith, common_steps)
