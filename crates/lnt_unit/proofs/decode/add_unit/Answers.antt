use Rattle.std.proofs.Common.{◌≢◌}
use Rattle.std.proofs.lemmas.Result.{err_from_is_err_and}
use Rattle.lnt_wire.specs.declared.fault.Reason.TheVariants.{Memory}
use Rattle.lnt_unit.specs.BrokenUnits.{BrokenUnit}
use Rattle.lnt_unit.proofs.decode.add_unit.Goals as goal

pub returns-clause-ok : goal.returns-clause-ok
returns-clause-ok c =
    record { unit = _; added = c.in_ok-push.ensures.items; here = c.place-offset.ensures.value; read = c.in_ok-unit.ensures.ok }

pub returns-in_err-unit-clause-err : goal.returns-in_err-unit-clause-err
returns-in_err-unit-clause-err c =
    let p = err_from_is_err_and c.from_residual.result c.from_residual.ensures.1 in
    let old = c.args.cursor.now in
    let fault = c.in_err-unit.field-0.0 in
    let broken : fault.reason ≢ Memory → BrokenUnit c.args.order fault old.place old.rest = c.in_err-unit.ensures.err in
    rw (p.1, p.2) broken
