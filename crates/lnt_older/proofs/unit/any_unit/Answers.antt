use Rattle.std.proofs.Common.{sym}
use Rattle.std.proofs.lemmas.Result.{err_from_is_err_and}
use Rattle.lnt_older.specs.UnitReading.IsAnyBodyFault.{of_body}
use Rattle.lnt_older.proofs.unit.any_unit.Goals as goal

pub returns-in_err-older_unit-in-Some-clause-err : goal.returns-in_err-older_unit-in-Some-clause-err
returns-in_err-older_unit-in-Some-clause-err c =
    let p = err_from_is_err_and c.from_residual.result c.from_residual.ensures.1 in
    rw (p.1, p.2) (of_body c.in-Some.version (sym c.in-Some.ensures) c.in_err-older_unit-in-Some.ensures.err)
