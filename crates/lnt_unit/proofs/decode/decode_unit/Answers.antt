use Rattle.std.proofs.lemmas.Result.{err_from_is_err_and}
use Rattle.lnt_unit.proofs.ReadLaws.{frame_refused}
use Rattle.lnt_unit.proofs.decode.decode_unit.Goals as goal

pub returns-in_err-unit-clause-err : goal.returns-in_err-unit-clause-err
returns-in_err-unit-clause-err c =
    let p = err_from_is_err_and c.from_residual-in_err-unit.result c.from_residual-in_err-unit.ensures.1 in
    let found = c.in_ok-frame.ensures in
    rw (p.1, p.2) (frame_refused c.args.order c.in_ok-frame.frame c.in_err-unit.field-0.0 c.args.cursor.now _ found.ok found.offset
    c.in_err-unit.ensures.err)
