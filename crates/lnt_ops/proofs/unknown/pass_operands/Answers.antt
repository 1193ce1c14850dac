use Rattle.std.proofs.lemmas.Result.{err_from_is_err_and}
use Rattle.lnt_ops.proofs.UnknownReaders.{refuses_operands}
use Rattle.lnt_ops.proofs.unknown.pass_operands.Goals as goal

pub returns-in_err-uleb-clause-err : goal.returns-in_err-uleb-clause-err
returns-in_err-uleb-clause-err c =
    let p = err_from_is_err_and c.from_residual.result c.from_residual.ensures.1 in
    rw (p.1, p.2) (refuses_operands c.args.count c.loop.counter c.args.cursor.now c.loop.cursor c.in_err-uleb.field-0.0 c.loop.invariant
    c.loop-test.true c.in_err-uleb.ensures.err)
