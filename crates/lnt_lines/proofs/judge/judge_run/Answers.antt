use Rattle.std.proofs.lemmas.Result.{err_from_is_err_and}
use Rattle.lnt_lines.proofs.judge.judge_run.Goals as goal

pub returns-in_err-found-clause-err : goal.returns-in_err-found-clause-err
returns-in_err-found-clause-err c =
    let p = err_from_is_err_and c.from_residual.result c.from_residual.ensures.1 in
    rw (p.1, p.2) (c.in_err-found.ensures.err c.args.ends.now.line c.args.ends.now.general)

pub returns-in-Some-clause-err : goal.returns-in-Some-clause-err
returns-in-Some-clause-err c =
    c.in-Some.ensures c.args.dead c.run_unit.new.places.items c.args.collected.now c.run_unit.new.collected c.in_ok-found.ensures.runs
