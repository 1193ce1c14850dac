use Rattle.std.proofs.lemmas.Result.{err_from_is_err_and}
use Rattle.lnt_header_bytes.proofs.PassLemmas.{refuses_passed}
use Rattle.lnt_header_bytes.proofs.pass.pass_entries.Goals as goal

pub returns-in_err-read_entry-clause-err : goal.returns-in_err-read_entry-clause-err
returns-in_err-read_entry-clause-err c =
    let p = err_from_is_err_and c.from_residual.result c.from_residual.ensures.1 in
    let pairs = c.args.pairs.now in
    let old = c.args.cursor.now in
    let fault = c.in_err-read_entry.field-0.0 in
    rw (p.1, p.2) (refuses_passed c.args.format pairs c.args.count c.loop.counter old c.loop.cursor fault c.loop.invariant c.loop-test.true
    c.in_err-read_entry.ensures.err)
