use Rattle.std.proofs.lemmas.Result.{err_from_is_err_and}
use Rattle.lnt_header_bytes.proofs.TableReaders.{entry_refused}
use Rattle.lnt_header_bytes.proofs.table.read_entry.Goals as goal

pub returns-in_err-read_values-clause-err : goal.returns-in_err-read_values-clause-err
returns-in_err-read_values-clause-err c =
    let p = err_from_is_err_and c.from_residual.result c.from_residual.ensures.1 in
    let old = c.args.cursor.now in
    let fault = c.in_err-read_values.field-0.0 in
    rw (p.1, p.2) (λ some. entry_refused c.args.format c.args.pairs.now old fault (c.in_err-read_values.ensures.err some))
