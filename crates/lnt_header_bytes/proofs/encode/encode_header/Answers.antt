use Rattle.std.proofs.lemmas.Result.{err_from_is_err_and}
use Rattle.lnt_header_bytes.proofs.LargeLemmas.{too_large_refused}
use Rattle.lnt_header_bytes.proofs.encode.encode_header.Goals as goal

pub returns-in_err-put_header-clause-err : goal.returns-in_err-put_header-clause-err
returns-in_err-put_header-clause-err c =
    let p = err_from_is_err_and c.from_residual.result c.from_residual.ensures.1 in
    rw (p.1, p.2, ← c.held.ensures) (too_large_refused c.held.result c.args.program.now c.in_err-put_header.field-0.0
    c.in_err-put_header.ensures.large)

pub returns-in_err-put_header-clause-large : goal.returns-in_err-put_header-clause-large
returns-in_err-put_header-clause-large c =
    let p = err_from_is_err_and c.from_residual.result c.from_residual.ensures.1 in
    rw (p.1, p.2, ← c.held.ensures) c.in_err-put_header.ensures.large
