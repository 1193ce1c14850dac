use Rattle.std.proofs.lemmas.Result.{err_from_is_err_and}
use Rattle.lnt_header_bytes.proofs.EntryValueLemmas.{value_refused}
use Rattle.lnt_header_bytes.proofs.values.read_entry.Goals as goal

pub returns-in_err-read_value-clause-err : goal.returns-in_err-read_value-clause-err
returns-in_err-read_value-clause-err g c =
    let p = err_from_is_err_and c.from_residual.result c.from_residual.ensures.1 in
    rw (p.1, p.2) (value_refused c.args.format c.args.pairs.now c.loop-index.index _
    (g.K.KeepsValues.has_kept c.args.keeper.now c.loop-index.kept) c.args.cursor.now c.loop-index.cursor c.in_err-read_value.field-0.0
    c.loop-index-test.true c.loop-index.invariant c.in_err-read_value.ensures.err)
