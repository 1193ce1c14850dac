use Rattle.std.proofs.lemmas.Result.{err_from_is_err_and}
use Rattle.lnt_header_bytes.proofs.SoundLemmas.{byte_missing}
use Rattle.lnt_header_bytes.proofs.numbers.read_sound.Goals as goal

pub returns-in_err-read_byte-clause-err : goal.returns-in_err-read_byte-clause-err
returns-in_err-read_byte-clause-err c =
    let p = err_from_is_err_and c.from_residual.result c.from_residual.ensures.1 in
    let reasons = c.args.zero_reasons.now in
    let old = c.args.cursor.now in
    rw (p.1, p.2) (byte_missing reasons c.loop-zero_reason.zero_reason-index _ old c.loop-zero_reason.cursor c.in_err-read_byte.field-0.0
    c.loop-zero_reason-test.true c.loop-zero_reason.invariant c.in_err-read_byte.ensures.err)
