use Rattle.lnt_unit.proofs.ConvertedLemmas.{frame_malformed}
use Rattle.lnt_unit.proofs.converting.judge_unit.Goals as goal

pub returns-in-Err-Malformed-clause-err : goal.returns-in-Err-Malformed-clause-err
returns-in-Err-Malformed-clause-err c some =
    let found = c.in_ok-frame.ensures in
    frame_malformed c.args.order c.args.format c.args.to c.in_ok-frame.frame _ c.in-Err-Malformed.fault c.args.cursor.now _ found.ok
    found.offset c.in-Err-Malformed.ensures.err c.in-Err-Malformed.field-0-is
