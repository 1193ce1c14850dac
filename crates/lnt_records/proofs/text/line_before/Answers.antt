use Rattle.std.proofs.Common.{arith}
use Rattle.lnt_records.proofs.LineLemmas.{line_taken}
use Rattle.lnt_records.proofs.TextLemmas.{position_stays}
use Rattle.lnt_records.proofs.text.line_before.Goals as goal

pub keep-requires-clause-fields : goal.keep-requires-clause-fields
keep-requires-clause-fields c =
    let answer = c.answer_before-end in
    let high = c.position_before-at in
    let low = c.copy_before-start in
    position_stays c.args.span.now.high answer.new.room low.new.room high.result answer.result (omega (arith, answer.array_long))
    (omega (arith, low.array_long)) (omega (arith, high.ensures.begins)) (omega (arith, answer.ensures.begins)) _ high.ensures.written
    low.ensures.after

pub returns-clause-written : goal.returns-clause-written
returns-clause-written c version is =
    line_taken _ _ version c.args.span.now _ _ _ _ c.copy_before-start.ensures.written c.position_before-at.ensures.written
    (c.answer_before-end.ensures.written version is)
