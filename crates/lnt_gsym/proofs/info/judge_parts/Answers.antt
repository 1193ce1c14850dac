use Rattle.std.proofs.Common.{Some}
use Rattle.lnt_gsym.proofs.InfoLemmas.{all_judged, judging_ends}
use Rattle.lnt_gsym.proofs.info.judge_parts.Goals as goal

pub returns-in-Ok-false : goal.returns-in-Ok-false
returns-in-Ok-false c = all_judged c.args.files c.args.start c.args.cursor.now c.loop-fault.cursor c.judge_part.new.cursor
    c.in-Ok-false.field-0 c.loop-fault.invariant c.in-Ok-false.ensures.step c.in-Ok-false.field-0-test

pub returns-in-Err : goal.returns-in-Err
returns-in-Err c = judging_ends c.args.files c.args.start c.args.cursor.now c.loop-fault.cursor (Some c.in-Err.fault)
    c.loop-fault.invariant c.in-Err.ensures.fault
