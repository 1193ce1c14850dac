use Rattle.std.proofs.Common.{sym, ◌∙◌}
use Rattle.lnt_gsym.proofs.InfoLemmas.{parts_judged}
use Rattle.lnt_gsym.proofs.info.judge_info.Goals as goal

pub returns-in-Ok : goal.returns-in-Ok
returns-in-Ok c = sym (parts_judged c.args.files c.args.start c.in_ok-number.field-0 c.in_ok-number-2.field-0 c.args.cursor.now
    c.number.new.cursor c.number-2.new.cursor c.in_ok-number.ensures.read c.in_ok-number-2.ensures.read) ∙ c.in-Ok.ensures

pub returns-in-Err : goal.returns-in-Err
returns-in-Err c = sym (parts_judged c.args.files c.args.start c.in_ok-number.field-0 c.in_ok-number-2.field-0 c.args.cursor.now
    c.number.new.cursor c.number-2.new.cursor c.in_ok-number.ensures.read c.in_ok-number-2.ensures.read) ∙ c.in-Err.ensures
