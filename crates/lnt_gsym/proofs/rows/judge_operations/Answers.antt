use Rattle.lnt_gsym.proofs.RowLemmas.{run_over}
use Rattle.lnt_gsym.proofs.rows.judge_operations.Goals as goal

pub returns-in-None : goal.returns-in-None
returns-in-None c = run_over c.args.files c.args.numbers c.args.first c.loop-next.row c.args.cursor.now c.loop-next.cursor
    c.step.new.cursor c.in_ok-next.field-0 c.loop-next.invariant c.in_ok-next.ensures.step c.in-None.is
