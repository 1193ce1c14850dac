use Rattle.std.proofs.Common.{◌∙◌, ap, not, sym, true≢false}
use Rattle.lnt_older.proofs.ZeroRowLemmas.{is_no_end, sought_ended, sought_found, sought_next, sought_stopped}
use Rattle.lnt_older.proofs.rows.first_zero_row.Goals as goal
use Rattle.lnt_older.proofs.rows.first_zero_row.Goals.{else-row-eq0-via-then-row-eq0+else-not-row, else-row-eq0-via-else-row-eq0}

pub returns-in_default-row : goal.returns-in_default-row
returns-in_default-row c =
    sought_stopped c.args.numbers.now c.args.program.now c.loop-row.index c.loop-row.rows c.next.new.self c.loop-row.invariant
    c.in_default-row.field-0 (rw c.in_default-row.is at c.in-Some.ensures.steps)

pub returns-then-not-row : goal.returns-then-not-row
returns-then-not-row c =
    sought_found c.args.numbers.now c.args.program.now c.loop-row.index c.loop-row.rows c.next.new.self c.loop-row.invariant c.in-Ok.row
    (rw c.in-Ok.is at c.in-Some.ensures.steps) (is_no_end c.in-Ok.row.end_sequence c.if-not-row.true) c.if-row-eq0.true

pub loop-row-preserved : goal.loop-row-preserved
loop-row-preserved c =
    sought_next c.args.numbers.now c.args.program.now c.loop-row.index c.loop-row.rows c.next.new.self c.loop-row.invariant c.in-Ok.row
    (rw c.in-Ok.is at c.in-Some.ensures.steps) (λ zero. elim c.else-row-eq0.branch [
      | else-row-eq0-via-then-row-eq0+else-not-row w ↦ true≢false (sym (ap not zero.0) ∙ w.if-not-row.false)
      | else-row-eq0-via-else-row-eq0 w ↦ w.if-row-eq0.false zero.1
    ])

pub returns : goal.returns
returns c = sought_ended c.args.numbers.now c.args.program.now c.loop-row.index c.loop-row.rows c.next.new.self c.loop-row.invariant
    c.in_default.ensures.steps
