use Rattle.lnt_gsym.proofs.MadeLemmas.{none_left, none_made, none_read, one_made, one_passed}
use Rattle.lnt_gsym.proofs.made.next_made.Goals as goal

pub returns-in-Ok-None-clause-gives : goal.returns-in-Ok-None-clause-gives
returns-in-Ok-None-clause-gives c = none_left c.args.numbers c.args.last c.loop-done.row c.args.cursor.now c.loop-done.cursor
    c.operation.new.cursor c.in-Ok-None.field-0 c.loop-done.invariant c.in-Ok-None.ensures.read c.in-Ok-None.field-0-is

pub returns-in-Err-clause-gives : goal.returns-in-Err-clause-gives
returns-in-Err-clause-gives c = none_read c.args.numbers c.args.last c.loop-done.row c.args.cursor.now c.loop-done.cursor
    c.in-Err.field-0 c.loop-done.invariant c.in-Err.ensures.read

pub returns-then-row-clause-gives : goal.returns-then-row-clause-gives
returns-then-row-clause-gives c = one_made c.args.numbers c.args.last c.loop-done.row c.moved-row.result c.in-Ok-Some.done
    c.in-Ok-Some.field-0 c.args.cursor.now c.loop-done.cursor c.operation.new.cursor c.loop-done.invariant
    (c.in-Ok-Some.ensures.read, c.in-Ok-Some.field-0-is) c.moved-row.ensures c.if-done.true c.in-Ok-Some.ensures.smaller

pub returns-then-done-clause-gives : goal.returns-then-done-clause-gives
returns-then-done-clause-gives c = none_made c.args.numbers c.args.last c.loop-done.row c.moved-row.result c.in-Ok-Some.done
    c.in-Ok-Some.field-0 c.args.cursor.now c.loop-done.cursor c.operation.new.cursor c.loop-done.invariant
    (c.in-Ok-Some.ensures.read, c.in-Ok-Some.field-0-is) c.moved-row.ensures c.if-done.true c.in-Ok-Some.ensures.smaller
    c.if-row.false

pub loop-done-preserved : goal.loop-done-preserved
loop-done-preserved c = one_passed c.args.numbers c.args.last c.loop-done.row c.moved-row.result c.in-Ok-Some.done
    c.in-Ok-Some.field-0 c.args.cursor.now c.loop-done.cursor c.operation.new.cursor c.loop-done.invariant
    (c.in-Ok-Some.ensures.read, c.in-Ok-Some.field-0-is) c.moved-row.ensures c.if-done.false c.in-Ok-Some.ensures.still
    c.in-Ok-Some.ensures.smaller
