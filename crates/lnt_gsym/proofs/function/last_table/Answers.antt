use Rattle.std.proofs.Common.{arith}
use Rattle.lnt_gsym.specs.Reading.{part_said}
use Rattle.lnt_gsym.proofs.FunctionLemmas.{all_opened, none_opened, one_opened, one_skipped, part_faulty, rows_faulty}
use Rattle.lnt_gsym.proofs.function.last_table.Goals as goal

pub returns-in-Err-clause-last : goal.returns-in-Err-clause-last
returns-in-Err-clause-last c = part_faulty c.args.start c.args.address c.args.cursor.now c.loop-part.cursor c.loop-part.gate
    c.loop-part.has_table c.loop-part.rows c.in-Err.field-0 c.loop-part.invariant c.in-Err.ensures.read

pub returns-then-part-eq0-clause-last : goal.returns-then-part-eq0-clause-last
returns-then-part-eq0-clause-last c = all_opened c.args.start c.args.address c.args.cursor.now c.loop-part.cursor c.part.new.cursor
    c.loop-part.gate c.loop-part.has_table c.loop-part.rows (part_said c.in-Ok.part) c.loop-part.invariant c.in-Ok.ensures.read
    c.if-part-eq0.true

pub returns-in-None-clause-last : goal.returns-in-None-clause-last
returns-in-None-clause-last c = rows_faulty c.args.start c.args.address c.args.cursor.now c.loop-part.cursor c.part.new.cursor
    c.loop-part.gate c.loop-part.has_table c.loop-part.rows (part_said c.in-Ok.part) c.loop-part.invariant c.in-Ok.ensures.read
    c.if-part-eq1.true c.in-None.ensures.made

pub loop-part-preserved-then-part-eq1 : goal.loop-part-preserved-then-part-eq1
loop-part-preserved-then-part-eq1 c = one_opened c.args.start c.args.address c.args.cursor.now c.loop-part.cursor c.part.new.cursor
    c.loop-part.gate c.with-gate.result c.loop-part.has_table c.loop-part.rows c.in-Some.rows (part_said c.in-Ok.part)
    c.loop-part.invariant c.in-Ok.ensures.read c.if-part-eq1.true c.in-Ok.ensures.smaller c.in-Some.ensures.made c.in-Some.ensures.bound
    c.with-gate.ensures

pub loop-part-preserved : goal.loop-part-preserved
loop-part-preserved c = one_skipped c.args.start c.args.address c.args.cursor.now c.loop-part.cursor c.part.new.cursor c.loop-part.gate
    c.loop-part.has_table c.loop-part.rows (part_said c.in-Ok.part) c.loop-part.invariant c.in-Ok.ensures.read
    (λ z. omega (arith, c.if-part-eq0.false, z)) (λ z. omega (arith, c.if-part-eq1.false, z)) c.in-Ok.ensures.smaller

pub loop-part-init : goal.loop-part-init
loop-part-init c = none_opened c.args.start c.args.address c.args.cursor.now c.open-gate.result c.none-rows.result c.open-gate.ensures
    c.none-rows.ensures
