use Rattle.std.proofs.Common.{◌≡◌, ◌<◌, length, [], sym, ap, ◌∙◌, arith, rules}
use Rattle.std.proofs.lemmas.Bool.{eqb-false, eqb-true}
use Rattle.std.proofs.lemmas.Result.{err_from_is_err_and}
use Rattle.lnt_unit.proofs.ConvertedLaws.{converted_all, converted_more, stops_by_memory, converted_none, converted_long}
use Rattle.lnt_unit.proofs.convert.convert_section.Goals as goal

pub loop-cursor-preserved : goal.loop-cursor-preserved
loop-cursor-preserved c =
    converted_more c.args.order c.args.bytes.now c.args.format c.args.to [] c.loop-cursor.cursor c.convert_unit.new.cursor
    c.loop-cursor.out.items c.convert_unit.new.out.items c.loop-cursor.invariant c.in_ok-convert_unit.ensures.ok

pub returns-clause-ok : goal.returns-clause-ok
returns-clause-ok c =
    let at = c.loop-cursor.cursor in
    let ended : length at.rest ≡ 0 = omega
    (arith, eqb-true _ _ (sym c.is_empty.ensures ∙ c.loop-cursor-test.false), ap length c.rest.ensures) in
    converted_all c.args.order c.args.bytes.now c.args.format c.args.to at c.loop-cursor.out.items c.loop-cursor.invariant ended

pub returns-in_err-convert_unit-clause-err : goal.returns-in_err-convert_unit-clause-err
returns-in_err-convert_unit-clause-err c =
    let at = c.loop-cursor.cursor in
    let some : 0 < length at.rest = omega
    (arith, eqb-false _ _ (sym c.is_empty.ensures ∙ c.loop-cursor-test.true), ap length c.rest.ensures) in
    let p = err_from_is_err_and c.from_residual-in_err-convert_unit.result c.from_residual-in_err-convert_unit.ensures.1 in
    let memory = stops_by_memory c.args.order c.args.bytes.now c.args.format c.args.to at c.loop-cursor.out.items
    c.in_err-convert_unit.field-0.0 c.in_ok-judge_conversion.ensures.ok c.loop-cursor.invariant some c.in_err-convert_unit.ensures.err in
    rw (p.1, p.2, memory) tt

pub loop-cursor-smaller : goal.loop-cursor-smaller
loop-cursor-smaller c = search (rules, converted_none, converted_all, converted_long)
