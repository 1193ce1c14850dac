use Rattle.std.proofs.Common.{◌≡◌, ◌<◌, length, sym, ap, ◌∙◌, arith, rules}
use Rattle.std.proofs.lemmas.Bool.{eqb-false, eqb-true}
use Rattle.std.proofs.lemmas.Result.{err_from_is_err_and}
use Rattle.std.proofs.lemmas.Grind.{common_steps}
use Rattle.lnt_unit.proofs.JudgeLemmas.{judged_broken, judged_sound, judged_none, judged_more, judged_large, judged_long}
use Rattle.lnt_unit.proofs.convert.judge_conversion.Goals as goal

pub returns-in_err-converts-clause-err : goal.returns-in_err-converts-clause-err
returns-in_err-converts-clause-err c =
    let p = err_from_is_err_and c.from_residual.result c.from_residual.ensures.1 in
    let at = c.loop-cursor.cursor in
    let some : 0 < length at.rest = omega
    (arith, eqb-false _ _ (sym c.is_empty.ensures ∙ c.loop-cursor-test.true), ap length c.rest.ensures) in
    rw p.1
    (judged_broken c.args.order c.args.bytes.now c.args.format c.args.to c.loop-cursor.large at c.in_err-converts.field-0.0 p.0
    c.loop-cursor.invariant some c.in_err-converts.ensures.err p.2)

pub returns-in-None-clause-ok : goal.returns-in-None-clause-ok
returns-in-None-clause-ok c =
    let at = c.loop-cursor.cursor in
    let ended : length at.rest ≡ 0 = omega
    (arith, eqb-true _ _ (sym c.is_empty.ensures ∙ c.loop-cursor-test.false), ap length c.rest.ensures) in
    judged_sound c.args.order c.args.bytes.now c.args.format c.args.to c.loop-cursor.large at c.loop-cursor.invariant c.in-None.is ended

pub loop-cursor-preserved : goal.loop-cursor-preserved
loop-cursor-preserved c = search (rules, judged_none, judged_more, judged_sound, judged_large, judged_long)

pub loop-cursor-smaller : goal.loop-cursor-smaller
loop-cursor-smaller c = search (rules, judged_none, judged_more, judged_sound, judged_large, judged_long)

pub returns-in-Some-clause-err : goal.returns-in-Some-clause-err
returns-in-Some-clause-err c = grind (arith, common_steps)
