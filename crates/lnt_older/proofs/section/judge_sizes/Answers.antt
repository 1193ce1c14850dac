use Rattle.std.proofs.Common.{◌∙◌, ◌<◌, length, ap, arith, rules, sym}
use Rattle.std.proofs.lemmas.Bool.{eqb-false}
use Rattle.lnt_older.proofs.SizeLemmas.{sized_large, sized_next}
use Rattle.lnt_older.proofs.section.judge_sizes.Goals as goal

pub returns-in-Err-TooLarge-clause-err : goal.returns-in-Err-TooLarge-clause-err
returns-in-Err-TooLarge-clause-err c =
    let large = c.in-Err-TooLarge.ensures.err in
    sized_large c.args.order c.args.address_size c.args.directories.now c.args.bytes.now c.loop-cursor.cursor c.place-offset.result
    c.loop-cursor.invariant (search rules) c.place-offset.ensures.value

pub append_unit-requires-clause-next : goal.append_unit-requires-clause-next
append_unit-requires-clause-next c =
    let at = c.loop-cursor.cursor in
    let some : 0 < length at.rest = omega
    (arith, eqb-false _ _ (sym c.is_empty.ensures ∙ c.loop-cursor-test.true), ap length c.rest.ensures) in
    sized_next c.args.order c.args.address_size c.args.directories.now c.args.bytes.now at c.loop-cursor.invariant some
