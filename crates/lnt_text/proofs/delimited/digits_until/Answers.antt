use Rattle.std.proofs.Common.{◌<◌, ◌+◌, arith}
use Rattle.lnt_text.proofs.DelimitedLemmas.{digits_more, room_for_digit}
use Rattle.lnt_text.proofs.delimited.digits_until.Goals as goal
use Rattle.std.proofs.lemmas.Grind.{common_steps}

pub overflow_mul-value : goal.overflow_mul-value
overflow_mul-value c =
    let few : c.loop-i.i < c.args.at + 19 = omega (arith, c.loop-i-test.true, c.min-i-end.ensures, c.saturating_add.ensures) in
    let room = room_for_digit _ _ _ _ c.loop-i.invariant few in
    omega (arith, room)

pub overflow_add-value : goal.overflow_add-value
overflow_add-value c =
    let few : c.loop-i.i < c.args.at + 19 = omega (arith, c.loop-i-test.true, c.min-i-end.ensures, c.saturating_add.ensures) in
    let room = room_for_digit _ _ _ _ c.loop-i.invariant few in
    omega (arith, room, c.in-Some.ensures.2)

pub loop-i-preserved : goal.loop-i-preserved
loop-i-preserved c = grind (arith, common_steps, digits_more)
