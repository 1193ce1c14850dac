use Rattle.std.proofs.Common.{rules, ◌<◌, ◌+◌, ◌*◌, ◌^◌, arith}
use Rattle.lnt_symbols.proofs.PlainLemmas.{room_for_decimal}
use Rattle.lnt_symbols.proofs.breakpad.plain.more_decimal.Goals as goal

pub overflow_add-value : goal.overflow_add-value
overflow_add-value c =
    let digit : c.value_of.result < 10 = c.value_of.ensures.decimal (search rules) in
    let fits : c.loop-i.value * 10 + c.value_of.result < 2 ^ 32 =
    room_for_decimal c.loop-i.value c.value_of.result (c.loop-i.i + 1) c.loop-i.invariant.bound digit (omega arith) in
    omega (arith, fits)
