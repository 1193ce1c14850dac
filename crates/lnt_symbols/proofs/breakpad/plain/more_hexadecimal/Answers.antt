use Rattle.std.proofs.Common.{◌<◌, ◌+◌, ◌*◌, ◌^◌, arith}
use Rattle.lnt_symbols.proofs.FieldLemmas.{room_for_digit}
use Rattle.lnt_symbols.proofs.breakpad.plain.more_hexadecimal.Goals as goal

pub overflow_mul-value : goal.overflow_mul-value
overflow_mul-value c =
    let fits : c.loop-i.value * 16 + 0 < 2 ^ 64 =
    room_for_digit c.loop-i.value 0 (c.loop-i.i + 1) c.loop-i.invariant.bound (omega arith) (omega arith) in
    omega (arith, fits)

pub overflow_add-value : goal.overflow_add-value
overflow_add-value c =
    let fits : c.loop-i.value * 16 + c.hexadecimal_value_of.result < 2 ^ 64 =
    room_for_digit c.loop-i.value c.hexadecimal_value_of.result (c.loop-i.i + 1) c.loop-i.invariant.bound
    c.hexadecimal_value_of.ensures.few (omega arith) in
    omega (arith, fits)
