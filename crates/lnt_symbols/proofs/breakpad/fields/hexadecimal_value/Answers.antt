use Rattle.std.proofs.Common.{◌<◌, ◌+◌, ◌*◌, ◌^◌, arith}
use Rattle.std.proofs.lemmas.Grind.{common_steps}
use Rattle.lnt_symbols.proofs.FieldLemmas.{room_for_digit}
use Rattle.lnt_symbols.proofs.breakpad.fields.hexadecimal_value.Goals as goal

pub overflow_mul-value : goal.overflow_mul-value
overflow_mul-value c =
    let i : c.loop-byte.byte-index < 16 = omega arith in
    let fits : c.loop-byte.value * 16 + 0 < 2 ^ 64 =
    room_for_digit c.loop-byte.value 0 c.loop-byte.byte-index c.loop-byte.invariant.bound (omega arith) i in
    omega (arith, fits)

pub overflow_add-value : goal.overflow_add-value
overflow_add-value c =
    let digit : c.value_of.result < 16 = c.value_of.ensures.hexadecimal (grind (arith, common_steps, c.loop-byte.invariant.all)) in
    let i : c.loop-byte.byte-index < 16 = omega arith in
    let fits : c.loop-byte.value * 16 + c.value_of.result < 2 ^ 64 = room_for_digit _ _ _ c.loop-byte.invariant.bound digit i in
    omega (arith, fits)
