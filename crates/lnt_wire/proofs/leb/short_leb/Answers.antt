use Rattle.std.proofs.Common.{arith, refl}
use Rattle.lnt_wire.proofs.LebLemmas.{scale_fits, sum_fits, sum_room, one_more_group, last_group_found}
use Rattle.lnt_wire.proofs.leb.short_leb.Goals as goal

pub overflow_add-sum : goal.overflow_add-sum
overflow_add-sum c =
    let few = c.loop-i.invariant in
    let room = sum_room c.from.result c.loop-i.sum c.loop-i.scale (omega (arith, c.from.ensures))
    (sum_fits c.args.bytes.now c.loop-i.i c.loop-i.sum c.loop-i.scale (omega arith) c.loop-i-test.true few.sum_is few.scale_is)
    (scale_fits c.loop-i.i c.loop-i.scale (omega arith) few.scale_is) in
    omega (arith, room)

pub returns-then-byte-lt128 : goal.returns-then-byte-lt128
returns-then-byte-lt128 c =
    last_group_found c.args.bytes.now c.loop-i.i c.loop-i.sum c.loop-i.scale _ _ c.loop-i.invariant
    (omega arith) c.loop-i-test.true c.if-byte-lt128.true (rw c.from.ensures refl) refl

pub loop-i-preserved : goal.loop-i-preserved
loop-i-preserved c =
    one_more_group c.args.bytes.now c.loop-i.i c.loop-i.sum c.loop-i.scale _ _ c.loop-i.invariant
    (omega arith) c.loop-i-test.true c.if-byte-lt128.false (rw c.from.ensures refl) refl
