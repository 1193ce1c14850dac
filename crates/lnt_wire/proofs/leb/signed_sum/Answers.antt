use Rattle.std.proofs.Common.{arith, ◌-◌, ◌%◌, ◌^◌, ◌≡◌, get_or, drop, subst, sym, ℤ, pos, ◌+ℤ◌, ◌*ℤ◌, neg_ℤ, ◌≤ℤ◌, ◌<ℤ◌}
use Rattle.std.specs.Int.{w64, cast_signed}
use Rattle.std.proofs.lemmas.Int.{ints}
use Rattle.lnt_wire.specs.Leb128.{signed_groups}
use Rattle.lnt_wire.proofs.LebLemmas.{end_of, signed_before, large_signed, computed_more}
use Rattle.lnt_wire.proofs.LebLemmas.IsFar.{above, under}
use Rattle.lnt_wire.proofs.leb.signed_sum.Goals as goal
use Rattle.lnt_wire.proofs.leb.signed_sum.Goals.{then-sum-via-then-sum, then-sum-via-else-sum+then-sum-2}

pub last_group-sum-requires : goal.last_group-sum-requires
last_group-sum-requires c = (end_of c.args.spelling.now c.requires).low

pub returns-then-sum : goal.returns-then-sum
returns-then-sum c = large_signed c.args.spelling.now c.loop-i.i c.loop-i-test.true c.loop-i.invariant.within
    (elim c.then-sum.branch [
      | then-sum-via-then-sum w ↦ above
          (grind (arith, ints, w.if-sum.true, c.loop-i.invariant.sum))
      | then-sum-via-else-sum+then-sum-2 w ↦ under
          (grind (arith, ints, w.if-sum-2.true, c.loop-i.invariant.sum))
    ])

pub loop-i-preserved : goal.loop-i-preserved
loop-i-preserved c =
    let byte = get_or c.args.spelling.now (c.loop-i.i - 1) 0 in
    let before = signed_before c.args.spelling.now c.loop-i.i c.loop-i-test.true c.loop-i.invariant.within in
    let sum = cast_signed w64 c.loop-i.sum-bits in
    let high : sum <ℤ pos (2 ^ 56) = grind (arith, ints, c.if-sum.false) in
    let low : neg_ℤ (pos (2 ^ 56)) ≤ℤ sum = grind (arith, ints, c.if-sum-2.false) in
    let known =
    subst (λ (z : ℤ). signed_groups (drop (c.loop-i.i - 1) c.args.spelling.now) ≡ pos (byte % 128) +ℤ pos 128 *ℤ z)
    (sym c.loop-i.invariant.sum) before in
    record {
      within = omega arith;
      sum = computed_more sum (signed_groups (drop (c.loop-i.i - 1) c.args.spelling.now)) c.from.result byte high low c.from.ensures known;
    }
