use Rattle.std.proofs.Common.{arith, refl}
use Rattle.lnt_text.proofs.PutLemmas.{first_digit, two_digits_more, two_digits_room, written_all, written_first}
use Rattle.lnt_text.proofs.put.digits_before.Goals as goal

pub loop-left-init : goal.loop-left-init
loop-left-init c =
    rw (c.digit.ensures, c.base-base.ensures.value)
    (written_first c.args.radix c.args.n c.args.end c.args.text.now c.ranges.n.fits c.requires.0 c.requires.1)

pub overflow_sub-text-in-loop-left : goal.overflow_sub-text-in-loop-left
overflow_sub-text-in-loop-left c =
    two_digits_room c.args.radix c.args.n c.args.end c.args.text.now c.loop-left.text c.loop-left.start c.loop-left.left
    c.loop-left.invariant (rw c.base-base.ensures.value at c.loop-left-test.true)

pub overflow_sub-start-in-loop-left : goal.overflow_sub-start-in-loop-left
overflow_sub-start-in-loop-left c =
    two_digits_room c.args.radix c.args.n c.args.end c.args.text.now c.loop-left.text c.loop-left.start c.loop-left.left
    c.loop-left.invariant (rw c.base-base.ensures.value at c.loop-left-test.true)

pub loop-left-preserved : goal.loop-left-preserved
loop-left-preserved c =
    rw (c.pair-first.ensures.second, c.pair-first.ensures.first, c.base-base.ensures.value)
    (two_digits_more c.args.radix c.args.n c.args.end c.args.text.now c.loop-left.text c.loop-left.start c.loop-left.left
    c.loop-left.invariant (rw c.base-base.ensures.value at c.loop-left-test.true))

pub returns-clause-written : goal.returns-clause-written
returns-clause-written c =
    rw (c.digit-2.ensures)
    (written_all c.args.radix c.args.n c.args.end c.args.text.now _ _ 0 c.ranges.n.fits
    (first_digit c.args.radix c.args.n c.args.end c.args.text.now c.loop-left.text c.loop-left.start c.loop-left.left
    c.loop-left.invariant (omega (arith, c.if-left-eq0.false)) (omega (arith, c.base-base.ensures.value, c.loop-left-test.false))) refl)
