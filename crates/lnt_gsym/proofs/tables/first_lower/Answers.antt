use Rattle.std.proofs.Common.{◌+◌, ◌-◌, arith, sym}
use Rattle.lnt_gsym.proofs.TableLemmas.{first_lowest, lower_found, next_lowest}
use Rattle.lnt_gsym.proofs.tables.first_lower.Goals as goal

pub loop-left-init : goal.loop-left-init
loop-left-init c = first_lowest c.args.order c.args.size c.args.count (c.args.count - 1) c.offset_of-last.result c.args.bytes.now
    c.rest_after-rest.result.now c.offset_of-last.ensures c.rest_after-rest.ensures (omega (arith, c.if-count-eq0.false)) c.requires.length
    (omega (arith, c.ranges.size.fits)) (omega (arith, c.ranges.count.fits))

pub returns-then-next-last : goal.returns-then-next-last
returns-then-next-last c = rw c.from-place.ensures (sym (lower_found c.args.order c.args.size c.args.count c.loop-left.last
    c.loop-left.place c.loop-left.left (c.loop-left.left - 1) c.args.bytes.now c.loop-left.rest.now c.loop-left.invariant
    (omega (arith, c.loop-left-test.true)) (omega (arith, c.offset_of-next.ensures, c.if-next-last.true))))

pub loop-left-preserved : goal.loop-left-preserved
loop-left-preserved c = next_lowest c.args.order c.args.size c.args.count c.loop-left.last c.loop-left.place c.loop-left.left
    (c.loop-left.left - 1) c.offset_of-next.result (c.loop-left.place + c.from-place.result) c.args.bytes.now c.loop-left.rest.now
    c.rest_after-after.result.now c.loop-left.invariant (omega (arith, c.loop-left-test.true)) c.offset_of-next.ensures
    c.if-next-last.false (omega (arith, c.from-place.ensures)) c.rest_after-after.ensures
