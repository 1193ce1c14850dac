use Rattle.std.proofs.Common.{arith, ◌+◌, ◌-◌}
use Rattle.lnt_gsym.proofs.EntryLemmas.{one_passed}
use Rattle.lnt_gsym.proofs.entries.next_above.Goals as goal

pub loop-left-preserved : goal.loop-left-preserved
loop-left-preserved c = one_passed c.args.order c.args.base c.args.start c.args.size c.args.count c.loop-left.left (c.loop-left.left - 1)
    (c.from.result + c.from-in-loop-left.result) c.args.starts.now c.loop-left.rest.now c.rest_after-after.result.now
    c.loop-left.invariant (omega (arith, c.loop-left-test.true))
    (omega (arith, c.from.ensures, c.from-in-loop-left.ensures, c.offset_of.ensures)) c.if-start-next.false c.rest_after-after.ensures
