use Rattle.std.proofs.Common.{arith, ◌-◌}
use Rattle.lnt_gsym.proofs.JudgeLemmas.{entry_judged, entry_refused}
use Rattle.lnt_gsym.proofs.file.judge_entries.Goals as goal

pub returns-in-Err : goal.returns-in-Err
returns-in-Err c = entry_refused c.args.of.order c.args.bytes.now c.args.of.base c.args.of.files c.args.of.address_size c.args.count
    c.loop-left.left (c.loop-left.left - 1) c.loop-left.starts.now c.loop-left.infos.now c.args.starts.now c.args.infos.now c.in-Err.fault
    c.loop-left.invariant (omega (arith, c.loop-left-test.true)) c.in-Err.ensures

pub loop-left-preserved : goal.loop-left-preserved
loop-left-preserved c = entry_judged c.args.of.order c.args.bytes.now c.args.of.base c.args.of.files c.args.of.address_size c.args.count
    c.loop-left.left (c.loop-left.left - 1) c.loop-left.starts.now c.loop-left.infos.now c.rest_after-later_starts.result.now
    c.rest_after-later_infos.result.now c.args.starts.now c.args.infos.now c.loop-left.invariant (omega (arith, c.loop-left-test.true))
    c.in-Ok.ensures c.rest_after-later_starts.ensures c.rest_after-later_infos.ensures
