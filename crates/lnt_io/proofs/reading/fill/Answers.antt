use Rattle.std.proofs.Common.{arith}
use Rattle.std.proofs.lemmas.Grind.{common_steps}
use Rattle.lnt_io.proofs.PullLaws.{pulls_filled}
use Rattle.lnt_io.proofs.reading.fill.Goals as goal

pub loop-filled-preserved : goal.loop-filled-preserved
loop-filled-preserved g c = record {
  bound = grind (arith, common_steps);
  failures = grind (arith, common_steps);
  name = grind (arith, common_steps);
  left = grind (arith, common_steps);
  pulls =
      pulls_filled _ _ _ c.loop-filled.filled c.in_ok-count.count c.loop-filled.room c.pull.new.buf _ c.loop-filled.invariant.pulls
      c.in_ok-count.ensures.bytes c.loop-filled.invariant.bound c.in_ok-count.ensures.bound;
}

pub returns-then-count-eq0-clause-bytes : goal.returns-then-count-eq0-clause-bytes
returns-then-count-eq0-clause-bytes g c = grind (arith, common_steps)
