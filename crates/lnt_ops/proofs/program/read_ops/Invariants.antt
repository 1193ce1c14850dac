use Rattle.std.proofs.Common.{◌≡◌, false}
use Rattle.lnt_ops.specs.Stepping.{OpsSoFar}
use Rattle.lnt_ops.proofs.program.read_ops.Given as goal

abbrev pub invariant-loop-view : goal.invariant-loop-view
invariant-loop-view l = (l.view-iterator.numbers ≡ l.fn.numbers) × (l.view-iterator.failed ≡ false)
    × OpsSoFar l.fn.numbers l.fn.place l.fn.program l.ops.items l.view-iterator.at
