use Rattle.std.proofs.Common.{◌≡◌, ◌≤◌, length}
use Rattle.lnt_lines.specs.Running.{GoesOnTo}
use Rattle.lnt_lines.proofs.run.Watched.step_short.Given as goal

abbrev pub invariant-loop-op : goal.invariant-loop-op
invariant-loop-op l =
    (l.self.run.machine.numbers ≡ l.ops.numbers) × (l.self.length ≡ l.fn.self.length) × (length l.ops.at.rest ≤ length l.fn.ops.at.rest)
    × GoesOnTo l.fn.ops l.ops l.fn.self l.self l.fn.collected l.collected l.fn.places.items l.places.items

abbrev pub decreases-loop-op : goal.decreases-loop-op
decreases-loop-op l = length l.ops.at.rest
