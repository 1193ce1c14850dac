use Rattle.std.proofs.Common.{◌≡◌, ◌≤◌, length}
use Rattle.lnt_lines.specs.Light.{PassesTo}
use Rattle.lnt_lines.proofs.light.Light.step_short.Given as goal

abbrev pub invariant-loop-op : goal.invariant-loop-op
invariant-loop-op l =
    (l.self.run.machine.numbers ≡ l.ops.numbers) × (l.self.length ≡ l.fn.self.length) × (l.self.files ≡ l.fn.self.files)
    × (length l.ops.at.rest ≤ length l.fn.ops.at.rest)
    × PassesTo l.fn.ops l.ops l.fn.self l.self l.fn.passed.items l.passed.items

abbrev pub decreases-loop-op : goal.decreases-loop-op
decreases-loop-op l = length l.ops.at.rest
