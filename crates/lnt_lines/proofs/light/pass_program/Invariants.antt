use Rattle.std.proofs.Common.{◌≡◌, ◌≤◌, length, ℕ, Option}
use Rattle.lnt_lines.specs.Light.{Fits, HasPassed}
use Rattle.lnt_lines.proofs.light.pass_program.Given as goal

abbrev pub invariant-loop-op : goal.invariant-loop-op
invariant-loop-op l =
    (l.light.run.machine.numbers ≡ l.ops.numbers) × (length l.ops.at.rest ≤ l.light.length)
    × ((dead : Option ℕ) → HasPassed dead l.fn.view l.ops l.light l.passed.items) × Fits l.fn.view l.light

abbrev pub decreases-loop-op : goal.decreases-loop-op
decreases-loop-op l = length l.ops.at.rest
