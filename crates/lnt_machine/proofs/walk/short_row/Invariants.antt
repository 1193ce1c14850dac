use Rattle.std.proofs.Common.{◌≡◌, ◌≤◌, List, length}
use Rattle.lnt_header.specs.declared.numbers.NumberParts.{NumberParts}
use Rattle.lnt_machine.specs.Walking.{HasRows}
use Rattle.lnt_machine.specs.declared.row.Row.{Row}
use Rattle.lnt_machine.proofs.walk.short_row.Given as goal

abbrev pub invariant-loop-op : goal.invariant-loop-op
invariant-loop-op l =
    (l.machine.numbers ≡ l.ops.numbers) × (length l.ops.at.rest ≤ length l.fn.ops.at.rest)
    × ((h : NumberParts) (rows : List Row) → HasRows h rows l.fn.machine l.fn.ops → HasRows h rows l.machine l.ops)

abbrev pub decreases-loop-op : goal.decreases-loop-op
decreases-loop-op l = length l.ops.at.rest
