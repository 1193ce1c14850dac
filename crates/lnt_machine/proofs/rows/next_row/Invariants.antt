use Rattle.std.proofs.Common.{◌≡◌, ◌≤◌, length}
use Rattle.lnt_machine.specs.RowWalks.{RunsToRow}
use Rattle.lnt_machine.proofs.rows.next_row.Given as goal

abbrev pub invariant-loop-op : goal.invariant-loop-op
invariant-loop-op l =
    (l.run.machine.numbers ≡ l.ops.numbers) × (length l.ops.at.rest ≤ length l.fn.ops.at.rest)
    × RunsToRow l.fn.run l.fn.ops l.run l.ops
