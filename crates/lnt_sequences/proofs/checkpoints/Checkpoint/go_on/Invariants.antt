use Rattle.std.proofs.Common.{◌+◌, ◌≤◌, List}
use Rattle.lnt_machine.specs.declared.row.Row.{Row}
use Rattle.lnt_sequences.specs.Briefs.{IsCheckpointIn, IsNotAbove}
use Rattle.lnt_sequences.specs.RowSpans.{rows_left}
use Rattle.lnt_sequences.proofs.checkpoints.Checkpoint.go_on.Given as goal

abbrev pub invariant-loop : goal.invariant-loop
invariant-loop l = record {
  in_rows : (rows : List Row) → IsCheckpointIn rows l.fn.self → IsCheckpointIn rows (record { last = l.self.last; after = l.after });
  not_above : IsNotAbove l.self.last l.position;
  fewer : rows_left l.after + l.counter ≤ rows_left l.fn.self.after;
}
