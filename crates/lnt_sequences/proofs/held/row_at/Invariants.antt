use Rattle.std.proofs.Common.{List}
use Rattle.lnt_machine.specs.declared.row.Row.{Row}
use Rattle.lnt_machine.specs.Walking.{WillGive}
use Rattle.lnt_sequences.specs.Briefs.{IsCheckpointIn, IsNotAbove}
use Rattle.lnt_sequences.specs.RowSpans.{rows_left}
use Rattle.lnt_sequences.proofs.held.row_at.Given as goal

abbrev pub invariant-loop-position : goal.invariant-loop-position
invariant-loop-position l = record {
  in_rows : (list : List Row) → WillGive list l.fn.rows → IsCheckpointIn list l.checkpoint;
  not_above : IsNotAbove l.checkpoint.last l.position;
}

abbrev pub decreases-loop-position : goal.decreases-loop-position
decreases-loop-position l = rows_left l.checkpoint.after
