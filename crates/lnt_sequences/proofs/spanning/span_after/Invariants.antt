use Rattle.std.proofs.Common.{◌≤◌, List, Some}
use Rattle.lnt_spans.specs.declared.span.Span.{Span}
use Rattle.lnt_sequences.specs.RowSpans.{HasSpans, rows_left}
use Rattle.lnt_sequences.proofs.spanning.span_after.Given as goal

abbrev pub invariant-loop-low : goal.invariant-loop-low
invariant-loop-low l = (rows_left l.rows ≤ rows_left l.fn.rows)
    × ((spans : List Span) → HasSpans l.fn.unit spans l.fn.rows (Some l.fn.row) → HasSpans l.fn.unit spans l.rows (Some l.row))

abbrev pub decreases-loop-low : goal.decreases-loop-low
decreases-loop-low l = rows_left l.rows
