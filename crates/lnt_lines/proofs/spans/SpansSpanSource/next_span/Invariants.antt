use Rattle.std.specs.Prelude.{◌≤◌, List}
use Rattle.lnt_spans.specs.declared.span.Span.{Span}
use Rattle.lnt_lines.specs.Cursors.{AreToCome, most_left, room_for, room_of}
use Rattle.lnt_lines.proofs.spans.SpansSpanSource.next_span.Given as goal

abbrev pub invariant-loop-span : goal.invariant-loop-span
invariant-loop-span l =
    (most_left l.self ≤ most_left l.fn.self) × ((spans : List Span) → AreToCome l.fn.self spans → AreToCome l.self spans)

abbrev pub decreases-loop-span : goal.decreases-loop-span
decreases-loop-span l = room_for (room_of l.self.programs) l.self.entries
