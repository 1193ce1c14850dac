use Rattle.std.specs.Prelude.{List}
use Rattle.std.specs.List.{AllByRecursion}
use Rattle.lnt_spans.specs.declared.span.Span.{Span}
use Rattle.lnt_spans.specs.Spans.{IsOfInstructions, AreInOrder}
use Rattle.lnt_compare.specs.Joining.{AreToJoin, LeaveOff, count_to_join}
use Rattle.lnt_writing.proofs.border.first_operation.Given as goal

abbrev pub invariant-loop-joined : goal.invariant-loop-joined
invariant-loop-joined g l = (given : List Span) × AllByRecursion IsOfInstructions given
    × g.T.Telling.is_sound l.telling l.memory
    × ((list : List Span) → g.S.SpanSource.to_come l.fn.spans list → AreInOrder list
    → LeaveOff (g.T.Telling.tell l.telling) (AreToJoin g.S.SpanSource.to_come l.joined) list given)

abbrev pub decreases-loop-joined : goal.decreases-loop-joined
decreases-loop-joined g l = count_to_join g.S.SpanSource.left l.joined
