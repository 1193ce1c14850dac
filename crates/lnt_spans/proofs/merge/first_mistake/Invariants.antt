use Rattle.std.specs.Prelude.{List, Option}
use Rattle.lnt_spans.specs.declared.span.Span.{Span}
use Rattle.lnt_spans.specs.Remaining.{count_ahead, IsAhead}
use Rattle.lnt_spans.specs.Merged.{ArePassed, Says}
use Rattle.lnt_spans.specs.Positions.{IsAtMost, Position}
use Rattle.lnt_spans.proofs.merge.first_mistake.Given as goal

abbrev pub invariant-loop-held : goal.invariant-loop-held
invariant-loop-held g l = g.T.Telling.is_sound l.telling l.memory
    × g.T.Telling.recalls l.telling l.recalled l.held
    × IsAtMost l.at l.high
    × ((list : List Span) (by_table : Position → Option g.T.Telling.Told) → Says by_table l.fn.low l.high (g.T.Telling.said l.held)
    → ArePassed (g.T.Telling.tell l.telling) list by_table l.fn.low (IsAhead g.S.SpanSource.to_come l.fn.spans)
    → IsAtMost l.fn.low l.at × ArePassed (g.T.Telling.tell l.telling) list by_table l.at (IsAhead g.S.SpanSource.to_come l.spans))

abbrev pub decreases-loop-held : goal.decreases-loop-held
decreases-loop-held g l = count_ahead l.spans.next (g.S.SpanSource.left l.spans.spans)
