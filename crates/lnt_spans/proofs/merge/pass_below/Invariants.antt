use Rattle.std.specs.Prelude.{List, Option}
use Rattle.lnt_spans.specs.declared.answer.Answer.{Answer}
use Rattle.lnt_spans.specs.declared.span.Span.{Span}
use Rattle.lnt_spans.specs.Remaining.{count_ahead, IsAhead}
use Rattle.lnt_spans.specs.Merged.{AnswersNothing, AreCounted}
use Rattle.lnt_spans.specs.Positions.{IsAtMost, Position}
use Rattle.lnt_spans.proofs.merge.pass_below.Given as goal

abbrev pub invariant-loop-span : goal.invariant-loop-span
invariant-loop-span g l =
    (tell : Answer → g.T.Telling.Told) (list : List Span) (by_table : Position → Option g.T.Telling.Told) (at : Position)
    → IsAtMost at l.end
    → AnswersNothing by_table at l.end → AreCounted tell list by_table at (IsAhead g.S.SpanSource.to_come l.fn.spans) l.fn.missed
    → (to : Position) × IsAtMost to l.end × AnswersNothing by_table to l.end
    × AreCounted tell list by_table to (IsAhead g.S.SpanSource.to_come l.spans) l.missed

abbrev pub decreases-loop-span : goal.decreases-loop-span
decreases-loop-span g l = count_ahead l.spans.next (g.S.SpanSource.left l.spans.spans)
