use Rattle.std.specs.Prelude.{List}
use Rattle.lnt_spans.specs.declared.span.Span.{Span}
use Rattle.lnt_spans.proofs.ComingLaws.{HasGiven}
use Rattle.lnt_spans.proofs.source.collect.Given as goal

abbrev pub invariant-loop-span : goal.invariant-loop-span
invariant-loop-span g l =
    (list : List Span) → g.S.SpanSource.to_come l.fn.spans list → HasGiven list l.all.items (g.S.SpanSource.to_come l.spans)

abbrev pub decreases-loop-span : goal.decreases-loop-span
decreases-loop-span g l = g.S.SpanSource.left l.spans
