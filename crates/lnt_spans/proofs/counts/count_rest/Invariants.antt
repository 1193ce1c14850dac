use Rattle.std.specs.Prelude.{ℕ, List}
use Rattle.lnt_spans.specs.declared.span.Span.{Span}
use Rattle.lnt_spans.specs.Partial.{CountsTo}
use Rattle.lnt_spans.proofs.CountLemmas.{CountsOn}
use Rattle.lnt_spans.proofs.counts.count_rest.Given as goal

abbrev pub invariant-loop-span : goal.invariant-loop-span
invariant-loop-span g l =
    (total : ℕ) (list : List Span) → CountsTo g.S.SpanSource.to_come total l.fn.spans l.fn.count list
    → CountsOn g.S.SpanSource.to_come total l.spans l.count

abbrev pub decreases-loop-span : goal.decreases-loop-span
decreases-loop-span g l = g.S.SpanSource.left l.spans
