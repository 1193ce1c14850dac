use Rattle.std.specs.Prelude.{◌≡◌, ◌≤◌, List, None}
use Rattle.lnt_spans.specs.declared.span.Span.{Span}
use Rattle.lnt_spans.specs.Remaining.{SpansAreLeft}
use Rattle.lnt_compare.proofs.StepLemmas.{Stands}
use Rattle.lnt_compare.proofs.joined.Joined.next_joined.Given as goal

abbrev pub invariant-loop-span : goal.invariant-loop-span
invariant-loop-span g l = (l.self.next ≡ None) × (g.S.SpanSource.left l.self.spans ≤ g.S.SpanSource.left l.fn.self.spans)
    × g.T.Telling.is_sound l.telling l.memory
    × ((list : List Span) → SpansAreLeft g.S.SpanSource.to_come l.fn.self.next l.fn.self.spans list
    → Stands (g.T.Telling.tell l.telling) list (g.S.SpanSource.to_come l.self.spans) l.last)

abbrev pub decreases-loop-span : goal.decreases-loop-span
decreases-loop-span g l = g.S.SpanSource.left l.self.spans
