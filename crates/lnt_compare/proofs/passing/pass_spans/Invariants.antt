use Rattle.std.specs.Prelude.{◌≡◌, ℕ, List}
use Rattle.lnt_spans.specs.declared.span.Span.{Span}
use Rattle.lnt_spans.specs.Partial.{addresses_of}
use Rattle.lnt_spans.specs.Spans.{AreInOrder}
use Rattle.lnt_compare.specs.Joining.{AreToJoin, LeaveOff, count_to_join}
use Rattle.lnt_compare.specs.Passing.{AreLinesOf, Passes}
use Rattle.lnt_compare.proofs.passing.pass_spans.Given as goal

abbrev pub invariant-loop-joined : goal.invariant-loop-joined
invariant-loop-joined g l = (text : List ℕ) × (table : List Span)
    × (g.T.Source.failures l.source ≡ g.T.Source.failures l.initial.source) × g.L.Telling.is_sound l.telling l.memory
    × Passes (g.T.Source.remaining l.initial.source) (g.T.Source.remaining l.source) (g.T.Source.left l.initial.source)
    (g.T.Source.left l.source) l.initial.window l.window text
    × AreLinesOf g.L.LineTelling.format g.L.LineTelling.plain (g.L.LineTelling.told l.telling) (g.L.LineTelling.version l.telling) text
    table l.count l.end
    × ((list : List Span) → g.S.SpanSource.to_come l.fn.spans list → AreInOrder list
    → LeaveOff (g.L.Telling.tell l.telling) (AreToJoin g.S.SpanSource.to_come l.joined) list table
    × (l.answered ≡ addresses_of table))
    × (g.T.Source.name l.source ≡ g.T.Source.name l.initial.source)

abbrev pub decreases-loop-joined : goal.decreases-loop-joined
decreases-loop-joined g l = count_to_join g.S.SpanSource.left l.joined
