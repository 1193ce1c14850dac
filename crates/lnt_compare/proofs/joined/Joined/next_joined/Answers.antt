use Rattle.std.proofs.Common.{List, arith}
use Rattle.lnt_spans.specs.declared.span.Span.{Span}
use Rattle.lnt_compare.proofs.StepLemmas.{stands_grown}
use Rattle.lnt_compare.proofs.joined.Joined.next_joined.Goals as goal

pub loop-span-preserved : goal.loop-span-preserved
loop-span-preserved g c =
    let inv = c.loop-span.invariant in
    let old : List Span → Type 0 = g.S.SpanSource.to_come c.loop-span.self.spans in
    let new : List Span → Type 0 = g.S.SpanSource.to_come c.next_span.new.self in
    let goes = rw c.if-not-branch.false at c.in_ok-goes_on.ensures.goes in (
      inv.0,
      omega (arith, inv.1, c.in-Some-next_span.ensures.fewer),
      c.in_ok-goes_on.ensures.sound,
      λ list left. stands_grown (g.T.Telling.tell c.args.telling.now) list old new c.loop-span.last c.in-Some-next_span.span
          c.in-Some-next_span.ensures.gives goes (inv.3 list left),
    )
