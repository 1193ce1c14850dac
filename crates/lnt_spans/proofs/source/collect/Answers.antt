use Rattle.std.proofs.Common.{List, sym, subst}
use Rattle.lnt_spans.specs.declared.span.Span.{Span}
use Rattle.lnt_spans.proofs.ComingLaws.{all_given, HasGiven, none_given, one_given}
use Rattle.lnt_spans.proofs.source.collect.Goals as goal

pub loop-span-init : goal.loop-span-init
loop-span-init g c list coming =
    subst (λ (given : List Span). HasGiven list given (g.S.SpanSource.to_come c.args.spans)) (sym c.new-all.ensures.items)
    (none_given list (g.S.SpanSource.to_come c.args.spans) coming)

pub loop-span-preserved : goal.loop-span-preserved
loop-span-preserved g c list coming =
    subst (λ (given : List Span). HasGiven list given (g.S.SpanSource.to_come c.next_span.new.self)) (sym c.in_ok-push.ensures.items)
    (one_given list c.loop-span.all.items c.in-Some.span (g.S.SpanSource.to_come c.loop-span.spans)
    (g.S.SpanSource.to_come c.next_span.new.self) (c.loop-span.invariant list coming) c.in-Some.ensures.gives)

pub returns : goal.returns
returns g c list coming =
    sym (all_given list c.loop-span.all.items (g.S.SpanSource.to_come c.loop-span.spans) (g.S.SpanSource.to_come c.next_span.new.self)
    (c.loop-span.invariant list coming) c.in_default.ensures.gives)
