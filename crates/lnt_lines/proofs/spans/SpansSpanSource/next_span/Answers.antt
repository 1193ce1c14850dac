use Rattle.std.proofs.Common.{List, None, subst, sym}
use Rattle.lnt_spans.specs.declared.span.Span.{Span}
use Rattle.lnt_spans.specs.Remaining.{GivesFirstSpan}
use Rattle.lnt_lines.specs.Cursors.{AreToCome}
use Rattle.lnt_lines.proofs.spans.SpansSpanSource.next_span.Goals as goal

pub returns-then-not-begin-clause-gives : goal.returns-then-not-begin-clause-gives
returns-then-not-begin-clause-gives c spans come =
    let later = c.in_default.ensures.gives spans (c.loop-span.invariant.1 spans come) in
    subst (λ (list : List Span). GivesFirstSpan (AreToCome c.begin.new.self) list None) (sym (c.if-not-begin.ensures.begins spans later)) tt
