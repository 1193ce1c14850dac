use Rattle.std.proofs.Common.{◌∙◌, sym}
use Rattle.lnt_compare.proofs.PassingLemmas.{gives_next}
use Rattle.lnt_compare.proofs.remaining.RemainingSpanSource.next_span.Goals as goal

pub returns-clause-gives : goal.returns-clause-gives
returns-clause-gives g c =
    let own = c.args.self.now in
    gives_next (g.S.SpanSource.to_come own.spans) (g.S.SpanSource.to_come c.next_span.new.self) own.first own.second
    c.take.new.self c.take-2.new.self own.is_ended c.next_span.result
    (sym c.take.ensures.value ∙ c.in_default.is) (sym c.take-2.ensures.value ∙ c.in_default-take.is) c.take.ensures.after
    c.take-2.ensures.after c.if-self.false c.next_span.ensures.gives
