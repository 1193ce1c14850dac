use Rattle.std.proofs.Common.{◌≡◌, ◌∙◌, subst, sym, Some, None}
use Rattle.std.proofs.lemmas.Option.{same_Some}
use Rattle.lnt_spans.specs.declared.span.Span.{Span}
use Rattle.lnt_spans.specs.Positions.{IsBelow}
use Rattle.lnt_spans.proofs.DerivedOrder.{at_most_from_ge, below_from_not_ge}
use Rattle.lnt_spans.proofs.SideLemmas.{kept_on, passed_on}
use Rattle.lnt_spans.proofs.runs.AheadRunsAnswer.pass_to.Goals as goal

pub returns-in_default-clause-at : goal.returns-in_default-clause-at
returns-in_default-clause-at g c at values h le up =
    kept_on g.S.SpanSource.to_come c.args.self.now at values h c.args.to le
    (λ span some. absurd (let no : None ≡ Some span = sym c.in_default.is ∙ some in cc no))

pub returns-then-ge-clause-at : goal.returns-then-ge-clause-at
returns-then-ge-clause-at g c at values h le up =
    passed_on g.S.SpanSource.to_come c.args.self.now at values h c.pass.new.self c.in-Some.span c.args.to c.in-Some.is
    (at_most_from_ge c.if-ge.ensures) c.pass.ensures.passed le up

pub returns-else-ge-clause-at : goal.returns-else-ge-clause-at
returns-else-ge-clause-at g c at values h le up =
    kept_on g.S.SpanSource.to_come c.args.self.now at values h c.args.to le
    (λ span some. subst (λ (s : Span). IsBelow c.args.to s.high) (same_Some _ span (sym c.in-Some.is ∙ some))
    (below_from_not_ge c.if-ge.ensures))
