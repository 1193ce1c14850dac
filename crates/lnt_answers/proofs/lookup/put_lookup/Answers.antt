use Rattle.std.proofs.Common.{◌∙◌, ◌++◌, Option, ap, subst, sym}
use Rattle.lnt_answers.specs.Lines.{answer_line}
use Rattle.lnt_spans.specs.declared.answer.Answer.{Answer}
use Rattle.lnt_lines.specs.Indexed.{IsIndexOf}
use Rattle.lnt_answers.proofs.lookup.put_lookup.Goals as goal

pub returns-in_default-clause-line : goal.returns-in_default-clause-line
returns-in_default-clause-line c selection is =
    c.in_ok-put_none.ensures ∙ ap (λ (o : Option Answer). c.args.line.now.items ++ answer_line c.args.lookups.now c.args.position o)
    (sym c.in_default.is ∙ c.in_ok-found.ensures.answer selection (subst (IsIndexOf selection) (sym c.lookups.view_is) is))
