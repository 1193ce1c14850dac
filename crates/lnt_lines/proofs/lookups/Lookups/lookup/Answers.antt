use Rattle.std.proofs.Common.{subst, IfOk, IfSome, IsSome}
use Rattle.std.proofs.lemmas.Result.{IfOk-weaker}
use Rattle.lnt_spans.specs.declared.answer.Answer.{Answer}
use Rattle.lnt_lines.specs.Indexed.{file_path_in, Indexed}
use Rattle.lnt_lines.proofs.LookupLemmas.{answered, AnswersIn, named}
use Rattle.lnt_lines.proofs.lookups.Lookups.lookup.Goals as goal

pub invariant_of-self : goal.invariant_of-self
invariant_of-self c = c.answer_at.ensures.known c.self.invariant

pub returns-in-Some-clause-answer : goal.returns-in-Some-clause-answer
returns-in-Some-clause-answer c =
    let index : Indexed = c.self.inside.index.now in
    subst (λ (i : Indexed). IfOk c.answer_at.result (AnswersIn i c.args.position)) c.self.view_is
    (IfOk-weaker c.answer_at.result _ (AnswersIn index c.args.position)
    (λ answer found.
    answered index c.args.position c.in-Some.held.id answer c.in-Some.ensures.answers
    (λ rows is ordered. found rows c.self.invariant is ordered))
    c.answer_at.ensures.answer)

pub returns-in-Some-clause-named : goal.returns-in-Some-clause-named
returns-in-Some-clause-named c =
    let index : Indexed = c.self.inside.index.now in
    subst (λ (i : Indexed). IfOk c.answer_at.result (λ found. IfSome found (λ (a : Answer). IsSome (file_path_in i a.unit a.file))))
    c.self.view_is
    (IfOk-weaker c.answer_at.result _ (λ found. IfSome found (λ (a : Answer). IsSome (file_path_in index a.unit a.file)))
    (λ answer found.
    named index c.args.position answer c.in-Some.ensures.is_index
    (answered index c.args.position c.in-Some.held.id answer c.in-Some.ensures.answers
    (λ rows is ordered. found rows c.self.invariant is ordered)))
    c.answer_at.ensures.answer)
