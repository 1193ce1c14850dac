use Rattle.lnt_lines.proofs.LookupLemmas.{answered, named}
use Rattle.lnt_lines.proofs.index.Index.lookup.Goals as goal

pub unreachable-requires : goal.unreachable-requires
unreachable-requires c =
    let is = c.in_ok-held.ensures.is_index in
    let found = c.in_ok-held.ensures.answers is.selection is.index_is in
    absurd (c.in_default.ensures found.rows found.sequence_is)

pub returns-clause-answer : goal.returns-clause-answer
returns-clause-answer c =
    answered c.args.self.now c.args.position c.in_ok-held.held.id c.answer_at.result c.in_ok-held.ensures.answers
    (λ rows is ordered. c.answer_at.ensures rows (c.in-Some.ensures rows is) ordered)

pub returns-clause-named : goal.returns-clause-named
returns-clause-named c =
    named c.args.self.now c.args.position c.answer_at.result c.in_ok-held.ensures.is_index
    (answered c.args.self.now c.args.position c.in_ok-held.held.id c.answer_at.result c.in_ok-held.ensures.answers
    (λ rows is ordered. c.answer_at.ensures rows (c.in-Some.ensures rows is) ordered))
