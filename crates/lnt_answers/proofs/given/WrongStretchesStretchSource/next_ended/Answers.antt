use Rattle.std.proofs.lemmas.Result.{IfOk-weaker}
use Rattle.lnt_answers.proofs.GivenLemmas.{given_wrong}
use Rattle.lnt_answers.proofs.given.WrongStretchesStretchSource.next_ended.Goals as goal

pub returns-clause-given : goal.returns-clause-given
returns-clause-given g c =
    IfOk-weaker c.next_wrong.result _ _
    (λ found so case given h.
    given_wrong c.next_wrong.new.self case given found _ c.next_wrong.ensures.scope c.next_wrong.ensures.tell so h)
    c.next_wrong.ensures.found
