use Rattle.std.proofs.Common.{◌∙◌, sym}
use Rattle.lnt_cli.proofs.question.answer_with.Goals as goal

pub returns-in-Check-false-default-default-default-default-clause-answer :
    goal.returns-in-Check-false-default-default-default-default-clause-answer
returns-in-Check-false-default-default-default-default-clause-answer g c =
    let arm = c.in-Check-false-default-default-default-default in
    rw (arm.is, ← sym arm.all-test ∙ arm.all-is, ← arm.partial-is, ← arm.at_least-is, ← arm.any_copy-is, ← c.of-scope.ensures)
    c.check_table.ensures.answer

pub returns-in-Check-false-default-default-default-default-clause-stopped :
    goal.returns-in-Check-false-default-default-default-default-clause-stopped
returns-in-Check-false-default-default-default-default-clause-stopped g c =
    let arm = c.in-Check-false-default-default-default-default in
    rw (arm.is, ← sym arm.all-test ∙ arm.all-is, ← arm.partial-is, ← arm.at_least-is, ← arm.any_copy-is, ← c.of-scope.ensures)
    c.check_table.ensures.stopped

pub returns-in-Check-true-default-default-default-default-clause-answer :
    goal.returns-in-Check-true-default-default-default-default-clause-answer
returns-in-Check-true-default-default-default-default-clause-answer g c =
    let arm = c.in-Check-true-default-default-default-default in
    rw (arm.is, ← sym arm.all-test ∙ arm.all-is) (rw arm.is at c.answer_both.ensures.answer)

pub returns-in-Check-true-default-default-default-default-clause-stopped :
    goal.returns-in-Check-true-default-default-default-default-clause-stopped
returns-in-Check-true-default-default-default-default-clause-stopped g c =
    let arm = c.in-Check-true-default-default-default-default in
    rw (arm.is, ← sym arm.all-test ∙ arm.all-is) (rw arm.is at c.answer_both.ensures.stopped)

pub returns-in-Lines-clause-answer : goal.returns-in-Lines-clause-answer
returns-in-Lines-clause-answer g c = rw c.in-Lines.is (rw c.in-Lines.is at c.answer_both-in-Lines.ensures.answer)

pub returns-in-Lines-clause-stopped : goal.returns-in-Lines-clause-stopped
returns-in-Lines-clause-stopped g c = rw c.in-Lines.is (rw c.in-Lines.is at c.answer_both-in-Lines.ensures.stopped)
