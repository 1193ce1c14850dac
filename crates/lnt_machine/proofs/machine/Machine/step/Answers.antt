use Rattle.lnt_machine.proofs.StepLemmas.{counted, some_if}
use Rattle.lnt_machine.proofs.machine.Machine.step.Goals as goal

pub returns-clause-ok : goal.returns-clause-ok
returns-clause-ok c = rw (c.then_some.ensures, some_if c.in-Ok.appends c.step_uncounted.new.row)
    (counted c.args.view.now c.args.self.now _ _ _ _ _ _ c.self-2.view_is c.in-Ok.ensures.ok c.step_uncounted.ensures.count
    c.saturating_add-self-inside.ensures)
