use Rattle.std.proofs.Common.{rules}
use Rattle.lnt_machine.proofs.RunLemmas.{open_quiet, runs_on}
use Rattle.lnt_machine.proofs.run.Run.step.Goals as goal

pub returns-in-Some-clause-ok : goal.returns-in-Some-clause-ok
returns-in-Some-clause-ok c =
    runs_on c.args.view.now c.args.self.now c.self.inside.machine _ c.self.inside.is_open _ _ c.self.view_is c.in_ok-made.ensures.ok
    (search rules)

pub returns-in_default-clause-ok : goal.returns-in_default-clause-ok
returns-in_default-clause-ok c =
    runs_on c.args.view.now c.args.self.now c.self.inside.machine _ c.self.inside.is_open _ _ c.self.view_is c.in_ok-made.ensures.ok
    (open_quiet c.self.inside.is_open _ c.in_default.not-Some)
