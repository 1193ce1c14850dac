use Rattle.lnt_machine.proofs.StepLemmas.{bounded_after, does_after, in_range_after, refused_after}
use Rattle.lnt_machine.proofs.machine.Machine.step_uncounted.Goals as goal

pub invariant_of-self : goal.invariant_of-self
invariant_of-self c = (
  bounded_after c.args.self.now _ c.args.view.now _ _ _ _ 0 c.self.view_is c.change.result c.requires c.self.invariant.0 c.change.ensures.ok
      c.change.ensures.unchanged,
  c.self.invariant.1,
)

pub returns-clause-ok : goal.returns-clause-ok
returns-clause-ok c =
    does_after c.args.self.now _ c.args.view.now _ _ _ _ _ c.self.view_is c.change.result c.requires c.self.invariant.0 c.change.ensures.ok

pub returns-clause-in_range : goal.returns-clause-in_range
returns-clause-in_range c =
    in_range_after c.args.self.now _ c.args.view.now _ _ c.self.view_is c.change.result c.change.ensures.err

pub returns-clause-out_of_range : goal.returns-clause-out_of_range
returns-clause-out_of_range c =
    refused_after c.args.self.now _ c.args.view.now _ _ c.self.view_is c.change.result c.change.ensures.err
