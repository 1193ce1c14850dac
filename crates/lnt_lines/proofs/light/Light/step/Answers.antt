use Rattle.std.proofs.Common.{refl, subst}
use Rattle.lnt_machine.specs.Running.{RunsOn}
use Rattle.lnt_lines.proofs.LightLemmas.{pass_quiet, pass_row}
use Rattle.lnt_lines.proofs.light.Light.step.Goals as goal

pub returns-in-Ok-None-clause-passes : goal.returns-in-Ok-None-clause-passes
returns-in-Ok-None-clause-passes c _ dead view walk walk' p step fits left =
    pass_quiet p step
    (subst (RunsOn c.args.op.now c.args.self.now.run c.step.new.self) c.in-Ok-None.field-0-is c.in-Ok-None.ensures.ok) fits refl refl

pub returns-in-Ok-Some-clause-passes : goal.returns-in-Ok-Some-clause-passes
returns-in-Ok-Some-clause-passes c seen dead view walk walk' p step fits left =
    pass_row p step
    (subst (RunsOn c.args.op.now c.args.self.now.run c.step.new.self) c.in-Ok-Some.field-0-is c.in-Ok-Some.ensures.ok)
    fits left (c.see.ensures.sees seen) c.see.ensures.run
