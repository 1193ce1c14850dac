use Rattle.std.proofs.Common.{refl}
use Rattle.lnt_lines.specs.Judging.IsRefusalOfRun.{broken, of_unit}
use Rattle.lnt_lines.proofs.RunLemmas.{refused_other}
use Rattle.lnt_lines.proofs.run.refusal_for.Goals as goal

pub returns-in-Ok : goal.returns-in-Ok
returns-in-Ok c =
    refused_other c.args.view.now c.args.unit c.args.fault _ c.in_default.not-Memory (of_unit c.in-Ok.field-0 c.in-Ok.ensures.ok refl)

pub returns-in-Err : goal.returns-in-Err
returns-in-Err c =
    refused_other c.args.view.now c.args.unit c.args.fault _ c.in_default.not-Memory (broken c.in-Err.first c.in-Err.ensures.err refl)
