use Rattle.std.proofs.Common.{◌≡◌}
use Rattle.lnt_io.proofs.PrefixLaws.{so_stopped}
use Rattle.lnt_spans.specs.Partial.{scope_in}
use Rattle.lnt_cli.proofs.StopLemmas.{stopped_by}
use Rattle.lnt_cli.proofs.question.answer_good_file.Goals as goal

pub returns-in_err-told-in-Check-clause-stopped : goal.returns-in_err-told-in-Check-clause-stopped
returns-in_err-told-in-Check-clause-stopped g c =
    let scope : scope_in c.in-Check.partial ≡ c.of.result = cc in
    rw (c.in-Check.is, scope) (stopped_by _ _ c.print_stretches-printed.result c.from_residual-in_err-told-in-Check.result
    (so_stopped c.from_residual-in_err-told-in-Check.result _ c.in_err-told-in-Check.ensures.err)
    c.print_stretches-printed.ensures.begun (λ begun. begun))
