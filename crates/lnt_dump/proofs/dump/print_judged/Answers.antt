use Rattle.lnt_io.proofs.PrefixLaws.{so_stopped}
use Rattle.std.proofs.Common.{inr, refl}
use Rattle.lnt_dump.proofs.Dumps.{faulty_begun, faulty_told, ends_without_fault}
use Rattle.lnt_dump.proofs.dump.print_judged.Goals as goal

pub returns-in_err-print_valid-in-Ok-clause-begun : goal.returns-in_err-print_valid-in-Ok-clause-begun
returns-in_err-print_valid-in-Ok-clause-begun g c =
    so_stopped c.from_residual.result _
    (inr (ends_without_fault c.args.unit.now c.in-Ok.ensures.ok c.in_err-print_valid-in-Ok.ensures.prefix))

pub returns-in_ok-print_valid-in-Ok-clause-printed : goal.returns-in_ok-print_valid-in-Ok-clause-printed
returns-in_ok-print_valid-in-Ok-clause-printed g c =
    (ends_without_fault c.args.unit.now c.in-Ok.ensures.ok c.in_ok-print_valid-in-Ok.ensures.whole, refl)

pub returns-in-Err-clause-printed : goal.returns-in-Err-clause-printed
returns-in-Err-clause-printed g c =
    faulty_told _ _ _ _ _ c.in-Err.fault c.print_unit_fault.result c.requires c.in-Err.ensures.err c.print_unit_fault.ensures.no
    c.print_unit_fault.ensures.line

pub returns-in-Err-clause-begun : goal.returns-in-Err-clause-begun
returns-in-Err-clause-begun g c =
    faulty_begun _ _ _ _ _ c.in-Err.fault c.print_unit_fault.result c.requires c.in-Err.ensures.err c.print_unit_fault.ensures.prefix
