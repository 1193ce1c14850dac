use Rattle.lnt_dump.proofs.Dumps.{broken_begun, broken_told}
use Rattle.lnt_dump.proofs.dump.print_unit.Goals as goal

pub returns-in-Err-clause-printed : goal.returns-in-Err-clause-printed
returns-in-Err-clause-printed g c =
    broken_told _ _ _ _ _ c.in-Err.fault c.in-Err.ensures.err c.print_fault.result c.print_fault.ensures.not_memory c.print_fault.ensures.no
    c.print_fault.ensures.line

pub returns-in-Err-clause-begun : goal.returns-in-Err-clause-begun
returns-in-Err-clause-begun g c =
    broken_begun _ _ _ _ _ c.in-Err.fault c.in-Err.ensures.err c.print_fault.result c.print_fault.ensures.kept c.print_fault.ensures.prefix
