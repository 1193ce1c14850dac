use Rattle.lnt_ffi.proofs.ReturnLemmas.{of_paths}
use Rattle.lnt_ffi.proofs.checking.linetab_check.Goals as goal

pub returns : goal.returns
returns c = of_paths c.args.section.now c.args.table.now _ _ _ _ c.check_into.result c.check_into.ensures.returned
