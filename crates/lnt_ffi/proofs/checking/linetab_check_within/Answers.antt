use Rattle.lnt_ffi.proofs.checking.linetab_check_within.Goals as goal

pub returns-clause-returned : goal.returns-clause-returned
returns-clause-returned c = rw c.of-scope.ensures at c.check_into.ensures.returned
