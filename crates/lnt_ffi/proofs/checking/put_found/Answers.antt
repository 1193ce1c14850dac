use Rattle.lnt_ffi.proofs.checking.put_found.Goals as goal

pub returns-clause-by_table : goal.returns-clause-by_table
returns-clause-by_table c = rw c.paths_in.ensures.table at c.put_bytes.ensures.there

pub returns-clause-by_section : goal.returns-clause-by_section
returns-clause-by_section c = rw c.paths_in.ensures.section at c.put_bytes-2.ensures.there
