use Rattle.std.proofs.Common.{inl, inr, refl}
use Rattle.lnt_ffi.proofs.writing.linetab_table.Goals as goal

pub returns-in-Some-clause-returned : goal.returns-in-Some-clause-returned
returns-in-Some-clause-returned c =
    let put = rw c.deref.ensures.value at c.put_bytes.ensures in
    inl ((c.in-Some.table.items, c.in-Some.ensures.good, put.count, put.there), c.in-Some.ensures.yes)

pub returns-in-None-clause-returned : goal.returns-in-None-clause-returned
returns-in-None-clause-returned c = inr (c.in-None.ensures.refused, refl, refl)
