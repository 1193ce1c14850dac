use Rattle.std.proofs.Common.{inl, inr, refl}
use Rattle.lnt_ffi.proofs.unit.linetab_units.Goals as goal

pub returns-in-Some-clause-returned : goal.returns-in-Some-clause-returned
returns-in-Some-clause-returned c =
    inl ((c.in-Some.index, c.in-Some.ensures.good, c.put_units.ensures.count, c.put_units.ensures.there), c.in-Some.ensures.yes)

pub returns-in-None-clause-returned : goal.returns-in-None-clause-returned
returns-in-None-clause-returned c = inr (c.in-None.ensures.refused, refl, refl)
