use Rattle.std.proofs.Common.{◌-◌}
use Rattle.lnt_sequences.specs.Extents.{AreApartUpTo}
use Rattle.lnt_sequences.proofs.extent.first_crossed.Given as goal

abbrev pub invariant-loop-i : goal.invariant-loop-i
invariant-loop-i l = AreApartUpTo (l.i - 1) l.extents
