use Rattle.lnt_wire.proofs.LebLemmas.{FewGroups}
use Rattle.lnt_wire.proofs.leb.short_leb.Given as goal

abbrev pub invariant-loop-i : goal.invariant-loop-i
invariant-loop-i l = FewGroups l.bytes l.i l.sum l.scale
