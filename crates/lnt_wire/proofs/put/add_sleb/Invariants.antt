use Rattle.std.specs.Prelude.{unsigned_abs}
use Rattle.lnt_wire.specs.Leb128.{SignedLeb}
use Rattle.lnt_wire.proofs.PutLemmas.{Begun}
use Rattle.lnt_wire.proofs.put.add_sleb.Given as goal

abbrev pub invariant-loop-rest : goal.invariant-loop-rest
invariant-loop-rest l = Begun SignedLeb l.fn.z l.rest l.initial.out.items l.out.items

abbrev pub decreases-loop-rest : goal.decreases-loop-rest
decreases-loop-rest l = unsigned_abs l.rest
