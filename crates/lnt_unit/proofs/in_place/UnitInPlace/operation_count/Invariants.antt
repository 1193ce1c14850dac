use Rattle.lnt_unit.proofs.ViewLemmas.{CountedTo}
use Rattle.lnt_unit.proofs.in_place.UnitInPlace.operation_count.Given as goal

abbrev pub invariant-loop-op : goal.invariant-loop-op
invariant-loop-op l = CountedTo l.fn.self l.count l.op-iterator
