use Rattle.std.proofs.Common.{take}
use Rattle.std.specs.List.{AllByRecursion}
use Rattle.lnt_header.specs.OpRules.{Admits}
use Rattle.lnt_header.proofs.unit.first_not_admitted.Given as goal

abbrev pub invariant-loop-index : goal.invariant-loop-index
invariant-loop-index l = AllByRecursion (Admits l.fn.header.numbers) (take l.index l.fn.ops)
