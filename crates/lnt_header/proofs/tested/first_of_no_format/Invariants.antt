use Rattle.std.proofs.Common.{take}
use Rattle.std.specs.List.{AllByRecursion}
use Rattle.lnt_header.specs.HeaderTests.{IsOfFormat}
use Rattle.lnt_header.proofs.tested.first_of_no_format.Given as goal

abbrev pub invariant-loop-index : goal.invariant-loop-index
invariant-loop-index l = AllByRecursion (IsOfFormat l.fn.pairs) (take l.index l.fn.entries)
