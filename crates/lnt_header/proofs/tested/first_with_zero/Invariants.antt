use Rattle.std.proofs.Common.{take}
use Rattle.std.specs.List.{AllByRecursion}
use Rattle.lnt_header.specs.HeaderTests.{HasSoundTexts}
use Rattle.lnt_header.proofs.tested.first_with_zero.Given as goal

abbrev pub invariant-loop-index : goal.invariant-loop-index
invariant-loop-index l = AllByRecursion HasSoundTexts (take l.index l.fn.entries)
