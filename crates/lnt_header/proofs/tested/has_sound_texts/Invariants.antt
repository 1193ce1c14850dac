use Rattle.std.proofs.Common.{take}
use Rattle.std.specs.List.{AllByRecursion}
use Rattle.lnt_header.specs.HeaderTests.{HoldsNoZero}
use Rattle.lnt_header.proofs.tested.has_sound_texts.Given as goal

abbrev pub invariant-loop-value : goal.invariant-loop-value
invariant-loop-value l = AllByRecursion HoldsNoZero (take l.value-index l.fn.entry.values)
