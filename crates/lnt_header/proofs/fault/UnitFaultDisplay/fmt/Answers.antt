use Rattle.std.proofs.Common.{arith}
use Rattle.std.proofs.lemmas.Grind.{elements}
use Rattle.lnt_header.proofs.fault.UnitFaultDisplay.fmt.Goals as goal

pub returns-in-EntryNotOfFormat-clause-writes : goal.returns-in-EntryNotOfFormat-clause-writes
returns-in-EntryNotOfFormat-clause-writes g c = grind (arith, elements)
