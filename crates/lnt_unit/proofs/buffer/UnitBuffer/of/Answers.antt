use Rattle.std.proofs.Common.{rules}
use Rattle.lnt_unit.proofs.BufferLemmas.{spelled_whole}
use Rattle.lnt_unit.proofs.buffer.UnitBuffer.of.Goals as goal

pub invariant_of-result : goal.invariant_of-result
invariant_of-result c = search (rules, spelled_whole)

pub returns-clause-whole : goal.returns-clause-whole
returns-clause-whole c = search (rules, spelled_whole)
