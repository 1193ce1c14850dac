use Rattle.std.proofs.Common.{rules}
use Rattle.lnt_unit.proofs.reader.SectionReader.new.Goals as goal

pub invariant_of-result : goal.invariant_of-result
invariant_of-result g c = search rules

pub returns-clause-offset : goal.returns-clause-offset
returns-clause-offset g c = search rules
