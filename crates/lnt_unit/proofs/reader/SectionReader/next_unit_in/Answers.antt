use Rattle.std.proofs.Common.{rules}
use Rattle.lnt_unit.proofs.reader.SectionReader.next_unit_in.Goals as goal

pub invariant_of-self : goal.invariant_of-self
invariant_of-self g c = search rules

pub returns-in_err-unit : goal.returns-in_err-unit
returns-in_err-unit g c = search rules
