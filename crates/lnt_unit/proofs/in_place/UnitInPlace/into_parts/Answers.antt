use Rattle.std.proofs.Common.{rules, arith}
use Rattle.std.proofs.lemmas.Grind.{common_steps}
use Rattle.lnt_unit.proofs.InPlaceLemmas.{program_fits, program_ends}
use Rattle.lnt_unit.proofs.in_place.UnitInPlace.into_parts.Goals as goal

pub returns-clause-program : goal.returns-clause-program
returns-clause-program c = search (rules, program_fits, program_ends)

pub overflow_sub-result : goal.overflow_sub-result
overflow_sub-result c = grind (arith, common_steps)
