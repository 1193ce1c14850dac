use Rattle.lnt_lines.specs.Indexed.{Indexed}
use Rattle.lnt_answers.specs.AddressBlocks.{AreEndsOf}
use Rattle.lnt_answers.proofs.line_ends.LineEnds.new.Given as goal

abbrev pub invariant-loop : goal.invariant-loop
invariant-loop l = (index : Indexed) → AreEndsOf index l.slots.items
