use Rattle.std.proofs.Common.{◌≡◌, length, List}
use Rattle.lnt_machine.specs.declared.row.Row.{Row}
use Rattle.lnt_sequences.specs.Briefs.{AreKept}
use Rattle.lnt_sequences.proofs.brief.BriefRows.add_short.Given as goal

abbrev pub invariant-loop-made : goal.invariant-loop-made
invariant-loop-made l = record {
  base : l.self.base ≡ l.fn.self.base;
  part : l.self.is_whole ≡ l.fn.self.is_whole;
  kept : (list : List Row) → AreKept list l.fn.self l.fn.left → AreKept list l.self l.left;
}

abbrev pub decreases-loop-made : goal.decreases-loop-made
decreases-loop-made l = length l.left.walk.at.rest
