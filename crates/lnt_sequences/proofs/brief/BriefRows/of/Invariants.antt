use Rattle.std.proofs.Common.{◌≡◌, false, List}
use Rattle.lnt_machine.specs.declared.row.Row.{Row}
use Rattle.lnt_machine.specs.Walking.{WillGive}
use Rattle.lnt_sequences.specs.Briefs.{AreKept}
use Rattle.lnt_sequences.proofs.brief.BriefRows.of.Given as goal

abbrev pub invariant-loop : goal.invariant-loop
invariant-loop l = (l.brief.is_whole ≡ false) × ((list : List Row) → WillGive list l.fn.rows → AreKept list l.brief l.left)
