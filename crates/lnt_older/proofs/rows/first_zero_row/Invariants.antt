use Rattle.std.proofs.Common.{length}
use Rattle.lnt_older.proofs.ZeroRowLemmas.{IsSought}
use Rattle.lnt_older.proofs.rows.first_zero_row.Given as goal

abbrev pub invariant-loop-row : goal.invariant-loop-row
invariant-loop-row l = IsSought l.numbers l.program l.index l.rows

abbrev pub decreases-loop-row : goal.decreases-loop-row
decreases-loop-row l = length l.rows.walk.at.rest
