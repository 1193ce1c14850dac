use Rattle.std.proofs.Common.{◌≤◌, length}
use Rattle.lnt_files.proofs.EndLemmas.{NoneFrom}
use Rattle.lnt_files.proofs.ends.texts_end.Given as goal

abbrev pub invariant-loop-end : goal.invariant-loop-end
invariant-loop-end l = (l.end ≤ length l.section) × NoneFrom l.end l.section

abbrev pub decreases-loop-end : goal.decreases-loop-end
decreases-loop-end l = l.end
