use Rattle.std.proofs.Common.{length}
use Rattle.lnt_older.proofs.ListLemmas.{ListedSoFar}
use Rattle.lnt_older.proofs.lists.pass_listed.Given as goal

abbrev pub invariant-loop-format : goal.invariant-loop-format
invariant-loop-format l = ListedSoFar l.fn.format l.fn.pairs l.count l.fn.cursor l.cursor

abbrev pub decreases-loop-format : goal.decreases-loop-format
decreases-loop-format l = length l.cursor.rest
