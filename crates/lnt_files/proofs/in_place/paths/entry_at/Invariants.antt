use Rattle.lnt_files.proofs.AtLemmas.{IsAfter}
use Rattle.lnt_files.proofs.in_place.paths.entry_at.Given as goal

abbrev pub invariant-loop : goal.invariant-loop
invariant-loop l = IsAfter l.fn.table l.entries l.counter
