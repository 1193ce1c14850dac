use Rattle.std.proofs.Common.{ℕ, List}
use Rattle.lnt_records.specs.KeptPaths.{ArePairsOf}
use Rattle.lnt_records.proofs.path_records.alike.no_pairs.Given as goal

abbrev pub invariant-loop : goal.invariant-loop
invariant-loop l = (path : ℕ → ℕ → List ℕ) → ArePairsOf path l.pairs.items
