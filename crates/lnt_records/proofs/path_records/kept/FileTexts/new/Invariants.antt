use Rattle.std.proofs.Common.{ℕ, List, IfSome, All}
use Rattle.lnt_records.specs.KeptPaths.{IsTextOf}
use Rattle.lnt_records.proofs.path_records.kept.FileTexts.new.Given as goal

abbrev pub invariant-loop : goal.invariant-loop
invariant-loop l = (text_of : ℕ → ℕ → List ℕ) → All (λ slot. IfSome slot (IsTextOf text_of)) l.slots.items
