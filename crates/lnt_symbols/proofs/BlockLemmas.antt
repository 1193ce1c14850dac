-- Pieces in blocks.
use Rattle.std.proofs.Common.{◌≡◌, ◌∙◌, ℕ, zero, suc, ◌+◌, ◌≤◌, List, []}
use Rattle.std.proofs.Common.{◌∷◌, ◌++◌, ap, arith, get_or, subst, sym}
use Rattle.std.specs.Prelude.{Option, Some, None, MatchOption}
use Rattle.std.proofs.lemmas.List.{append-nil}
use Rattle.lnt_symbols.specs.declared.piece.Piece.{Piece}
use Rattle.lnt_symbols.specs.Pieces.{AreRising, RisesFrom}

pub rising_from : (low : ℕ) (pieces : List Piece) → RisesFrom low pieces → AreRising pieces
rising_from low [] h k d lt = absurd (omega (arith, lt))
rising_from low (x ∷ []) h k d lt = absurd (omega (arith, lt))
rising_from low (x ∷ y ∷ pieces) h zero d lt = h.1.0
rising_from low (x ∷ y ∷ pieces) h (suc k) d lt =
    let next : suc k + 1 ≡ suc (k + 1) = omega arith in
    subst (λ (n : ℕ). (get_or (y ∷ pieces) k d).low ≤ (get_or (x ∷ y ∷ pieces) n d).low) (sym next)
    (rising_from x.low (y ∷ pieces) h.1 k d (omega (arith, lt)))

pub rising_all : (result : Option ℕ) (low : ℕ) (front last all : List Piece)
    → ((more : List Piece) → RisesFrom low more → RisesFrom 0 (front ++ more))
    → MatchOption result (Unit {0}) (λ greatest. (more : List Piece) → RisesFrom greatest more → RisesFrom low (last ++ more))
    → all ≡ front ++ last → MatchOption result (Unit {0}) (λ _. AreRising all)
rising_all None low front last all before then is = tt
rising_all (Some greatest) low front last all before then is =
    let rises : RisesFrom 0 (front ++ (last ++ [])) = before (last ++ []) (then [] tt) in
    rising_from 0 all (subst (RisesFrom 0) (ap (λ t. front ++ t) (append-nil last) ∙ sym is) rises)
