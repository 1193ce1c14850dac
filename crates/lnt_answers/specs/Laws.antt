-- What the laws of texts of positions say, and those of shares.
use Rattle.std.specs.Prelude.{◌≡◌, ◌≤◌, ℕ, false, List, Option, map}
use Rattle.std.specs.List.{AllByRecursion}
use Rattle.lnt_spans.specs.declared.position.Position.{Position}
use Rattle.lnt_answers.specs.AddressLines.{NamesPositionIfAny}
use Rattle.lnt_answers.specs.Verdicts.{is_few}

-- These lines contain these positions, or none.
abbrev pub AreNamedPositions : ℕ → List (List ℕ) → List (List ℕ × Option Position) → Type 0
AreNamedPositions op texts named = (map (λ line. line.0) named ≡ texts) × AllByRecursion (NamesPositionIfAny op) named

-- Each line contains some position or none.
abbrev pub SomeNamedPositions : Type 0
SomeNamedPositions = (op : ℕ) (texts : List (List ℕ)) → (named : List (List ℕ × Option Position)) × AreNamedPositions op texts named

-- Lines contain only one such list of positions.
abbrev pub OneNamedPositions : Type 0
OneNamedPositions = (op : ℕ) (texts : List (List ℕ)) (a b : List (List ℕ × Option Position)) → AreNamedPositions op texts a
    → AreNamedPositions op texts b
    → a ≡ b

-- ---- shares of the section's addresses

-- A table that answers all of them answers enough, whatever is asked for.
abbrev pub WholeIsEnough : Type 0
WholeIsEnough = (at_least all : ℕ) → at_least ≤ 100 → is_few at_least (record { answered = all; all = all }) ≡ false

-- Each table does, if nothing is asked for.
abbrev pub NothingIsEnough : Type 0
NothingIsEnough = (answered all : ℕ) → is_few 0 (record { answered = answered; all = all }) ≡ false
