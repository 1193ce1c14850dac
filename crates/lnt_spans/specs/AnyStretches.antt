-- All stretches at which two functions of positions answer differently, whatever an answer is: each longest range of
-- consecutive positions at which the two answers differ and stay the same. Positions are ordered by address, then by operation
-- index. A stretch is identified by its first position and its two answers. One function is called the section's, the other
-- the table's.
use Rattle.std.specs.Prelude.{◌≡◌, ◌≢◌, ◌⊎◌, List, [], ◌∷◌, Option}
use Rattle.std.specs.List.{AllByRecursion}
pub use Rattle.lnt_spans.specs.declared.position.Position.{Position}
use Rattle.lnt_spans.specs.Positions.{IsBelow, IsAtMost}

-- the first position of a stretch, and its two answers
pub record Stretch (X : Type 0) : Type 0 where
  pub position : Position
  pub by_section : Option X
  pub by_table : Option X

-- the stretch that begins here, with these two answers
abbrev pub stretch_at : {X : Type 0} → Position → Option X → Option X → Stretch X
stretch_at position by_section by_table = record { position = position; by_section = by_section; by_table = by_table }

-- These are the two answers at p.
pub record AreAnswers {X : Type 0} (by_section by_table : Position → Option X) (of_section of_table : Option X) (p : Position) : Type
    0 where
  pub section : by_section p ≡ of_section
  pub table : by_table p ≡ of_table

-- The two answers stay the same in the half-open range from `from` up to `to`.
abbrev pub Stay : {X : Type 0} → (Position → Option X) → (Position → Option X) → Option X → Option X → Position → Position → Type 0
Stay by_section by_table of_section of_table from to =
    (p : Position) → IsAtMost from p → IsBelow p to → AreAnswers by_section by_table of_section of_table p

-- A stretch begins here: the two answers differ, and there is no lower position from which on they were the same two.
pub record BeginsStretch {X : Type 0} (by_section by_table : Position → Option X) (stretch : Stretch X) : Type 0 where
  pub here : AreAnswers by_section by_table stretch.by_section stretch.by_table stretch.position
  pub differ : stretch.by_table ≢ stretch.by_section
  pub longest : (p : Position) → IsBelow p stretch.position
      → Stay by_section by_table stretch.by_section stretch.by_table p stretch.position → ⊥

-- The stretch that begins there holds p: from its first position up to and including p both answers stay the same.
pub record IsInStretch {X : Type 0} (by_section by_table : Position → Option X) (stretch : Stretch X) (p : Position) : Type 0 where
  pub past : IsAtMost stretch.position p
  pub stay : Stay by_section by_table stretch.by_section stretch.by_table stretch.position p
  pub here : AreAnswers by_section by_table stretch.by_section stretch.by_table p

-- From the first position of the stretch up to a later one both answers stay the same.
pub record LastsTo {X : Type 0} (by_section by_table : Position → Option X) (stretch : Stretch X) (to : Position) : Type 0 where
  pub past : IsBelow stretch.position to
  pub stay : Stay by_section by_table stretch.by_section stretch.by_table stretch.position to

-- This is the first position after the stretch: both answers stay the same up to it, and there one of them is another.
pub record EndsAt {X : Type 0} (by_section by_table : Position → Option X) (stretch : Stretch X) (end : Position) : Type 0 where
  pub lasts : LastsTo by_section by_table stretch end
  pub over : AreAnswers by_section by_table stretch.by_section stretch.by_table end → ⊥

-- one of these stretches holds p
abbrev pub IsInOne : {X : Type 0} → (Position → Option X) → (Position → Option X) → List (Stretch X) → Position → Type 0
IsInOne by_section by_table [] p = ⊥
IsInOne by_section by_table (stretch ∷ stretches) p =
    IsInStretch by_section by_table stretch p ⊎ IsInOne by_section by_table stretches p

-- Each stretch begins below the next one.
abbrev pub AreRising : {X : Type 0} → List (Stretch X) → Type 0
AreRising [] = Unit {0}
AreRising (stretch ∷ []) = Unit {0}
AreRising (stretch ∷ next ∷ stretches) = IsBelow stretch.position next.position × AreRising (next ∷ stretches)

-- These are exactly the stretches, in ascending order: each is one, and at every position that none of them holds both
-- sides answer alike.
pub record AreAllStretches {X : Type 0} (by_section by_table : Position → Option X) (stretches : List (Stretch X)) : Type 0 where
  pub each : AllByRecursion (BeginsStretch by_section by_table) stretches
  pub rising : AreRising stretches
  pub all : (p : Position) → (by_section p ≡ by_table p) ⊎ IsInOne by_section by_table stretches p

-- These are the first stretches, in ascending order: each is one, and at every position below the beginning of one of them
-- that none of them holds both sides answer alike. So no other stretch begins below the last one.
pub record AreFirstStretches {X : Type 0} (by_section by_table : Position → Option X) (stretches : List (Stretch X)) : Type 0 where
  pub each : AllByRecursion (BeginsStretch by_section by_table) stretches
  pub rising : AreRising stretches
  pub below : AllByRecursion (λ stretch. (p : Position) → IsBelow p stretch.position
      → (by_section p ≡ by_table p) ⊎ IsInOne by_section by_table stretches p) stretches

-- ---- which stretches were given, for any kind of answer: exactly those that begin below a position

-- The positions from `at` on, for as long as both sides keep these two answers, all lie in one of the stretches given.
abbrev pub IsOpen : {X : Type 0} → (Position → Option X) → (Position → Option X) → Position → Option X → Option X → List (Stretch X)
    → Type 0
IsOpen by_section by_table at section table given =
    (p : Position) → IsAtMost at p → Stay by_section by_table section table at p → AreAnswers by_section by_table section table p
    → IsInOne by_section by_table given p

-- The stretches given so far are exactly those that begin below `at`.
pub record AreToldBelow {X : Type 0} (by_section by_table : Position → Option X) (at : Position) (section table : Option X)
    (given : List (Stretch X)) : Type 0 where
  pub each : AllByRecursion (BeginsStretch by_section by_table) given
  pub rising : AreRising given
  pub below : AllByRecursion (λ stretch. IsBelow stretch.position at) given
  pub all : (p : Position) → IsBelow p at → (by_section p ≡ by_table p) ⊎ IsInOne by_section by_table given p
  -- `section` and `table` were the last answers: if they differ, the last stretch lasts as long as they stay
  pub going : (section ≡ table) ⊎ IsOpen by_section by_table at section table given
  -- right below `at` both sides have these answers, or answer alike
  pub last : (p : Position) → IsBelow p at
      → (q : Position) × IsAtMost p q × IsBelow q at × ((by_section q ≡ by_table q) ⊎ AreAnswers by_section by_table section table q)
