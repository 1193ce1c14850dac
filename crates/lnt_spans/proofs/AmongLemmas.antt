-- Of all stretches at which a table and a section answer differently, those at which the table answers are its mistakes.
use Rattle.std.proofs.Common.{◌≡◌, List, [], ◌∷◌, ◌⊎◌, inl, inr, Option, None, IsSome, refl, arith}
use Rattle.std.specs.List.{AllByRecursion}
use Rattle.lnt_spans.specs.AnyStretches.{AreAllStretches, AreRising, IsInOne, IsInStretch, Stretch}
use Rattle.lnt_spans.specs.Partial.{AreAllMistakes}
use Rattle.lnt_spans.specs.Laws.{answered_stretches, if_some}
use Rattle.lnt_spans.specs.Positions.{IsBelow, Position}
use Rattle.lnt_spans.proofs.PositionLaws.{below_at_most, below_is_at_most}
use Rattle.std.proofs.lemmas.Grind.{common_steps}

-- ---- each

with_answer : {X : Type 0} (P : Stretch X → Type 0) (stretch : Stretch X) (answer : Option X) (rest : List (Stretch X))
    → stretch.by_table ≡ answer → P stretch → AllByRecursion (λ stretch. IsSome stretch.by_table × P stretch) rest
    → AllByRecursion (λ stretch. IsSome stretch.by_table × P stretch) (if_some answer stretch rest)
with_answer P stretch answer rest e h k = grind (arith, common_steps)

each_answered : {X : Type 0} (P : Stretch X → Type 0) (stretches : List (Stretch X)) → AllByRecursion P stretches
    → AllByRecursion (λ stretch. IsSome stretch.by_table × P stretch) (answered_stretches stretches)
each_answered P [] h = tt
each_answered P (stretch ∷ stretches) h =
    with_answer P stretch stretch.by_table (answered_stretches stretches) refl h.0 (each_answered P stretches h.1)

-- ---- their order

-- each stretch begins above this position
abbrev AreAbove : {X : Type 0} → Position → List (Stretch X) → Type 0
AreAbove p stretches = AllByRecursion (λ stretch. IsBelow p stretch.position) stretches

farther_above : {X : Type 0} (p q : Position) (stretches : List (Stretch X)) → IsBelow p q → AreAbove q stretches → AreAbove p stretches
farther_above p q [] below h = tt
farther_above p q (stretch ∷ stretches) below h =
    (below_at_most below (below_is_at_most h.0), farther_above p q stretches below h.1)

above_first : {X : Type 0} (stretch : Stretch X) (stretches : List (Stretch X)) → AreRising (stretch ∷ stretches)
    → AreAbove stretch.position stretches
above_first stretch [] h = tt
above_first stretch (next ∷ stretches) h =
    (h.0, farther_above stretch.position next.position stretches h.0 (above_first next stretches h.1))

rest_rises : {X : Type 0} (stretch : Stretch X) (stretches : List (Stretch X)) → AreRising (stretch ∷ stretches) → AreRising stretches
rest_rises stretch stretches h = grind (arith, common_steps)

rises_from : {X : Type 0} (stretch : Stretch X) (stretches : List (Stretch X)) → AreAbove stretch.position stretches
    → AreRising stretches → AreRising (stretch ∷ stretches)
rises_from stretch stretches above h = grind (arith, common_steps)

above_with : {X : Type 0} (p : Position) (stretch : Stretch X) (answer : Option X) (rest : List (Stretch X)) → IsBelow p stretch.position
    → AreAbove p rest → AreAbove p (if_some answer stretch rest)
above_with p stretch answer rest h k = grind (arith, common_steps)

above_answered : {X : Type 0} (p : Position) (stretches : List (Stretch X)) → AreAbove p stretches
    → AreAbove p (answered_stretches stretches)
above_answered p [] h = tt
above_answered p (stretch ∷ stretches) h =
    above_with p stretch stretch.by_table (answered_stretches stretches) h.0 (above_answered p stretches h.1)

rising_with : {X : Type 0} (stretch : Stretch X) (answer : Option X) (rest : List (Stretch X)) → AreAbove stretch.position rest
    → AreRising rest → AreRising (if_some answer stretch rest)
rising_with stretch answer rest above h = grind (arith, common_steps, rises_from)

rising_answered : {X : Type 0} (stretches : List (Stretch X)) → AreRising stretches → AreRising (answered_stretches stretches)
rising_answered [] h = tt
rising_answered (stretch ∷ stretches) h =
    rising_with stretch stretch.by_table (answered_stretches stretches)
    (above_answered stretch.position stretches (above_first stretch stretches h))
    (rising_answered stretches (rest_rises stretch stretches h))

-- ---- what they hold

in_first : {X : Type 0} (f g : Position → Option X) (stretch : Stretch X) (answer : Option X) (rest : List (Stretch X)) (p : Position)
    → stretch.by_table ≡ answer → IsInStretch f g stretch p → (g p ≡ None) ⊎ IsInOne f g (if_some answer stretch rest) p
in_first f g stretch answer rest p e one = grind (arith, common_steps)

in_later : {X : Type 0} (f g : Position → Option X) (stretch : Stretch X) (answer : Option X) (rest : List (Stretch X)) (p : Position)
    → (g p ≡ None) ⊎ IsInOne f g rest p → (g p ≡ None) ⊎ IsInOne f g (if_some answer stretch rest) p
in_later f g stretch answer rest p later = grind (arith, common_steps)

in_answered : {X : Type 0} (f g : Position → Option X) (stretches : List (Stretch X)) (p : Position) → IsInOne f g stretches p
    → (g p ≡ None) ⊎ IsInOne f g (answered_stretches stretches) p
in_answered f g [] p h = absurd h
in_answered f g (stretch ∷ stretches) p (inl one) =
    in_first f g stretch stretch.by_table (answered_stretches stretches) p refl one
in_answered f g (stretch ∷ stretches) p (inr later) =
    in_later f g stretch stretch.by_table (answered_stretches stretches) p (in_answered f g stretches p later)

pub mistakes_among : {X : Type 0} (by_table by_section : Position → Option X) (stretches : List (Stretch X))
    → AreAllStretches by_section by_table stretches → AreAllMistakes by_table by_section (answered_stretches stretches)
mistakes_among by_table by_section stretches h = grind (arith, common_steps, each_answered, rising_answered, in_answered)
