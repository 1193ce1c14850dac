-- The first stretches begin the list of all of them.
use Rattle.std.proofs.Common.{◌≡◌, ◌∙◌, ◌⊎◌, inl, inr, List, [], ◌∷◌, ◌++◌, Option, refl, subst, sym}
use Rattle.std.specs.List.{AllByRecursion}
use Rattle.lnt_spans.specs.declared.position.Position.{Position}
use Rattle.lnt_spans.specs.Positions.{IsBelow}
use Rattle.lnt_spans.specs.AnyStretches.{AreAllStretches, AreFirstStretches, AreRising, BeginsStretch, IsInOne, IsInStretch, Stay, Stretch}
use Rattle.lnt_spans.proofs.PositionLaws.{at_most_itself, below_at_most, below_is_at_most, not_both, order_cases, same_position}
use Rattle.lnt_compare.specs.Laws.{FirstStretchesBegin}

-- It is one of these.
abbrev IsOneOf : {X : Type 0} → List (Stretch X) → Stretch X → Type 0
IsOneOf [] stretch = ⊥
IsOneOf (first ∷ stretches) stretch = (stretch ≡ first) ⊎ IsOneOf stretches stretch

each_one : {X : Type 0} (IsSo : Stretch X → Type 0) (stretches : List (Stretch X)) (stretch : Stretch X) → AllByRecursion IsSo stretches
    → IsOneOf stretches stretch → IsSo stretch
each_one IsSo [] stretch each one = absurd one
each_one IsSo (first ∷ stretches) stretch each (inl same) = subst IsSo (sym same) each.0
each_one IsSo (first ∷ stretches) stretch each (inr one) = each_one IsSo stretches stretch each.1 one

-- ---- lists that rise

rising_rest : {X : Type 0} (first : Stretch X) (stretches : List (Stretch X)) → AreRising (first ∷ stretches) → AreRising stretches
rising_rest first [] rising = tt
rising_rest first (next ∷ stretches) rising = rising.1

-- the first one is below each later one
first_below : {X : Type 0} (first : Stretch X) (stretches : List (Stretch X)) (later : Stretch X) → AreRising (first ∷ stretches)
    → IsOneOf stretches later → IsBelow first.position later.position
first_below first [] later rising one = absurd one
first_below first (next ∷ stretches) later rising (inl same) =
    subst (λ (s : Stretch _). IsBelow first.position s.position) (sym same) rising.0
first_below first (next ∷ stretches) later rising (inr one) =
    below_at_most rising.0 (below_is_at_most (first_below next stretches later rising.1 one))

not_itself : {X : Type 0} (one other : Stretch X) → IsBelow one.position other.position → other ≡ one → ⊥
not_itself one other below same =
    not_both (subst (λ (s : Stretch _). IsBelow one.position s.position) same below) (at_most_itself one.position)

-- Each of some is one of all, and each of all below one of these is one of them.
record Begin {X : Type 0} (some all : List (Stretch X)) : Type 0 where
  within : (stretch : Stretch X) → IsOneOf some stretch → IsOneOf all stretch
  none_between : (stretch later : Stretch X) → IsOneOf all stretch → IsOneOf some later → IsBelow stretch.position later.position
      → IsOneOf some stretch

begin_same : {X : Type 0} (x y : Stretch X) (some all : List (Stretch X)) → AreRising (x ∷ some) → AreRising (y ∷ all)
    → Begin (x ∷ some) (y ∷ all) → x ≡ y
begin_same x y some all rising rising' b = elim (b.within x (inl refl)) [
  | inl same ↦ same
  | inr later ↦
      let below = first_below y all x rising' later in
      elim (b.none_between y x (inl refl) (inl refl) below) [
        | inl same ↦ absurd (not_itself y x below (sym same))
        | inr one ↦ absurd (not_both below (below_is_at_most (first_below x some y rising one)))
      ]
]

begin_rest : {X : Type 0} (x y : Stretch X) (some all : List (Stretch X)) → AreRising (x ∷ some) → AreRising (y ∷ all)
    → Begin (x ∷ some) (y ∷ all) → x ≡ y → Begin some all
begin_rest x y some all rising rising' b same = record {
  within = λ s one. elim (b.within s (inr one)) [
    | inl first ↦ absurd (not_itself x s (first_below x some s rising one) (first ∙ sym same))
    | inr later ↦ later
  ];
  none_between = λ s later one one' below. elim (b.none_between s later (inr one) (inr one') below) [
    | inl first ↦ absurd (not_itself y s (first_below y all s rising' one) (first ∙ same))
    | inr other ↦ other
  ];
}

begin_all : {X : Type 0} (some all : List (Stretch X)) → AreRising some → AreRising all → Begin some all
    → (more : List (Stretch X)) × (all ≡ some ++ more)
begin_all [] all rising rising' b = (all, refl)
begin_all (x ∷ some) [] rising rising' b = absurd (b.within x (inl refl))
begin_all (x ∷ some) (y ∷ all) rising rising' b =
    let same = begin_same x y some all rising rising' b in
    let rest = begin_all some all (rising_rest x some rising) (rising_rest y all rising')
    (begin_rest x y some all rising rising' b same) in
    let tail = rest.1 in
    (rest.0, cc)

-- ---- the stretch at a position

-- one of these that holds a position
record Held {X : Type 0} (f g : Position → Option X) (stretches : List (Stretch X)) (p : Position) : Type 0 where
  stretch : Stretch X
  one : IsOneOf stretches stretch
  holds : IsInStretch f g stretch p

held_by : {X : Type 0} (f g : Position → Option X) (stretches : List (Stretch X)) (p : Position) → IsInOne f g stretches p
    → Held f g stretches p
held_by f g [] p h = absurd h
held_by f g (first ∷ stretches) p (inl h) = record { stretch = first; one = inl refl; holds = h }
held_by f g (first ∷ stretches) p (inr h) =
    let held = held_by f g stretches p h in
    record { stretch = held.stretch; one = inr held.one; holds = held.holds }

make : {X : Type 0} → Position → Option X → Option X → Stretch X
make position section table = record { position = position; by_section = section; by_table = table }

made : {X : Type 0} (s : Stretch X) → make s.position s.by_section s.by_table ≡ s
unfolding make
made s = refl

-- What holds the position at which a stretch begins is that stretch.
holds_itself : {X : Type 0} (f g : Position → Option X) (x y : Stretch X) → BeginsStretch f g x → IsInStretch f g y x.position → y ≡ x
holds_itself {X} f g x y b h =
    let section : y.by_section ≡ x.by_section = sym h.here.section ∙ b.here.section in
    let table : y.by_table ≡ x.by_table = sym h.here.table ∙ b.here.table in
    elim (order_cases y.position x.position) [
      | inl lower ↦
          let stay : Stay f g x.by_section x.by_table y.position x.position =
          λ p from to. let a = h.stay p from to in record { section = a.section ∙ section; table = a.table ∙ table } in
          absurd (b.longest y.position lower stay)
      | inr least ↦
          let position : y.position ≡ x.position = same_position y.position x.position least h.past in
          let fields : make y.position y.by_section y.by_table ≡ make x.position x.by_section x.by_table = cc in
          sym (made y) ∙ fields ∙ made x
    ]

-- a stretch is one of those that hold each position at which the two differ
is_one : {X : Type 0} (f g : Position → Option X) (stretch : Stretch X) (stretches : List (Stretch X)) → BeginsStretch f g stretch
    → (f stretch.position ≡ g stretch.position) ⊎ IsInOne f g stretches stretch.position → IsOneOf stretches stretch
is_one f g stretch stretches b (inl alike) = absurd (b.differ (sym b.here.table ∙ sym alike ∙ b.here.section))
is_one f g stretch stretches b (inr h) =
    let held = held_by f g stretches stretch.position h in
    subst (IsOneOf stretches) (holds_itself f g stretch held.stretch b held.holds) held.one

-- The first stretches begin every list of all of them.
first_begin : {X : Type 0} (f g : Position → Option X) (first all : List (Stretch X)) → AreFirstStretches f g first
    → AreAllStretches f g all → (more : List (Stretch X)) × (all ≡ first ++ more)
first_begin {X} f g first all some whole = begin_all first all some.rising whole.rising (record {
  within = λ s one. is_one f g s all (each_one (BeginsStretch f g) first s some.each one) (whole.all s.position);
  none_between = λ s later one one' below. is_one f g s first (each_one (BeginsStretch f g) all s whole.each one)
      (each_one (λ (stretch : Stretch X). (p : Position) → IsBelow p stretch.position → (f p ≡ g p) ⊎ IsInOne f g first p) first later
      some.below one' s.position below);
})

pub first_begin_all : FirstStretchesBegin
first_begin_all f g first all a b = first_begin f g first all a b
