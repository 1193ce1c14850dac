-- Stretches are told one after another, whatever an answer is, as both sides are followed from one end of an answer to the
-- next.
use Rattle.std.proofs.Common.{◌≡◌, ◌≢◌, ◌∙◌, List, [], ◌∷◌, ◌++◌, ◌⊎◌, inl, inr, sym, None, Option, arith}
use Rattle.std.specs.List.{AllByRecursion}
use Rattle.lnt_spans.specs.AnyStretches.{AreAllStretches, AreRising, BeginsStretch, IsInOne, IsInStretch, Stay, Stretch, AreToldBelow}
use Rattle.lnt_spans.specs.AnyStretches.{IsOpen}
use Rattle.lnt_spans.specs.Positions.{IsBelow, IsAtMost, Position}
use Rattle.lnt_spans.proofs.PositionLaws.{at_most_itself, at_most_trans, below_at_most, below_is_at_most, order_cases}
use Rattle.lnt_spans.proofs.RunLaws.{Moves, last_answers, stay_on}
use Rattle.std.proofs.lemmas.Grind.{common_steps}

-- ---- lists of stretches

in_one_more : {X : Type 0} (f g : Position → Option X) (told more : List (Stretch X)) (p : Position) → IsInOne f g told p
    → IsInOne f g (told ++ more) p
in_one_more f g [] more p h = absurd h
in_one_more f g (d ∷ told) more p (inl h) = inl h
in_one_more f g (d ∷ told) more p (inr h) = inr (in_one_more f g told more p h)

in_last : {X : Type 0} (f g : Position → Option X) (told : List (Stretch X)) (d : Stretch X) (p : Position) → IsInStretch f g d p
    → IsInOne f g (told ++ d ∷ []) p
in_last f g [] d p h = inl h
in_last f g (e ∷ told) d p h = inr (in_last f g told d p h)

pub all_push : {X : Type 0} (P : Stretch X → Type 0) (told : List (Stretch X)) (d : Stretch X) → AllByRecursion P told → P d
    → AllByRecursion P (told ++ d ∷ [])
all_push P [] d h k = (k, tt)
all_push P (e ∷ told) d h k = (h.0, all_push P told d h.1 k)

all_below : {X : Type 0} (told : List (Stretch X)) (at end : Position) → IsAtMost at end
    → AllByRecursion (λ (d : Stretch X). IsBelow d.position at) told → AllByRecursion (λ (d : Stretch X). IsBelow d.position end) told
all_below [] at end le h = tt
all_below (d ∷ told) at end le h = (below_at_most h.0 le, all_below told at end le h.1)

rising_push : {X : Type 0} (told : List (Stretch X)) (d : Stretch X) → AreRising told
    → AllByRecursion (λ (e : Stretch X). IsBelow e.position d.position) told → AreRising (told ++ d ∷ [])
rising_push [] d r h = tt
rising_push (e ∷ []) d r h = (h.0, tt)
rising_push (e ∷ next ∷ told) d r h = (r.0, rising_push (next ∷ told) d r.1 h.1)

-- ---- from one end to the next

-- at a position in the run: the last stretch still holds it
pub told_on : {X : Type 0} (f g : Position → Option X) (at end : Position) (s t : Option X) (told : List (Stretch X))
    → AreToldBelow f g at s t told → IsBelow at end → Stay f g s t at end
    → AreToldBelow f g end s t told
told_on {X} f g at end s t told b lt stay = record {
  each = b.each;
  rising = b.rising;
  below = all_below told at end (below_is_at_most lt) b.below;
  all = λ p h. elim (order_cases p at) [ inl early ↦ b.all p early | inr late ↦ here p late h b.going ];
  going = later b.going;
  last = last_answers f g at end s t lt stay;
}
  where
    here : (p : Position) → IsAtMost at p → IsBelow p end → (s ≡ t) ⊎ IsOpen f g at s t told → (f p ≡ g p) ⊎ IsInOne f g told p
    here p late h (inl same) = let a = stay p late h in inl (a.section ∙ same ∙ sym a.table)
    here p late h (inr going) = inr (going p late (λ q k l. stay q k (below_at_most l (below_is_at_most h))) (stay p late h))

    later : (s ≡ t) ⊎ IsOpen f g at s t told → (s ≡ t) ⊎ IsOpen f g end s t told
    later (inl same) = inl same
    later (inr going) = inr (λ p h more is. going p (at_most_trans (below_is_at_most lt) h) (stay_on f g s t at end p stay more) is)

-- both sides answer alike up to the end: no stretch
pub told_alike : {X : Type 0} (f g : Position → Option X) (at end : Position) (s t s' t' : Option X) (told : List (Stretch X))
    → AreToldBelow f g at s t told → IsBelow at end → Stay f g s' t' at end → s' ≡ t'
    → AreToldBelow f g end s' t' told
told_alike f g at end s t s' t' told b lt stay same = record {
  each = b.each;
  rising = b.rising;
  below = all_below told at end (below_is_at_most lt) b.below;
  all = λ p h. elim (order_cases p at)
      [ inl early ↦ b.all p early | inr late ↦ let a = stay p late h in inl (a.section ∙ same ∙ sym a.table) ];
  going = inl same;
  last = last_answers f g at end s' t' lt stay;
}

-- a new stretch begins
pub told_new : {X : Type 0} (f g : Position → Option X) (at end : Position) (s t s' t' : Option X) (told : List (Stretch X))
    → AreToldBelow f g at s t told → IsBelow at end → Stay f g s' t' at end
    → t' ≢ s' → (s' ≡ s → t' ≡ t → ⊥) → AreToldBelow f g end s' t' (told ++ (record { position = at; by_section = s'; by_table = t' }) ∷ [])
told_new {X} f g at end s t s' t' told b lt stay differ other =
    let d : Stretch X = record { position = at; by_section = s'; by_table = t' } in
    record {
      each = all_push (BeginsStretch f g) told d b.each
          (record { here = stay at (at_most_itself at) lt; differ = differ; longest = longest });
      rising = rising_push told d b.rising b.below;
      below = all_push (λ (e : Stretch X). IsBelow e.position end) told d (all_below told at end (below_is_at_most lt) b.below) lt;
      all = λ p h. elim (order_cases p at) [
        | inl early ↦ elim (b.all p early) [ inl same ↦ inl same | inr one ↦ inr (in_one_more f g told (d ∷ []) p one) ]
        | inr late ↦ inr (in_last f g told d p
            (record { past = late; stay = λ q k l. stay q k (below_at_most l (below_is_at_most h)); here = stay p late h }))
      ];
      going = inr (λ p h more is. in_last f g told d p
          (record { past = at_most_trans (below_is_at_most lt) h; stay = stay_on f g s' t' at end p stay more; here = is }));
      last = last_answers f g at end s' t' lt stay;
    }
  where
    longest : (p : Position) → IsBelow p at → Stay f g s' t' p at → ⊥
    longest p below so =
        let l = b.last p below in
        let a = so l.0 l.1 l.2 in
        elim l.3 [
          | inl same ↦ differ (sym a.table ∙ sym same ∙ a.section)
          | inr old ↦ other (sym a.section ∙ old.section) (sym a.table ∙ old.table)
        ]

-- at the start: both sides answer alike up to there
pub told_none : {X : Type 0} (f g : Position → Option X) (at : Position) → ((p : Position) → IsBelow p at → f p ≡ g p)
    → AreToldBelow f g at None None []
told_none f g at same = grind (arith, common_steps, at_most_itself)

-- at the end: neither side has an answer any more
pub told_all : {X : Type 0} (f g : Position → Option X) (at : Position) (s t : Option X) (told : List (Stretch X))
    → AreToldBelow f g at s t told → ((p : Position) → IsAtMost at p → f p ≡ None) → ((p : Position) → IsAtMost at p → g p ≡ None)
    → AreAllStretches f g told
told_all f g at s t told b none none' = grind (arith, common_steps, order_cases)

pub step_known : {X : Type 0} (f g : Position → Option X) (at end : Position) (s t s' t' : Option X) (told : List (Stretch X))
    → AreToldBelow f g at s t told → Moves f g at end s' t'
    → (s' ≡ t') ⊎ (s' ≡ s) × (t' ≡ t) → AreToldBelow f g end s' t' told
step_known f g at end s t s' t' told b m (inl same) = told_alike f g at end s t s' t' told b m.below m.stay same
step_known f g at end s t s' t' told b m (inr same) =
    rw (same.0, same.1) (told_on f g at end s t told b m.below (rw (same.0, same.1) at m.stay))
