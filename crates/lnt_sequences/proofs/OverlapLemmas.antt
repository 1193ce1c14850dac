-- Extents in order: disjoint where none begins below the end of the one before it; else the first such neighbours are the
-- first to overlap.
use Rattle.std.proofs.Common.{◌≡◌, ◌≢◌, ◌⊎◌, ℕ, zero, suc, ◌+◌, ◌-◌, ◌<◌, ◌≤◌, false, List, sym, ap, subst, arith, length, get_or, inl, inr}
use Rattle.std.proofs.Common.{⊎_elim, add-one, is_lt, nat_cmp, AllPairs, All, IsPermutation}
use Rattle.std.specs.Ordering.{ordering_then}
use Rattle.std.proofs.lemmas.List.Sorted.{IsPermutation-sym, Contains-permutation, All-permutation}
use Rattle.std.proofs.lemmas.List.Elements.{Contains-get_or}
use Rattle.std.proofs.lemmas.Bool.{cases_eq, cases_lt}
use Rattle.std.proofs.lemmas.List.{get_or_default}
use Rattle.lnt_spans.specs.declared.position.Position.{Position}
use Rattle.lnt_spans.specs.Positions.{IsBelow, IsAtMost}
use Rattle.lnt_spans.proofs.EachTwoLaws.{EachTwo, each_two_from_pairs, pairs_from_each_two, each_two_permutation}
use Rattle.lnt_spans.proofs.PositionLaws.{at_most_itself, at_most_trans, not_both}
use Rattle.lnt_sequences.specs.declared.sequence.SeqId.{SeqId}
use Rattle.lnt_sequences.specs.Extents.{AreApartUpTo, AreSorted, ComesNoLater, IsIn, IsNotLater, Extent}
use Rattle.lnt_sequences.specs.Overlaps.{AreFirstToOverlap, ExtentsDisjoint}
use Rattle.std.proofs.lemmas.Grind.{common_steps}

-- ---- extents in order

-- what a sort by these four numbers says of neighbours
pub not_later : (one other : Extent)
    → is_lt (ordering_then (ordering_then (ordering_then (nat_cmp other.low.address one.low.address) (nat_cmp other.low.op one.low.op))
    (nat_cmp other.id.unit one.id.unit)) (nat_cmp other.id.index one.id.index)) ≡ false → ComesNoLater one other
not_later one other h = grind (arith, common_steps)

pub place_itself : (p : Position) (id : SeqId) → IsNotLater p id p id
place_itself p id = record { low = at_most_itself p; unit = λ _ _. omega arith; index = λ _ _ _. omega arith }

pub place_trans : (p q r : Position) (a b c : SeqId) → IsNotLater p a q b → IsNotLater q b r c → IsNotLater p a r c
place_trans p q r a b c h k = grind (arith, common_steps, at_most_trans)

-- what holds of all neighbours, holds of any two in order
pub stand_far : {X : Type 0} (R : X → X → Type 0) → ((x : X) → R x x) → ((x y z : X) → R x y → R y z → R x z) → (xs : List X)
    → ((k : ℕ) (d : X) → k + 1 < length xs → R (get_or xs k d) (get_or xs (k + 1) d)) → (i j : ℕ) (d : X) → i ≤ j → j < length xs
    → R (get_or xs i d) (get_or xs j d)
stand_far R itself passes xs s i zero d h l =
    let e : i ≡ 0 = omega arith in subst (λ (k : ℕ). R (get_or xs k d) (get_or xs 0 d)) (sym e) (itself (get_or xs 0 d))
stand_far R itself passes xs s i (suc j) d h l = ⊎_elim (λ (lt : i < suc j).
    let next : R (get_or xs j d) (get_or xs (suc j) d) = rw add-one at (s j d (omega arith)) in
    passes (get_or xs i d) (get_or xs j d) (get_or xs (suc j) d) (stand_far R itself passes xs s i j d (omega arith) (omega arith)) next)
    (λ (le : suc j ≤ i).
    let e : i ≡ suc j = omega arith in subst (λ (k : ℕ). R (get_or xs k d) (get_or xs (suc j) d)) (sym e) (itself (get_or xs (suc j) d)))
    (cases_lt i (suc j))

pub sorted_far : (es : List Extent) → AreSorted es → (i j : ℕ) (d : Extent) → i ≤ j → j < length es
    → ComesNoLater (get_or es i d) (get_or es j d)
sorted_far = stand_far ComesNoLater (λ a. place_itself a.low a.id) (λ a b c. place_trans a.low b.low c.low a.id b.id c.id)

-- up to the first neighbours that overlap, an extent ends before a later one begins
pub ends_before : (es : List Extent) → AreSorted es → (n : ℕ) → AreApartUpTo n es → (i j : ℕ) (d : Extent) → i < n → i < j → j < length es
    → IsAtMost (get_or es i d).high (get_or es j d).low
ends_before es s n a i j d h k l = at_most_trans (a i d h) (sorted_far es s (i + 1) j d (omega arith) l).low

disjoint_up_to : (es : List Extent) → AreSorted es → (n : ℕ) → AreApartUpTo n es → (i j : ℕ) (d : Extent) → i < n → i < j → j < length es
    → ExtentsDisjoint (get_or es i d) (get_or es j d)
disjoint_up_to es s n a i j d h k l = λ p one other. not_both one.below (at_most_trans (ends_before es s n a i j d h k l) other.from)

disjoint_back : (x y : Extent) → ExtentsDisjoint x y → ExtentsDisjoint y x
disjoint_back x y h = λ p one other. h p other one

-- no neighbours overlap, so none do
pub all_disjoint : (es : List Extent) → AreSorted es → AreApartUpTo (length es - 1) es → EachTwo ExtentsDisjoint es
all_disjoint es s a =
    each_two_from_pairs ExtentsDisjoint disjoint_back es (λ i j d lt l. disjoint_up_to es s (length es - 1) a i j d (omega arith) lt l)

pub first_overlap_is : (es : List Extent) → AreSorted es → All (λ (e : Extent). IsBelow e.low e.high) es → EachTwo (λ a b. a.id ≢ b.id) es
    → (k : ℕ) (d : Extent) → k + 1 < length es → AreApartUpTo k es → IsBelow (get_or es (k + 1) d).low (get_or es k d).high
    → AreFirstToOverlap es (get_or es k d) (get_or es (k + 1) d)
first_overlap_is es s some ids k d l a low =
    let one = get_or es k d in
    let other = get_or es (k + 1) d in
    record {
      one_in = Contains-get_or es k d (omega arith);
      other_in = Contains-get_or es (k + 1) d l;
      different = ids k (k + 1) d (omega arith) (omega arith) l;
      order = s k d l;
      one_holds = record { from = (s k d l).low; below = low };
      other_holds = record { from = at_most_itself other.low; below = some (k + 1) d l };
      lower = λ p h i j e lt lj x y. lower_of p h i j lt lj (subst (IsIn p) (get_or_default es i e d (omega arith)) x)
          (subst (IsIn p) (get_or_default es j e d lj) y);
      first_two = λ i e li x.
          let at = get_or_default es i e d li in
          subst (λ (q : Extent). (q ≡ one) ⊎ (q ≡ other) ⊎ ComesNoLater other q) (sym at) (two_of i li (subst (IsIn other.low) at x));
    }
  where
    lower_of : (p : Position) → IsBelow p (get_or es (k + 1) d).low → (i j : ℕ) → i < j → j < length es → IsIn p (get_or es i d)
        → IsIn p (get_or es j d) → ⊥
    lower_of p h i j lt lj x y = ⊎_elim (λ (near : j < k + 1). disjoint_up_to es s k a i j d (omega arith) lt lj p x y)
        (λ (far : k + 1 ≤ j). not_both h (at_most_trans (sorted_far es s (k + 1) j d far lj).low y.from)) (cases_lt j (k + 1))

    two_of : (i : ℕ) → i < length es → IsIn (get_or es (k + 1) d).low (get_or es i d)
        → (get_or es i d ≡ get_or es k d) ⊎ (get_or es i d ≡ get_or es (k + 1) d) ⊎ ComesNoLater (get_or es (k + 1) d) (get_or es i d)
    two_of i li x = ⊎_elim (λ (lt : i < k). absurd (not_both x.below (ends_before es s k a i (k + 1) d lt (omega arith) l)))
        (λ (le : k ≤ i). ⊎_elim (λ (e : i ≡ k). inl (ap (λ (m : ℕ). get_or es m d) e))
        (λ (ne : i ≡ k → ⊥). inr (inr (sorted_far es s (k + 1) i d (omega arith) li))) (cases_eq i k)) (cases_lt i k)

-- the same of extents in another order
pub first_overlap_permuted : (xs ys : List Extent) (one other : Extent) → IsPermutation xs ys → AreFirstToOverlap ys one other
    → AreFirstToOverlap xs one other
first_overlap_permuted xs ys one other p f =
    let back = IsPermutation-sym xs ys p in
    record {
      different = f.different;
      order = f.order;
      one_holds = f.one_holds;
      other_holds = f.other_holds;
      one_in = Contains-permutation ys xs one back f.one_in;
      other_in = Contains-permutation ys xs other back f.other_in;
      lower = λ p h.
          let R : Extent → Extent → Type 0 = λ a b. IsIn p a → IsIn p b → ⊥ in
          pairs_from_each_two R xs (each_two_permutation R ys xs back (each_two_from_pairs R (λ x y h a b. h b a) ys (f.lower p h)));
      first_two = All-permutation (λ (e : Extent). IsIn other.low e → (e ≡ one) ⊎ (e ≡ other) ⊎ ComesNoLater other e) ys xs back
          f.first_two;
    }

-- what a sort shows of the list that was sorted

pub disjoint_before : (xs ys : List Extent) → IsPermutation xs ys → AreSorted ys → AreApartUpTo (length ys - 1) ys
    → AllPairs ExtentsDisjoint xs
disjoint_before xs ys p s a =
    pairs_from_each_two ExtentsDisjoint xs (each_two_permutation ExtentsDisjoint ys xs (IsPermutation-sym xs ys p) (all_disjoint ys s a))

pub overlap_before : (xs ys : List Extent) → IsPermutation xs ys → AreSorted ys → All (λ (e : Extent). IsBelow e.low e.high) xs
    → AllPairs (λ a b. a.id ≢ b.id) xs
    → (k : ℕ) (d : Extent) → k + 1 < length ys → AreApartUpTo k ys → IsBelow (get_or ys (k + 1) d).low (get_or ys k d).high
    → AreFirstToOverlap xs (get_or ys k d) (get_or ys (k + 1) d)
overlap_before xs ys p s some ids k d l a low =
    let R : Extent → Extent → Type 0 = λ a b. a.id ≢ b.id in
    first_overlap_permuted xs ys (get_or ys k d) (get_or ys (k + 1) d) p
    (first_overlap_is ys s (All-permutation (λ (e : Extent). IsBelow e.low e.high) xs ys p some)
    (each_two_permutation R xs ys p (each_two_from_pairs R (λ x y h e. h (sym e)) xs ids)) k d l a low)
