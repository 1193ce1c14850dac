-- A live sequence, found again by its id.
use Rattle.std.proofs.Common.{◌≡◌, ℕ, suc, ◌+◌, ◌<◌, Bool, true, false, List, [], ◌∷◌, ◌++◌, Option, refl, sym, ap, ◌∙◌, arith, length}
use Rattle.std.proofs.Common.{get_or, inl, inr, ◌⊎◌, ⊎_elim, cond, Contains, filter}
use Rattle.lnt_header.specs.declared.unit_parts.UnitParts.{UnitParts}
use Rattle.lnt_machine.specs.declared.row.Sequence.{Sequence}
use Rattle.lnt_machine.specs.Matrix.{sequences}
use Rattle.lnt_sequences.proofs.ExtentLemmas.{here_or_later}
use Rattle.lnt_sequences.proofs.WalkLaws.{placed_from}
use Rattle.lnt_sequences.specs.Sequences.{is_live, live_in, live_sequences, Placed, placed_in}

-- It is the sequence with this index of the unit with this place among all.
pub record IsSequenceOf (units : List (ℕ × UnitParts)) (placed : Placed) : Type 0 where
  pub place : ℕ
  pub unit : ℕ × UnitParts
  pub within : place < length units
  pub unit_at : (d : ℕ × UnitParts) → get_or units place d ≡ unit
  pub unit_is : placed.id.unit ≡ unit.0
  pub few : placed.id.index < length (sequences unit.1)
  pub rows_are : (d : Sequence) → placed.rows ≡ (get_or (sequences unit.1) placed.id.index d).rows

-- the sequence of these, with indices from a number on
record IsOneOf (unit index : ℕ) (ss : List Sequence) (placed : Placed) : Type 0 where
  k : ℕ
  few : k < length ss
  unit_is : placed.id.unit ≡ unit
  index_is : placed.id.index ≡ index + k
  rows_are : (d : Sequence) → placed.rows ≡ (get_or ss k d).rows

one_of : (unit index : ℕ) (ss : List Sequence) (placed : Placed) → Contains (placed_from unit index ss) placed
    → IsOneOf unit index ss placed
one_of unit index [] placed h = absurd (omega (arith, h.1))
one_of unit index (s ∷ ss) placed h =
    let first : Placed = record { id = record { unit = unit; index = index }; rows = s.rows } in
    ⊎_elim
    (λ (here : first ≡ placed). record {
      k = 0;
      few = omega arith;
      unit_is = ap (λ (p : Placed). p.id.unit) (sym here);
      index_is = omega (arith, ap (λ (p : Placed). p.id.index) here);
      rows_are = λ d. ap (λ (p : Placed). p.rows) (sym here);
    }) (λ (later : Contains (placed_from unit (index + 1) ss) placed).
    let one = one_of unit (index + 1) ss placed later in
    let few = one.few in
    record {
      k = suc one.k;
      few = omega arith;
      unit_is = one.unit_is;
      index_is = omega (arith, one.index_is);
      rows_are = one.rows_are;
    }) (here_or_later first (placed_from unit (index + 1) ss) placed h)

pub of_filter : {X : Type 0} (test : X → Bool) (xs : List X) (x : X) → Contains (filter test xs) x → Contains xs x
of_filter test [] x h = h
of_filter {X} test (y ∷ xs) x h = by_test (test y) h (λ k. of_filter test xs x k)
  where
    past : Contains xs x → Contains (y ∷ xs) x
    past k = (suc k.0, omega (arith, k.1), k.2)

    by_test : (t : Bool) → Contains (cond t (y ∷ filter test xs) (filter test xs)) x → (Contains (filter test xs) x → Contains xs x)
        → Contains (y ∷ xs) x
    by_test true k rest = ⊎_elim (λ (here : y ≡ x). (0, omega arith, here)) (λ (later : Contains (filter test xs) x). past (rest later))
        (here_or_later y (filter test xs) x k)
    by_test false k rest = past (rest k)

of_append : {X : Type 0} (xs ys : List X) (x : X) → Contains (xs ++ ys) x → Contains xs x ⊎ Contains ys x
of_append [] ys x h = inr h
of_append {X} (y ∷ xs) ys x h = ⊎_elim (λ (here : y ≡ x). inl (0, omega arith, here)) (λ (later : Contains (xs ++ ys) x). ⊎_elim
    (λ (k : Contains xs x). inl (suc k.0, omega (arith, k.1), k.2)) (λ (k : Contains ys x). inr k) (of_append xs ys x later))
    (here_or_later y (xs ++ ys) x h)

pub live_placed : (dead : Option ℕ) (units : List (ℕ × UnitParts)) (placed : Placed) → Contains (live_sequences dead units) placed
    → IsSequenceOf units placed
live_placed dead [] placed h = absurd (omega (arith, h.1))
live_placed dead (unit ∷ units) placed h = ⊎_elim (λ (here : Contains (live_in dead unit) placed).
    let one = one_of unit.0 0 (sequences unit.1) placed (of_filter (is_live dead) (placed_in unit) placed here) in
    let index : placed.id.index ≡ one.k = omega (arith, one.index_is) in
    record {
      place = 0;
      unit = unit;
      within = omega arith;
      unit_at = λ d. refl;
      unit_is = one.unit_is;
      few = omega (arith, index, one.few);
      rows_are = λ d. one.rows_are d ∙ ap (λ (k : ℕ). (get_or (sequences unit.1) k d).rows) (sym index);
    }) (λ (later : Contains (live_sequences dead units) placed).
    let one = live_placed dead units placed later in
    let within = one.within in
    record {
      place = suc one.place;
      unit = one.unit;
      within = omega arith;
      unit_at = one.unit_at;
      unit_is = one.unit_is;
      few = one.few;
      rows_are = one.rows_are;
    }) (of_append (live_in dead unit) (live_sequences dead units) placed h)
