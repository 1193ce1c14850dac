-- The sequences that settled extents are of, in the order of these.
use Rattle.std.proofs.Common.{◌≡◌, ◌⊎◌, ℕ, suc, ◌+◌, ◌-◌, ◌<◌, ◌≤◌, Bool, true, false, cond, List, [], ◌∷◌, ◌++◌, Option, None, refl, sym}
use Rattle.std.proofs.Common.{ap, ◌∙◌, subst, arith, length, inl, inr, ⊎_elim, slice_index_or, IsPermutation, option_and_then, option_map}
use Rattle.std.proofs.Common.{true≢false, length-append}
use Rattle.std.specs.List.{AllByRecursion, AllZip, Contains, find}
use Rattle.std.proofs.lemmas.List.Elements.{All-cons, All-nil}
use Rattle.std.proofs.lemmas.List.Sorted.{Contains-permutation, IsPermutation-sym}
use Rattle.lnt_machine.specs.declared.row.Row.{Row}
use Rattle.lnt_spans.specs.declared.position.Position.{Position}
use Rattle.lnt_spans.specs.Positions.{IsAtMost, is_below}
use Rattle.lnt_spans.proofs.EachTwoLaws.{find_only}
use Rattle.lnt_spans.proofs.PositionLaws.{at_most_from_not_below, at_most_itself, at_most_trans, not_both}
use Rattle.lnt_spans.specs.Spans.{AreInOrder}
use Rattle.lnt_sequences.specs.Extents.{AreApartUpTo, extents_of, IsIn, NoneHolds, Extent}
use Rattle.lnt_sequences.specs.RowSpans.{EntriesInTurn, IsExtentOf, StandInTurn, row_spans, spans_after, spans_of}
use Rattle.lnt_sequences.specs.Rules.{AreApart, AreOrdered, IsOrdered}
use Rattle.lnt_sequences.specs.Sequences.{answer_in, answer_of, holds, Placed, position_of, row_at}
use Rattle.lnt_sequences.specs.Watching.{last_after}
use Rattle.lnt_sequences.proofs.ExtentLemmas.{Contains-past, here_or_later, IsSketch, of_sequence, test_from_holds}
use Rattle.lnt_sequences.proofs.HolderLemmas.{answer_none, held_once}
use Rattle.lnt_sequences.proofs.RowLemmas.{spans_answer}
use Rattle.lnt_sequences.proofs.SpansOfLemmas.{IsTurnOf, turns_permuted}
use Rattle.lnt_sequences.proofs.TurnLemmas.{spans_in_turn}
use Rattle.std.proofs.lemmas.Grind.{common_steps}

-- ---- the sequence of each entry

abbrev IsTurn : List Placed → Extent → Placed → Type 0
IsTurn sequences entry placed = IsTurnOf sequences entry placed

turns : (sequences : List Placed) (entries : List Extent) → ((e : Extent) → Contains entries e → Contains (extents_of sequences) e)
    → (in_turn : List Placed) × AllZip (IsTurn sequences) entries in_turn
turns sequences [] h = ([], tt)
turns sequences (entry ∷ entries) h =
    let one = of_sequence sequences entry (h entry (0, omega arith, refl)) in
    let rest = turns sequences entries (λ e k. h e (Contains-past entry entries e k)) in
    (one.0 ∷ rest.0, (record { contained = one.1; sketch = one.2 }, rest.1))

turn_entries : (sequences : List Placed) (entries : List Extent) (in_turn : List Placed) → AllZip (IsTurn sequences) entries in_turn
    → AllZip (IsExtentOf sequences) entries in_turn
turn_entries sequences [] [] z = tt
turn_entries sequences (e ∷ es) (s ∷ ss) z =
    (record { contained = z.0.contained; id_is = sym z.0.sketch.id }, turn_entries sequences es ss z.1)
turn_entries sequences _ _ z = absurd z

-- ---- they are ordered

of_contained : {X : Type 0} (P : X → Type 0) (xs : List X) (x : X) → AllByRecursion P xs → Contains xs x → P x
of_contained P [] x all k = absurd (omega (arith, k.1))
of_contained P (y ∷ xs) x all k =
    ⊎_elim (λ (here : y ≡ x). subst P here all.0) (λ (later : Contains xs x). of_contained P xs x all.1 later) (here_or_later y xs x k)

turns_ordered : (sequences : List Placed) (entries : List Extent) (in_turn : List Placed) → AreOrdered sequences
    → AllZip (IsTurn sequences) entries in_turn → AreOrdered in_turn
turns_ordered sequences [] [] o z = tt
turns_ordered sequences (e ∷ es) (s ∷ ss) o z =
    (of_contained (λ (placed : Placed). IsOrdered placed.rows) sequences s o z.0.contained, turns_ordered sequences es ss o z.1)
turns_ordered sequences _ _ o z = absurd z

-- ---- they stand in turn

-- from this entry on, which doesn't begin below a position
stand : (sequences : List Placed) (entry : Extent) (entries : List Extent) (placed : Placed) (in_turn : List Placed) (low : Position)
    → AreApartUpTo (length entries) (entry ∷ entries)
    → AllZip (IsTurn sequences) (entry ∷ entries) (placed ∷ in_turn) → IsAtMost low entry.low → (high : Position)
    × StandInTurn low (placed ∷ in_turn) high
stand sequences entry [] placed [] low apart z from =
    let s = z.0.sketch in (
      position_of (last_after s.first s.others),
      (s.first, s.others, s.rows_are, subst (IsAtMost low) s.low from, at_most_itself (position_of (last_after s.first s.others))),
    )
stand sequences entry (next ∷ entries) placed (t ∷ in_turn) low apart z from =
    let s = z.0.sketch in
    let begins : IsAtMost (position_of (last_after s.first s.others)) next.low = subst (λ (p : Position). IsAtMost p next.low) s.high
    (apart 0 entry (omega arith)) in
    let more = stand sequences next entries t in_turn (position_of (last_after s.first s.others))
    (λ k d few. later k d (apart (suc k) d (omega (arith, few)))) z.1 begins in
    (more.0, (s.first, s.others, s.rows_are, subst (IsAtMost low) s.low from, more.1))
  where
    later : (k : ℕ) (d : Extent)
        → IsAtMost (slice_index_or (next ∷ entries) k d).high (slice_index_or (entry ∷ next ∷ entries) (suc k + 1) d).low
        → IsAtMost (slice_index_or (next ∷ entries) k d).high (slice_index_or (next ∷ entries) (k + 1) d).low
    later k d h =
        let e : suc k + 1 ≡ suc (k + 1) = omega arith in
        subst (λ (n : ℕ). IsAtMost (slice_index_or (next ∷ entries) k d).high (slice_index_or (entry ∷ next ∷ entries) n d).low) e h
stand sequences entry _ placed _ low apart z from = absurd z.1

turns_in_order : (sequences : List Placed) (entries : List Extent) (in_turn : List Placed) → AreApartUpTo (length entries - 1) entries
    → AllZip (IsTurn sequences) entries in_turn → AreOrdered in_turn → AreInOrder (spans_of in_turn)
turns_in_order sequences [] [] apart z o = tt
turns_in_order sequences (e ∷ es) (s ∷ ss) apart z o =
    let all = stand sequences e es s ss e.low (λ k d few. apart k d (omega (arith, few))) z (at_most_itself e.low) in
    spans_in_turn e.low all.0 (s ∷ ss) all.1 o
turns_in_order sequences _ _ apart z o = absurd z

-- ---- they answer as all do

abbrev FoundAlike : List Placed → List Extent → List Placed → Position → Type 0
FoundAlike sequences entries in_turn p = (find (λ (s : Placed). holds p s.rows) in_turn ≡ find (λ (s : Placed). holds p s.rows) sequences)
    ⊎ (NoneHolds entries p × (find (λ (s : Placed). holds p s.rows) in_turn ≡ None))

found_alike : (sequences : List Placed) (entries : List Extent) (in_turn : List Placed) (p : Position) → AreApart sequences
    → AllZip (IsTurn sequences) entries in_turn → FoundAlike sequences entries in_turn p
found_alike sequences [] [] p apart z = inr (All-nil (λ (e : Extent). IsIn p e → ⊥), refl)
found_alike sequences (e ∷ es) (s ∷ ss) p apart z = by_test (holds p s.rows) refl (found_alike sequences es ss p apart z.1)
  where
    by_test : (t : Bool) → holds p s.rows ≡ t → FoundAlike sequences es ss p → FoundAlike sequences (e ∷ es) (s ∷ ss) p
    by_test true h rest =
        inl (rw h (sym (find_only (λ (s : Placed). holds p s.rows) sequences s (held_once sequences p apart) z.0.contained h)))
    by_test false h (inl same) = inl (rw h same)
    by_test false h (inr none) =
        inr (
          All-cons (λ (e : Extent). IsIn p e → ⊥) e es (λ i. true≢false (sym (test_from_holds s.rows p (z.0.sketch.back p i)) ∙ h))
              none.0,
          rw h none.1,
        )
found_alike sequences _ _ p apart z = absurd z

turns_answer : (sequences : List Placed) (entries : List Extent) (in_turn : List Placed) (p : Position)
    → IsPermutation (extents_of sequences) entries → AreApart sequences
    → AllZip (IsTurn sequences) entries in_turn → answer_in in_turn p ≡ answer_in sequences p
turns_answer sequences entries in_turn p permuted apart z = by_found (found_alike sequences entries in_turn p apart z)
  where
    by_found : FoundAlike sequences entries in_turn p → answer_in in_turn p ≡ answer_in sequences p
    by_found (inl same) = ap (λ (found : Option Placed). option_and_then
        (λ (placed : Placed). option_map (answer_of placed.id.unit) (row_at p placed.rows)) found) same
    by_found (inr none) =
        ap (λ (found : Option Placed). option_and_then (λ (placed : Placed). option_map (answer_of placed.id.unit) (row_at p placed.rows))
        found) none.1 ∙ sym (answer_none sequences entries p permuted none.0)

-- ---- each has a span

flat : (unit : ℕ) (row : Row) (rows : List Row) → spans_after unit row rows ≡ []
    → IsAtMost (position_of (last_after row rows)) (position_of row)
flat unit row [] e = at_most_itself (position_of row)
flat unit row (next ∷ rows) e = by_test (is_below (position_of row) (position_of next)) refl e (flat unit next rows)
  where
    by_test : (t : Bool) → is_below (position_of row) (position_of next) ≡ t
        → cond t (record { low = position_of row; high = position_of next; answer = answer_of unit row } ∷ []) [] ++ spans_after unit next
        rows ≡ [] → (spans_after unit next rows ≡ [] → IsAtMost (position_of (last_after next rows)) (position_of next))
        → IsAtMost (position_of (last_after next rows)) (position_of row)
    by_test true h none more = absurd (omega (arith, ap length none))
    by_test false h none more = at_most_trans (more none) (at_most_from_not_below (position_of row) (position_of next) h)

some_span : (entry : Extent) (placed : Placed) → IsSketch placed entry → 0 < length (row_spans placed.id.unit placed.rows)
some_span entry placed s = grind (arith, common_steps, not_both, flat)

turns_some : (sequences : List Placed) (entries : List Extent) (in_turn : List Placed) → AllZip (IsTurn sequences) entries in_turn
    → length entries ≤ length (spans_of in_turn)
turns_some sequences [] [] z = omega arith
turns_some sequences (e ∷ es) (s ∷ ss) z =
    let more = turns_some sequences es ss z.1 in
    omega (arith, more, some_span e s z.0.sketch, length-append (row_spans s.id.unit s.rows) (spans_of ss))
turns_some sequences _ _ z = absurd z

pub entries_in_turn : EntriesInTurn
entries_in_turn sequences entries settled permuted apart ordered =
    let found = turns sequences entries
    (λ e k. Contains-permutation entries (extents_of sequences) e (IsPermutation-sym (extents_of sequences) entries permuted) k) in
    let in_order = turns_ordered sequences entries found.0 ordered found.1 in
    record {
      in_turn = found.0;
      each = turn_entries sequences entries found.0 found.1;
      permuted = turns_permuted sequences entries found.0 permuted apart ordered found.1;
      in_order = turns_in_order sequences entries found.0 settled.apart found.1 in_order;
      answers = λ p. spans_answer found.0 in_order p ∙ turns_answer sequences entries found.0 p permuted apart found.1;
      count = turns_some sequences entries found.0 found.1;
    }
