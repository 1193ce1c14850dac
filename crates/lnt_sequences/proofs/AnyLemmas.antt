-- What any of the live sequences answers: a kept one holds what a live one holds.
use Rattle.std.proofs.Common.{◌≡◌, ℕ, zero, suc, ◌+◌, ◌<◌, ◌≤◌, Bool, true, false, not, ◌&&◌, ◌||◌, cond, List, [], ◌∷◌, Option, Some, None}
use Rattle.std.proofs.Common.{◌⊎◌, inl, inr, refl, sym, ap, ◌∙◌, arith, ⊎_elim, option_and_then, option_map, true≢false}
use Rattle.std.specs.List.{Contains, filter, find, list_any}
use Rattle.std.proofs.lemmas.Bool.{cases_eq}
use Rattle.std.proofs.lemmas.Bool.Decides.{nat_tests}
use Rattle.std.proofs.lemmas.List.Elements.{All-contains, All-contains_itself}
use Rattle.std.proofs.lemmas.List.Kept.{AllPairs-filter}
use Rattle.std.proofs.lemmas.List.Sorted.{Contains-permutation, IsPermutation-sym}
use Rattle.std.proofs.lemmas.Option.{same_Some}
use Rattle.lnt_machine.specs.declared.row.Row.{Row}
use Rattle.lnt_spans.specs.declared.answer.Answer.{Answer}
use Rattle.lnt_spans.specs.declared.position.Position.{Position}
use Rattle.lnt_spans.specs.Positions.{is_at_most, is_below}
use Rattle.lnt_spans.proofs.EachTwoLaws.{find_only, none_found}
use Rattle.lnt_sequences.specs.Copies.{AnyAnswers, AreExtentsOf, ExtentsOfSequences, IsAnyAnswer, IsOfExtent, IsSaid, IsUnheld}
use Rattle.lnt_sequences.specs.Extents.{Extent, extents_of}
use Rattle.lnt_sequences.specs.Rules.{AreApart}
use Rattle.lnt_sequences.specs.Sequences.{answer_of, ends_alike, first_row, hold_alike, holds, Holds, is_copy, is_same}
use Rattle.lnt_sequences.specs.Sequences.{kept_of, kept_sequences, last_row, line_answer, live_sequences, Placed, position_of, row_at}
use Rattle.lnt_sequences.specs.Sequences.{Selection, SeqId, stands_before}
use Rattle.lnt_sequences.proofs.ExtentLemmas.{all_back, Contains-past, here_or_later, holds_from_test, IsEmpty, IsSketch}
use Rattle.lnt_sequences.proofs.ExtentLemmas.{of_sequence, sketch, test_from_holds}
use Rattle.lnt_sequences.proofs.HolderLemmas.{held_once}
use Rattle.lnt_sequences.proofs.KeptLaws.{kept_live}
use Rattle.lnt_sequences.proofs.LastRowLemmas.{answers_as_holder}
use Rattle.lnt_sequences.proofs.RowLemmas.{holds_some}

-- ---- elements that pass a test

of_any : {X : Type 0} (test : X → Bool) (xs : List X) → list_any test xs ≡ true → (x : X) × Contains xs x × (test x ≡ true)
of_any test [] h = absurd cc
of_any {X} test (x ∷ xs) h = by_test (test x) refl h (λ k. of_any test xs k)
  where
    by_test : (t : Bool) → test x ≡ t → (t || list_any test xs) ≡ true
        → (list_any test xs ≡ true → (y : X) × Contains xs y × (test y ≡ true)) → (y : X) × Contains (x ∷ xs) y × (test y ≡ true)
    by_test true e k rest = (x, (0, omega arith, refl), e)
    by_test false e k rest = let found = rest k in (found.0, Contains-past x xs found.0 found.1, found.2)

of_find : {X : Type 0} (test : X → Bool) (xs : List X) (x : X) → find test xs ≡ Some x → Contains xs x × (test x ≡ true)
of_find test [] x h = absurd cc
of_find {X} test (y ∷ xs) x h = by_test (test y) refl h (λ k. of_find test xs x k)
  where
    by_test : (t : Bool) → test y ≡ t → cond t (Some y) (find test xs) ≡ Some x
        → (find test xs ≡ Some x → Contains xs x × (test x ≡ true)) → Contains (y ∷ xs) x × (test x ≡ true)
    by_test true e k rest = let here = same_Some y x k in ((0, omega arith, here), ap test (sym here) ∙ e)
    by_test false e k rest = let found = rest k in (Contains-past y xs x found.0, found.1)

into_filter : {X : Type 0} (test : X → Bool) (xs : List X) (x : X) → Contains xs x → test x ≡ true → Contains (filter test xs) x
into_filter test [] x h t = h
into_filter {X} test (y ∷ xs) x h t = by_test (test y) refl (here_or_later y xs x h) (λ k. into_filter test xs x k t)
  where
    by_test : (b : Bool) → test y ≡ b → (y ≡ x) ⊎ Contains xs x → (Contains xs x → Contains (filter test xs) x)
        → Contains (cond b (y ∷ filter test xs) (filter test xs)) x
    by_test true e (inl here) rest = (0, omega arith, here)
    by_test true e (inr later) rest = Contains-past y (filter test xs) x (rest later)
    by_test false e (inl here) rest = absurd (true≢false (sym t ∙ ap test (sym here) ∙ e))
    by_test false e (inr later) rest = rest later

-- ---- what a copy holds, the sequence holds of which it is a copy

first_true : (a b : Bool) → (a && b) ≡ true → a ≡ true
first_true true b k = refl
first_true false b k = k

second_true : (a b : Bool) → (a && b) ≡ true → b ≡ true
second_true true b k = k
second_true false b k = absurd cc

at_most_same : (p a c : Position) → is_same a c ≡ true → is_at_most a p ≡ true → is_at_most c p ≡ true
at_most_same p a c e h = grind (arith, nat_tests)

below_same : (p b d : Position) → is_same b d ≡ true → is_below p b ≡ true → is_below p d ≡ true
below_same p b d e h = grind (arith, nat_tests)

both_true : (a b : Bool) → a ≡ true → b ≡ true → (a && b) ≡ true
both_true a b e f = rw (e, f) refl

positions_hold : (p a b c d : Position) → (is_below a b && (is_same a c && is_same b d)) ≡ true
    → (is_at_most a p && is_below p b) ≡ true → (is_at_most c p && is_below p d) ≡ true
positions_hold p a b c d e h =
    let same = second_true (is_below a b) (is_same a c && is_same b d) e in
    both_true (is_at_most c p) (is_below p d)
    (at_most_same p a c (first_true (is_same a c) (is_same b d) same) (first_true (is_at_most a p) (is_below p b) h))
    (below_same p b d (second_true (is_same a c) (is_same b d) same) (second_true (is_at_most a p) (is_below p b) h))

-- `holds`, by the first and the last row
ends_hold : Position → Option Row → Option Row → Bool
ends_hold p a b = elim a [
  | None ↦ false
  | Some first ↦ elim b [ None ↦ false | Some last ↦ is_at_most (position_of first) p && is_below p (position_of last) ]
]

alike_ends : (p : Position) (a b c d : Option Row) → ends_alike a b c d ≡ true → ends_hold p a b ≡ true → ends_hold p c d ≡ true
unfolding ends_hold
alike_ends p (Some a) (Some b) (Some c) (Some d) e h =
    positions_hold p (position_of a) (position_of b) (position_of c) (position_of d) e h
alike_ends p _ _ _ _ e h = absurd cc

alike_holds : (p : Position) (rows others : List Row) → hold_alike rows others ≡ true → holds p rows ≡ true → holds p others ≡ true
unfolding ends_hold
alike_holds p rows others e h = alike_ends p (first_row rows) (last_row rows) (first_row others) (last_row others) e h

-- ---- so one that is kept holds what any holds

unit_before : (a b : SeqId) → stands_before a b ≡ true → a.unit ≤ b.unit
unit_before a b h = grind (arith, nat_tests)

index_before : (a b : SeqId) → stands_before a b ≡ true → a.unit ≡ b.unit → a.index < b.index
index_before a b h e = grind (arith, nat_tests)

record KeptHolds (ss : List Placed) (p : Position) : Type 0 where
  placed : Placed
  contained : Contains (kept_of true ss) placed
  held : holds p placed.rows ≡ true

abbrev makes_copy : Placed → Placed → Bool
makes_copy placed earlier = stands_before earlier.id placed.id && hold_alike placed.rows earlier.rows

abbrev HoldBelow : List Placed → Position → ℕ → Type 0
HoldBelow ss p unit = (s : Placed) → Contains ss s → s.id.unit < unit → holds p s.rows ≡ true → KeptHolds ss p

abbrev HoldAt : List Placed → Position → ℕ → ℕ → Type 0
HoldAt ss p unit n = (s : Placed) → Contains ss s → s.id.unit ≡ unit → s.id.index < n → holds p s.rows ≡ true → KeptHolds ss p

-- by what it is a copy of, if it is one
kept_or_earlier : (ss : List Placed) (p : Position) (unit n : ℕ) → HoldBelow ss p unit → HoldAt ss p unit n → HoldAt ss p unit (suc n)
kept_or_earlier ss p unit n below here s c u l h = by_test (is_copy ss s) refl
  where
    lower : (t : Placed) → (t.id.unit ≡ unit → ⊥) → stands_before t.id s.id ≡ true → t.id.unit < unit
    lower t ne before = let most = unit_before t.id s.id before in omega (arith, most, u, ne)

    earlier : (t : Placed) → Contains ss t → makes_copy s t ≡ true → KeptHolds ss p
    earlier t d e =
        let before : stands_before t.id s.id ≡ true = first_true (stands_before t.id s.id) (hold_alike s.rows t.rows) e in
        let alike : hold_alike s.rows t.rows ≡ true = second_true (stands_before t.id s.id) (hold_alike s.rows t.rows) e in
        let held = alike_holds p s.rows t.rows alike h in
        ⊎_elim (λ (same : t.id.unit ≡ unit). here t d same (omega (arith, l, index_before t.id s.id before (same ∙ sym u))) held)
        (λ (ne : t.id.unit ≡ unit → ⊥). below t d (lower t ne before) held) (cases_eq t.id.unit unit)

    by_test : (t : Bool) → is_copy ss s ≡ t → KeptHolds ss p
    by_test false e = record {
      placed = s;
      contained = into_filter (λ (t : Placed). not (is_copy ss t)) ss s c (ap not e);
      held = h;
    }
    by_test true e = let found = of_any (makes_copy s) ss e in earlier found.0 found.1 found.2

by_index : (ss : List Placed) (p : Position) (unit : ℕ) → HoldBelow ss p unit → (n : ℕ) → HoldAt ss p unit n
by_index ss p unit below zero s c u l h = absurd (omega (arith, l))
by_index ss p unit below (suc n) s c u l h = kept_or_earlier ss p unit n below (by_index ss p unit below n) s c u l h

by_unit : (ss : List Placed) (p : Position) (unit : ℕ) → HoldBelow ss p unit
by_unit ss p zero s c l h = absurd (omega (arith, l))
by_unit ss p (suc unit) s c l h =
    ⊎_elim (λ (e : s.id.unit ≡ unit). by_index ss p unit (by_unit ss p unit) (s.id.index + 1) s c e (omega arith) h)
    (λ (ne : s.id.unit ≡ unit → ⊥). by_unit ss p unit s c (omega (arith, ne, l)) h) (cases_eq s.id.unit unit)

kept_holds : (skip : Bool) (ss : List Placed) (p : Position) (s : Placed) → Contains ss s → holds p s.rows ≡ true
    → (t : Placed) × Contains (kept_of skip ss) t × (holds p t.rows ≡ true)
kept_holds false ss p s c h = (s, c, h)
kept_holds true ss p s c h =
    let kept = by_unit ss p (s.id.unit + 1) s c (omega arith) h in (kept.placed, kept.contained, kept.held)

-- ---- what any of them says

abbrev test : Position → Placed → Bool
test p s = holds p s.rows

abbrev says : Position → Placed → Option Answer
says p placed = option_map (answer_of placed.id.unit) (row_at p placed.rows)

unheld_by : (skip : Bool) (ss : List Placed) (p : Position) → find (test p) (kept_of skip ss) ≡ None → (placed : Placed)
    → Contains ss placed → Holds placed.rows p → ⊥
unheld_by skip ss p e placed c h =
    let kept = kept_holds skip ss p placed c (test_from_holds placed.rows p h) in
    true≢false (sym kept.2 ∙ ap (test p) (sym kept.1.2)
    ∙ none_found (test p) (kept_of skip ss) e kept.1.0 kept.0 kept.1.1)

kept_said : (selection : Selection) (p : Position) (answer : Answer) → line_answer selection p ≡ Some answer
    → IsSaid (live_sequences selection.dead selection.units) p answer
kept_said selection p answer e = by_found (find (test p) (kept_of selection.skip live)) refl e
  where
    live : List Placed
    live = live_sequences selection.dead selection.units

    by_found : (o : Option Placed) → find (test p) (kept_of selection.skip live) ≡ o → option_and_then (says p) o ≡ Some answer
        → IsSaid live p answer
    by_found None found is = absurd cc
    by_found (Some placed) found is =
        let one = of_find (test p) (kept_of selection.skip live) placed found in
        record {
          placed = placed;
          contained = kept_live selection.skip live placed one.0;
          holds = holds_from_test placed.rows p one.1;
          answer_is = is;
        }

kept_unheld : (selection : Selection) (p : Position) → line_answer selection p ≡ None
    → IsUnheld (live_sequences selection.dead selection.units) p
kept_unheld selection p e = by_found (find (test p) (kept_of selection.skip live)) refl e
  where
    live : List Placed
    live = live_sequences selection.dead selection.units

    by_found : (o : Option Placed) → find (test p) (kept_of selection.skip live) ≡ o → option_and_then (says p) o ≡ None
        → IsUnheld live p
    by_found None found is = unheld_by selection.skip live p found
    by_found (Some placed) found is =
        let one = of_find (test p) (kept_of selection.skip live) placed found in
        let row = holds_some placed.rows p one.1 in
        let some : None ≡ Some (answer_of placed.id.unit row.0) =
        sym is ∙ ap (λ (o : Option Row). option_map (answer_of placed.id.unit) o) row.1 in absurd cc

-- the same, as a table contains it
pub any_as_kept : {X : Type 0} (tell : Answer → X) (selection : Selection) (p : Position)
    → IsAnyAnswer tell selection p (option_map tell (line_answer selection p))
any_as_kept tell selection p = by_answer (line_answer selection p) refl
  where
    by_answer : (o : Option Answer) → line_answer selection p ≡ o → IsAnyAnswer tell selection p (option_map tell o)
    by_answer None e = kept_unheld selection p e
    by_answer (Some answer) e = (answer, kept_said selection p answer e, refl)

apart_kept : (skip : Bool) (ss : List Placed) → AreApart ss → AreApart (kept_of skip ss)
apart_kept false ss h = h
apart_kept true ss h = AllPairs-filter (λ (one : Placed) (other : Placed). (p : Position) → Holds one.rows p → Holds other.rows p → ⊥)
    (λ (s : Placed). not (is_copy ss s)) ss h

said_alone : (selection : Selection) (p : Position) (answer : Answer) → AreApart (live_sequences selection.dead selection.units)
    → IsSaid (live_sequences selection.dead selection.units) p answer → line_answer selection p ≡ Some answer
said_alone selection p answer apart is =
    let live = live_sequences selection.dead selection.units in
    let kept = kept_holds selection.skip live p is.placed is.contained (test_from_holds is.placed.rows p is.holds) in
    let one : is.placed ≡ kept.0 = answers_as_holder.one_alone live is.placed kept.0 p apart is.contained
    (kept_live selection.skip live kept.0 kept.1) is.holds (holds_from_test kept.0.rows p kept.2) in
    let only = find_only (test p) (kept_sequences selection) kept.0
    (held_once (kept_sequences selection) p (apart_kept selection.skip live apart)) kept.1 kept.2 in
    ap (λ (o : Option Placed). option_and_then (says p) o) only ∙ ap (says p) (sym one) ∙ is.answer_is

none_alone : (selection : Selection) (p : Position) → IsUnheld (live_sequences selection.dead selection.units) p
    → line_answer selection p ≡ None
none_alone selection p h = answers_as_holder.none (kept_sequences selection) p
    (λ placed c k. h placed (kept_live selection.skip (live_sequences selection.dead selection.units) placed c) k)

pub any_answers : AnyAnswers
any_answers = record { said = kept_said; unheld = kept_unheld; alone = said_alone; none = none_alone }

-- ---- extents

of_sketch : (ss : List Placed) (e : Extent) (s : Placed) → Contains ss s → IsSketch s e → IsOfExtent ss e s
of_sketch ss e s c k = record { contained = c; id_is = sym k.id; into = k.into; back = k.back }

into_extents : (ss : List Placed) (s : Placed) (e : Extent) → Contains ss s → IsSketch s e → Contains (extents_of ss) e
into_extents ss s e c k =
    All-contains (λ (t : Placed). (f : Extent) → IsSketch t f → Contains (extents_of ss) f) ss s
    (all_back (Contains (extents_of ss)) ss (All-contains_itself (extents_of ss))) c e k

one_of_extents : (ss : List Placed) (es : List Extent) (e : Extent) → AreExtentsOf ss es → Contains es e
    → (s : Placed) × IsOfExtent ss e s
one_of_extents ss es e are c =
    let found = of_sequence ss e (Contains-permutation es (extents_of ss) e (IsPermutation-sym (extents_of ss) es are.permuted) c) in
    (found.0, of_sketch ss e found.0 found.1 found.2)

found_extent : (ss : List Placed) (es : List Extent) (s : Placed) (p : Position) → AreExtentsOf ss es → Contains ss s → Holds s.rows p
    → (e : Extent) × Contains es e × IsOfExtent ss e s
found_extent ss es s p are c h = ⊎_elim (λ (empty : IsEmpty s). absurd (empty.none p h)) (λ (one : (e : Extent) × IsSketch s e). (
  one.0,
  Contains-permutation (extents_of ss) es one.0 are.permuted (into_extents ss s one.0 c one.1),
  of_sketch ss one.0 s c one.1,
)) (sketch s)

pub extents_of_sequences : ExtentsOfSequences
extents_of_sequences = record { one = one_of_extents; found = found_extent }
