-- The kept sequences of a section.
use Rattle.std.proofs.Common.{◌≡◌, ◌≢◌, ℕ, suc, ◌+◌, ◌<◌, Bool, true, false, not, ◌&&◌, ◌||◌, cond, List, [], ◌∷◌, ◌++◌}
use Rattle.std.proofs.Common.{Option, Some, refl, sym, ap, ◌∙◌, arith, get_or}
use Rattle.std.specs.List.{All, AllPairs, Contains, filter, list_any}
use Rattle.std.proofs.lemmas.Bool.{false_from_ne_true, true≢false}
use Rattle.std.proofs.lemmas.Bool.Decides.{nat_tests}
use Rattle.std.proofs.lemmas.List.Elements.{All-append, All-contains, All-contains_itself, All-cons, All-filter}
use Rattle.std.proofs.lemmas.List.Elements.{All-nil, All-weaker, filter_passes}
use Rattle.std.proofs.lemmas.List.Folds.{list_any-append, list_any_at, list_any_none}
use Rattle.std.proofs.lemmas.List.Kept.{AllPairs-filter}
use Rattle.lnt_header.specs.declared.unit_parts.UnitParts.{UnitParts}
use Rattle.lnt_machine.specs.declared.row.Row.{Row}
use Rattle.lnt_spans.specs.declared.position.Position.{Position}
use Rattle.lnt_spans.specs.Positions.{is_below}
use Rattle.lnt_spans.proofs.EachTwoLaws.{pairs_append, pairs_cons, pairs_head, pairs_nil, pairs_tail}
use Rattle.lnt_machine.specs.declared.row.Sequence.{Sequence}
use Rattle.lnt_machine.specs.Matrix.{rows, sequences_of}
use Rattle.lnt_sequences.specs.Rules.{AreDistinct, AreOrdered}
use Rattle.lnt_sequences.specs.Sequences.{ends_alike, first_row, hold_alike, is_copy, is_live, is_same, kept_of, last_row, live_in}
use Rattle.lnt_sequences.specs.Sequences.{live_sequences, Placed, placed_in, position_of, stands_before, SeqId}
use Rattle.lnt_sequences.proofs.FoundLaws.{of_filter}
use Rattle.lnt_sequences.proofs.UnitLaws.{all_from, all_of, IsFrom, IsOf}
use Rattle.lnt_sequences.proofs.WalkLaws.{placed_from}
use Rattle.std.proofs.lemmas.Grind.{common_steps}

-- ---- of live sequences

pub kept_live : (skip : Bool) (ss : List Placed) (s : Placed) → Contains (kept_of skip ss) s → Contains ss s
kept_live false ss s c = c
kept_live true ss s c = of_filter (λ (t : Placed). not (is_copy ss t)) ss s c

pub kept_distinct : (skip : Bool) (ss : List Placed) → AreDistinct ss → AreDistinct (kept_of skip ss)
kept_distinct false ss h = h
kept_distinct true ss h = AllPairs-filter (λ (s : Placed) (t : Placed). s.id ≢ t.id) (λ (s : Placed). not (is_copy ss s)) ss h

ordered_filter : (test : Placed → Bool) (ss : List Placed) → AreOrdered ss → AreOrdered (filter test ss)
ordered_filter test [] h = tt
ordered_filter test (s ∷ ss) h = by_test (test s) (ordered_filter test ss h.1)
  where
    by_test : (t : Bool) → AreOrdered (filter test ss) → AreOrdered (cond t (s ∷ filter test ss) (filter test ss))
    by_test true rest = (h.0, rest)
    by_test false rest = rest

pub kept_ordered : (skip : Bool) (ss : List Placed) → AreOrdered ss → AreOrdered (kept_of skip ss)
kept_ordered false ss h = h
kept_ordered true ss h = ordered_filter (λ (s : Placed). not (is_copy ss s)) ss h

-- ---- no two are alike

same_back : (p q : Position) → is_same p q ≡ true → is_same q p ≡ true
same_back p q h = grind (arith, nat_tests)

below_back : (p q r s : Position) → is_below p q ≡ true → is_same p r ≡ true → is_same q s ≡ true → is_below r s ≡ true
below_back p q r s h k l = grind (arith, nat_tests)

positions_back : (p q r s : Position) → (is_below p q && (is_same p r && is_same q s)) ≡ true
    → (is_below r s && (is_same r p && is_same s q)) ≡ true
positions_back p q r s h = grind (arith, common_steps, below_back, same_back)

alike_back : (a b c d : Option Row) → ends_alike a b c d ≡ true → ends_alike c d a b ≡ true
alike_back (Some a) (Some b) (Some c) (Some d) h = positions_back (position_of a) (position_of b) (position_of c) (position_of d) h
alike_back _ _ _ _ h = absurd cc

pub hold_alike_back : (rows others : List Row) → hold_alike rows others ≡ false → hold_alike others rows ≡ false
hold_alike_back rows others h = false_from_ne_true (hold_alike others rows)
    (λ e. true≢false (sym (alike_back (first_row others) (last_row others) (first_row rows) (last_row rows) e) ∙ h))

id_of : ℕ → ℕ → SeqId
id_of unit index = record { unit = unit; index = index }

pub same_id : (a b : SeqId) → a.unit ≡ b.unit → a.index ≡ b.index → a ≡ b
unfolding id_of
same_id a b e f = ap (λ (n : ℕ). id_of n a.index) e ∙ ap (id_of b.unit) f

-- of two with different ids one stands before the other
one_before : (a b : SeqId) → (a ≡ b → ⊥) → stands_before a b ≡ false → stands_before b a ≡ true
one_before a b ne h = grind (arith, common_steps, same_id)

-- whether the one is a copy for the other's sake
abbrev makes_copy : Placed → Placed → Bool
makes_copy placed earlier = stands_before earlier.id placed.id && hold_alike placed.rows earlier.rows

-- what stands before one that is no copy isn't like it
unlike_before : (ss : List Placed) (s t : Placed) → Contains ss t → is_copy ss s ≡ false → stands_before t.id s.id ≡ true
    → hold_alike s.rows t.rows ≡ false
unlike_before ss s t c none before = false_from_ne_true (hold_alike s.rows t.rows) (λ e. true≢false
    (sym (list_any_at (makes_copy s) ss c.0 t c.1 (ap (makes_copy s) c.2 ∙ rw (before, e) refl)) ∙ none))

record IsKept (ss : List Placed) (s : Placed) : Type 0 where
  contained : Contains ss s
  no_copy : is_copy ss s ≡ false

not_true : (b : Bool) → not b ≡ true → b ≡ false
not_true true h = absurd cc
not_true false h = refl

unlike_kept : (ss : List Placed) (s t : Placed) → IsKept ss s → IsKept ss t → (s.id ≡ t.id → ⊥) → hold_alike s.rows t.rows ≡ false
unlike_kept ss s t h k ne = grind (arith, common_steps, hold_alike_back, unlike_before, one_before)

-- no two of different ids that are kept are alike
pub kept_differ : (ss : List Placed) → AreDistinct ss
    → AllPairs (λ (s : Placed) (t : Placed). hold_alike s.rows t.rows ≡ false) (kept_of true ss)
kept_differ ss distinct =
    let test : Placed → Bool = λ s. not (is_copy ss s) in
    let ids = kept_distinct true ss distinct in
    let within : All (Contains ss) (filter test ss) = All-filter test (Contains ss) ss (All-contains_itself ss) in
    let passes : All (λ (s : Placed). test s ≡ true) (filter test ss) = filter_passes test ss in
    let each : All (IsKept ss) (filter test ss) = λ k d l. record {
      contained = within k d l;
      no_copy = not_true (is_copy ss (get_or (filter test ss) k d)) (passes k d l);
    } in
    λ i j d lt l. unlike_kept ss (get_or (filter test ss) i d) (get_or (filter test ss) j d) (each i d (omega arith)) (each j d l)
    (ids i j d lt l)

-- ---- the order of a section is that of its list

abbrev pub IsBefore : Placed → Placed → Type 0
IsBefore one other = stands_before one.id other.id ≡ true

before_is : (a b : SeqId) → a.unit < b.unit → stands_before a b ≡ true
before_is a b h = grind (arith, nat_tests)

before_in : (a b : SeqId) → a.unit ≡ b.unit → a.index < b.index → stands_before a b ≡ true
before_in a b e h = grind (arith, nat_tests)

rising_from : (unit index : ℕ) (ss : List Sequence) → AllPairs IsBefore (placed_from unit index ss)
rising_from unit index [] = pairs_nil IsBefore
rising_from unit index (s ∷ ss) =
    let first : Placed = record { id = record { unit = unit; index = index }; rows = s.rows } in
    pairs_cons IsBefore first (placed_from unit (index + 1) ss) (All-weaker (IsFrom unit (index + 1)) (IsBefore first)
    (λ placed f. let from = f.index_from in before_in first.id placed.id (sym f.unit_is) (omega arith)) (placed_from unit (index + 1) ss)
    (all_from unit (index + 1) ss)) (rising_from unit (index + 1) ss)

all_above : (dead : Option ℕ) (unit : ℕ) (units : List (ℕ × UnitParts)) → All (λ (other : ℕ × UnitParts). unit < other.0) units
    → All (λ (placed : Placed). unit < placed.id.unit) (live_sequences dead units)
all_above dead unit [] h = All-nil (λ (placed : Placed). unit < placed.id.unit)
all_above dead unit (other ∷ units) h =
    let Above : Placed → Type 0 = λ placed. unit < placed.id.unit in
    let here : unit < other.0 = h 0 other (omega arith) in
    All-append Above (live_in dead other) (live_sequences dead units)
    (All-weaker (IsOf other.0) Above (λ placed is. omega (arith, here, is)) (live_in dead other) (all_of dead other))
    (all_above dead unit units (λ k d l. h (suc k) d (omega arith)))

-- of units at rising offsets
pub rising_sequences : (dead : Option ℕ) (units : List (ℕ × UnitParts))
    → AllPairs (λ (one : ℕ × UnitParts) (other : ℕ × UnitParts). one.0 < other.0) units → AllPairs IsBefore (live_sequences dead units)
rising_sequences dead [] h = pairs_nil IsBefore
rising_sequences dead (unit ∷ units) h =
    let Rise : ℕ × UnitParts → ℕ × UnitParts → Type 0 = λ one other. one.0 < other.0 in
    let others = all_above dead unit.0 units (pairs_head Rise unit units h) in
    pairs_append IsBefore (live_in dead unit) (live_sequences dead units)
    (AllPairs-filter IsBefore (is_live dead) (placed_in unit) (rising_from unit.0 0 (sequences_of (rows unit.1))))
    (rising_sequences dead units (pairs_tail Rise unit units h))
    (All-weaker (IsOf unit.0) (λ (placed : Placed). All (IsBefore placed) (live_sequences dead units))
    (λ placed of k d l. let above = others k d l in before_is placed.id (get_or (live_sequences dead units) k d).id
    (omega (arith, above, of))) (live_in dead unit) (all_of dead unit))

-- ---- so a copy is found by a look back over the list

not_after : (a b : SeqId) → stands_before a b ≡ true → stands_before b a ≡ false
not_after a b h = grind (arith, nat_tests)

not_itself : (a : SeqId) → stands_before a a ≡ false
not_itself a = grind (arith, nat_tests)

pub middle : {X : Type 0} (xs : List X) (x : X) (ys : List X) → Contains (xs ++ x ∷ ys) x
middle [] x ys = (0, omega arith, refl)
middle (y ∷ xs) x ys = let rest = middle xs x ys in (suc rest.0, omega (arith, rest.1), rest.2)

pairs_before : {X : Type 0} (R : X → X → Type 0) (seen : List X) (x : X) (xs : List X) → AllPairs R (seen ++ x ∷ xs) → All (λ e. R e x) seen
pairs_before R [] x xs h = All-nil (λ e. R e x)
pairs_before R (s ∷ seen) x xs h =
    All-cons (λ e. R e x) s seen (All-contains (R s) (seen ++ x ∷ xs) x (pairs_head R s (seen ++ x ∷ xs) h) (middle seen x xs))
    (pairs_before R seen x xs (pairs_tail R s (seen ++ x ∷ xs) h))

pairs_after : {X : Type 0} (R : X → X → Type 0) (seen : List X) (x : X) (xs : List X) → AllPairs R (seen ++ x ∷ xs) → All (R x) xs
pairs_after R [] x xs h = pairs_head R x xs h
pairs_after R (s ∷ seen) x xs h = pairs_after R seen x xs (pairs_tail R s (seen ++ x ∷ xs) h)

any_before : (placed : Placed) (seen : List Placed) → All (λ (e : Placed). IsBefore e placed) seen
    → list_any (makes_copy placed) seen ≡ list_any (λ (e : Placed). hold_alike placed.rows e.rows) seen
any_before placed [] h = refl
any_before placed (s ∷ seen) h =
    ap (λ (t : Bool). (t && hold_alike placed.rows s.rows) || list_any (makes_copy placed) seen) (h 0 s (omega arith))
    ∙ ap (λ (t : Bool). hold_alike placed.rows s.rows || t) (any_before placed seen (λ k d l. h (suc k) d (omega arith)))

or_false : (b : Bool) → (b || false) ≡ b
or_false true = refl
or_false false = refl

-- the one after those seen
pub copy_by_look_back : (seen : List Placed) (placed : Placed) (rest : List Placed) → AllPairs IsBefore (seen ++ placed ∷ rest)
    → is_copy (seen ++ placed ∷ rest) placed ≡ list_any (λ (e : Placed). hold_alike placed.rows e.rows) seen
copy_by_look_back seen placed rest order =
    let Makes : Placed → Type 0 = λ e. makes_copy placed e ≡ false in
    let past : All Makes rest =
    All-weaker (IsBefore placed) Makes (λ e b. ap (λ (t : Bool). t && hold_alike placed.rows e.rows) (not_after placed.id e.id b)) rest
    (pairs_after IsBefore seen placed rest order) in
    let itself : Makes placed = ap (λ (t : Bool). t && hold_alike placed.rows placed.rows) (not_itself placed.id) in
    list_any-append (makes_copy placed) seen (placed ∷ rest) ∙ ap (λ (t : Bool). list_any (makes_copy placed) seen || t)
    (list_any_none (makes_copy placed) (placed ∷ rest) (All-cons Makes placed rest itself past))
    ∙ or_false (list_any (makes_copy placed) seen) ∙ any_before placed seen (pairs_before IsBefore seen placed rest order)
