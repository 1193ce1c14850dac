-- The spans of the sequences of entries are those of all sequences.
use Rattle.std.proofs.Common.{◌≡◌, ℕ, zero, suc, ◌<◌, List, [], ◌∷◌, ◌++◌, length, get_or, set, Option, Some, None, refl, sym, ap, ◌∙◌}
use Rattle.std.proofs.Common.{subst, arith, ⊎_elim, IsPermutation, append_assoc}
use Rattle.std.specs.List.{AllZip, Contains, find, flat_map, swap}
use Rattle.std.proofs.lemmas.List.Edits.{swap_is}
use Rattle.std.proofs.lemmas.List.Sorted.{IsPermutation-append_comm, IsPermutation-append_left}
use Rattle.std.proofs.lemmas.List.Sorted.{IsPermutation-append_right, IsPermutation-keeps, IsPermutation-refl, IsPermutation-trans}
use Rattle.lnt_machine.specs.declared.row.Row.{Row}
use Rattle.lnt_spans.specs.declared.position.Position.{Position}
use Rattle.lnt_spans.specs.declared.span.Span.{Span}
use Rattle.lnt_spans.specs.Positions.{IsAtMost, IsBelow}
use Rattle.lnt_spans.proofs.EachTwoLaws.{find_only}
use Rattle.lnt_spans.proofs.PositionLaws.{at_most_itself, at_most_trans, order_cases}
use Rattle.lnt_sequences.specs.Extents.{extents_of, IsIn, Extent}
use Rattle.lnt_sequences.specs.RowSpans.{row_spans, span_between, spans_after, spans_of}
use Rattle.lnt_sequences.specs.Rules.{AreApart, AreOrdered, IsOrdered}
use Rattle.lnt_sequences.specs.Sequences.{holds, Holds, Placed, position_of}
use Rattle.lnt_sequences.specs.Watching.{last_after}
use Rattle.lnt_sequences.proofs.ExtentLemmas.{Contains-past, holds_after, IsEmpty, IsSketch, sketch, test_from_holds}
use Rattle.lnt_sequences.proofs.HolderLemmas.{held_once}
use Rattle.lnt_sequences.proofs.RowLemmas.{IsRising, rising_from_ordered, rising_last, span_none}

-- ---- pieces in another order

-- two pieces first, in each other's place
two_pieces : {A : Type 0} (xs ys zs : List A) → IsPermutation (xs ++ (ys ++ zs)) (ys ++ (xs ++ zs))
two_pieces xs ys zs = subst (λ l. IsPermutation l (ys ++ (xs ++ zs))) (append_assoc xs ys zs)
    (subst (IsPermutation ((xs ++ ys) ++ zs)) (append_assoc ys xs zs)
    (IsPermutation-append_left zs (xs ++ ys) (ys ++ xs) (IsPermutation-append_comm xs ys)))

-- a piece takes the place of another
piece_put : {X A : Type 0} (f : X → List A) (x : X) (xs : List X) (i : ℕ) (d : X) → i < length xs
    → IsPermutation (f x ++ flat_map f xs) (f (get_or xs i d) ++ flat_map f (set xs i x))
piece_put f x [] i d l = absurd (omega arith)
piece_put f x (y ∷ xs) zero d l = two_pieces (f x) (f y) (flat_map f xs)
piece_put f x (y ∷ xs) (suc i) d l =
    let other = get_or xs i d in
    let rest = flat_map f (set xs i x) in
    let inner : IsPermutation (f y ++ (f x ++ flat_map f xs)) (f y ++ (f other ++ rest)) =
    IsPermutation-append_right (f y) (f x ++ flat_map f xs) (f other ++ rest) (piece_put f x xs i d (omega arith)) in
    IsPermutation-trans (f x ++ (f y ++ flat_map f xs)) (f y ++ (f x ++ flat_map f xs)) (f other ++ (f y ++ rest))
    (two_pieces (f x) (f y) (flat_map f xs))
    (IsPermutation-trans (f y ++ (f x ++ flat_map f xs)) (f y ++ (f other ++ rest)) (f other ++ (f y ++ rest)) inner
    (two_pieces (f y) (f other) rest))

pieces_swapped : {X A : Type 0} (f : X → List A) (xs : List X) (i j : ℕ) (d : X) → i < length xs → j < length xs
    → IsPermutation (flat_map f xs) (flat_map f (set (set xs i (get_or xs j d)) j (get_or xs i d)))
pieces_swapped f [] i j d l m = absurd (omega arith)
pieces_swapped f (x ∷ xs) zero zero d l m = IsPermutation-refl (flat_map f (x ∷ xs))
pieces_swapped f (x ∷ xs) zero (suc j) d l m = piece_put f x xs j d (omega arith)
pieces_swapped f (x ∷ xs) (suc i) zero d l m = piece_put f x xs i d (omega arith)
pieces_swapped f (x ∷ xs) (suc i) (suc j) d l m =
    IsPermutation-append_right (f x) (flat_map f xs) (flat_map f (set (set xs i (get_or xs j d)) j (get_or xs i d)))
    (pieces_swapped f xs i j d (omega arith) (omega arith))

pub pieces_permuted : {X A : Type 0} (f : X → List A) (xs ys : List X) → IsPermutation xs ys → IsPermutation (flat_map f xs) (flat_map f ys)
pieces_permuted {X} f xs ys h =
    IsPermutation-keeps xs (λ l. IsPermutation (flat_map f xs) (flat_map f l)) (IsPermutation-refl (flat_map f xs))
    (λ l i j p q so. IsPermutation-trans (flat_map f xs) (flat_map f l) _ so (swapped l i j p q l refl)) ys h
  where
    swapped : (l : List X) (i j : ℕ) → i < length l → j < length l → (k : List X) → l ≡ k
        → IsPermutation (flat_map f l) (flat_map f (swap l i j))
    swapped l i j p q [] e = absurd (omega (arith, p, ap length e))
    swapped l i j p q (d ∷ k) e = subst (λ m. IsPermutation (flat_map f l) (flat_map f m)) (swap_is l i j d p q)
        (pieces_swapped f l i j d p q)

-- ---- the spans of a sequence, by its extent

spans_found : Option Placed → List Span
spans_found None = []
spans_found (Some placed) = row_spans placed.id.unit placed.rows

-- those of the first of the sequences that holds where the extent begins
spans_by : List Placed → Extent → List Span
spans_by sequences extent = spans_found (find (λ placed. holds extent.low placed.rows) sequences)

spans_by_sketch : (sequences : List Placed) (placed : Placed) (extent : Extent) → AreApart sequences → Contains sequences placed
    → IsSketch placed extent → spans_by sequences extent ≡ row_spans placed.id.unit placed.rows
unfolding spans_by spans_found
spans_by_sketch sequences placed extent apart c s =
    let here : IsIn extent.low extent = record { from = at_most_itself extent.low; below = s.some } in
    ap spans_found (find_only (λ (t : Placed). holds extent.low t.rows) sequences placed (held_once sequences extent.low apart) c
    (test_from_holds placed.rows extent.low (s.back extent.low here)))

-- ---- a sequence that holds nothing has no span

flat_spans : (unit : ℕ) (row : Row) (rows : List Row) → IsRising row rows → IsAtMost (position_of (last_after row rows)) (position_of row)
    → spans_after unit row rows ≡ []
flat_spans unit row [] rising flat = refl
flat_spans unit row (next ∷ rows) rising flat =
    let last = rising_last next rows rising.1 in
    let first : span_between unit row next ≡ [] = span_none unit row next (at_most_trans last flat) in
    let others : spans_after unit next rows ≡ [] = flat_spans unit next rows rising.1 (at_most_trans flat rising.0) in
    ap (λ (spans : List Span). spans ++ spans_after unit next rows) first ∙ others

empty_spans : (unit : ℕ) (rows : List Row) → IsOrdered rows → ((p : Position) → Holds rows p → ⊥) → row_spans unit rows ≡ []
empty_spans unit [] ordered none = refl
empty_spans unit (row ∷ rows) ordered none = ⊎_elim (λ (below : IsBelow (position_of row) (position_of (last_after row rows))). absurd
    (none (position_of row) (holds_after row rows (position_of row) (at_most_itself (position_of row)) below)))
    (λ (flat : IsAtMost (position_of (last_after row rows)) (position_of row)). flat_spans unit row rows
    (rising_from_ordered row rows ordered) flat) (order_cases (position_of row) (position_of (last_after row rows)))

-- ---- all of them

-- of some of the sequences
spans_by_extents : (sequences some : List Placed) → AreApart sequences → AreOrdered some
    → ((placed : Placed) → Contains some placed → Contains sequences placed)
    → spans_of some ≡ flat_map (spans_by sequences) (extents_of some)
spans_by_extents sequences [] apart ordered within = refl
spans_by_extents sequences (placed ∷ some) apart ordered within =
    let rest = spans_by_extents sequences some apart ordered.1 (λ s c. within s (Contains-past placed some s c)) in
    ⊎_elim (λ (none : IsEmpty placed).
    ap (λ (spans : List Span). spans ++ spans_of some) (empty_spans placed.id.unit placed.rows ordered.0 none.none) ∙ rest
    ∙ sym (ap (λ (es : List Extent). flat_map (spans_by sequences) (es ++ extents_of some)) none.list))
    (λ (one : (e : Extent) × IsSketch placed e). ap (λ (spans : List Span). spans ++ spans_of some)
    (sym (spans_by_sketch sequences placed one.0 apart (within placed (0, omega arith, refl)) one.1))
    ∙ ap (λ (spans : List Span). spans_by sequences one.0 ++ spans) rest
    ∙ sym (ap (λ (es : List Extent). flat_map (spans_by sequences) (es ++ extents_of some)) one.1.list)) (sketch placed)

pub record IsTurnOf (sequences : List Placed) (entry : Extent) (placed : Placed) : Type 0 where
  pub contained : Contains sequences placed
  pub sketch : IsSketch placed entry

spans_by_entries : (sequences : List Placed) (entries : List Extent) (in_turn : List Placed) → AreApart sequences
    → AllZip (IsTurnOf sequences) entries in_turn → spans_of in_turn ≡ flat_map (spans_by sequences) entries
spans_by_entries sequences [] [] apart z = refl
spans_by_entries sequences (e ∷ es) (s ∷ ss) apart z =
    ap (λ (spans : List Span). spans ++ spans_of ss) (sym (spans_by_sketch sequences s e apart z.0.contained z.0.sketch))
    ∙ ap (λ (spans : List Span). spans_by sequences e ++ spans) (spans_by_entries sequences es ss apart z.1)
spans_by_entries sequences _ _ apart z = absurd z

pub turns_permuted : (sequences : List Placed) (entries : List Extent) (in_turn : List Placed)
    → IsPermutation (extents_of sequences) entries → AreApart sequences → AreOrdered sequences
    → AllZip (IsTurnOf sequences) entries in_turn → IsPermutation (spans_of sequences) (spans_of in_turn)
turns_permuted sequences entries in_turn permuted apart ordered z = subst (λ (spans : List Span). IsPermutation spans (spans_of in_turn))
    (sym (spans_by_extents sequences sequences apart ordered (λ s c. c)))
    (subst (IsPermutation (flat_map (spans_by sequences) (extents_of sequences))) (sym (spans_by_entries sequences entries in_turn apart z))
    (pieces_permuted (spans_by sequences) (extents_of sequences) entries permuted))
