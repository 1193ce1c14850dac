-- A sequence and its extent hold the same positions.
use Rattle.std.proofs.Common.{◌≡◌, ◌≢◌, ◌⊎◌, ℕ, suc, Bool, true, false, ◌&&◌, List, [], ◌∷◌, ◌++◌, Some, None, refl, sym, ap, ◌∙◌, subst}
use Rattle.std.proofs.Common.{arith, get_or, inl, inr, ⊎_elim, AllPairs, All, Contains}
use Rattle.std.proofs.lemmas.Bool.{false_from_ne_true}
use Rattle.std.proofs.lemmas.List.{get_or_default}
use Rattle.std.proofs.lemmas.List.Elements.{All-cons, All-head, All-tail, All-nil, All-weaker}
use Rattle.std.proofs.lemmas.Option.{same_Some}
use Rattle.lnt_machine.specs.declared.row.Row.{Row}
use Rattle.lnt_spans.specs.declared.position.Position.{Position}
use Rattle.lnt_spans.specs.Positions.{IsBelow, IsAtMost, is_below, is_at_most}
use Rattle.lnt_spans.proofs.EachTwoLaws.{each_two_from_pairs, pairs_nil, pairs_cons, pairs_head, pairs_tail}
use Rattle.lnt_spans.proofs.PositionLaws.{at_most_from_not_below, at_most_from_test, at_most_itself, at_most_trans}
use Rattle.lnt_spans.proofs.PositionLaws.{below_from_test, not_both, test_at_most, test_below}
use Rattle.lnt_sequences.specs.declared.extent.Overlap.{Overlap}
use Rattle.lnt_sequences.specs.Extents.{BeginsNoLater, ComesNoLater, extent_of, extents_of, IsFirstOverlap, IsIn, IsNotLater, Extent}
use Rattle.lnt_sequences.specs.Laws.{OverlapIsNotApart, SequenceSpans}
use Rattle.lnt_sequences.specs.Overlaps.{ExtentsDisjoint, ExtentsOverlap}
use Rattle.lnt_sequences.proofs.WalkLaws.{last_row_is}
use Rattle.lnt_sequences.specs.Rules.{AreApart}
use Rattle.lnt_sequences.specs.Sequences.{first_row, holds, Holds, Placed, position_of, SeqId}
use Rattle.lnt_sequences.specs.Watching.{last_after}
use Rattle.lnt_sequences.proofs.RowLemmas.{holds_is, rising_list, row_spans_answer}
use Rattle.std.proofs.lemmas.Grind.{common_steps}

-- ---- Holds, of a row and the rows after it

pub holds_after : (row : Row) (rows : List Row) (p : Position) → IsAtMost (position_of row) p
    → IsBelow p (position_of (last_after row rows)) → Holds (row ∷ rows) p
holds_after row rows p h k = grind (arith, common_steps, last_row_is)

pub from_holds : (row : Row) (rows : List Row) (p : Position) → Holds (row ∷ rows) p → IsAtMost (position_of row) p
    × IsBelow p (position_of (last_after row rows))
from_holds row rows p h = grind (arith, common_steps, same_Some, last_row_is)

pub none_held : (p : Position) → Holds [] p → ⊥
none_held p h = let e : None ≡ Some h.first = h.first_is in cc

-- ---- a sequence and its extent

pub record IsEmpty (s : Placed) : Type 0 where
  pub list : extent_of s ≡ []
  pub none : (p : Position) → Holds s.rows p → ⊥

pub record IsSketch (s : Placed) (e : Extent) : Type 0 where
  pub first : Row
  pub others : List Row
  pub rows_are : s.rows ≡ first ∷ others
  pub list : extent_of s ≡ e ∷ []
  pub id : e.id ≡ s.id
  pub first_is : first_row s.rows ≡ Some first
  pub low : e.low ≡ position_of first
  pub high : e.high ≡ position_of (last_after first others)
  pub some : IsBelow e.low e.high
  pub into : (p : Position) → Holds s.rows p → IsIn p e
  pub back : (p : Position) → IsIn p e → Holds s.rows p

ruleset sketch_lemmas = (none_held, last_row_is, below_from_test, from_holds, holds_after, not_both, at_most_trans, at_most_from_not_below)

sketch_of : (id : SeqId) (rows : List Row) → IsEmpty (record { id = id; rows = rows })
    ⊎ ((e : Extent) × IsSketch (record { id = id; rows = rows }) e)
sketch_of id rows =
    grind (arith, common_steps, sketch_lemmas)

pub sketch : (s : Placed) → IsEmpty s ⊎ ((e : Extent) × IsSketch s e)
sketch s = sketch_of s.id s.rows

-- ---- what holds of sequences, of their extents

pub into_all : (P : Placed → Type 0) (R : Extent → Type 0) → ((s : Placed) (e : Extent) → IsSketch s e → P s → R e) → (ss : List Placed)
    → All P ss → All R (extents_of ss)
into_all P R step [] h = All-nil R
into_all P R step (s ∷ ss) h =
    let rest = into_all P R step ss (All-tail P s ss h) in
    ⊎_elim (λ (none : IsEmpty s). subst (λ (es : List Extent). All R (es ++ extents_of ss)) (sym none.list) rest)
    (λ (one : (e : Extent) × IsSketch s e). subst (λ (es : List Extent). All R (es ++ extents_of ss)) (sym one.1.list)
    (All-cons R one.0 (extents_of ss) (step s one.0 one.1 (All-head P s ss h)) rest)) (sketch s)

pub into_pairs : (Q : Placed → Placed → Type 0) (R : Extent → Extent → Type 0)
    → ((s t : Placed) (e f : Extent) → IsSketch s e → IsSketch t f → Q s t → R e f)
    → (ss : List Placed) → AllPairs Q ss → AllPairs R (extents_of ss)
into_pairs Q R step [] h = pairs_nil R
into_pairs Q R step (s ∷ ss) h =
    let rest = into_pairs Q R step ss (pairs_tail Q s ss h) in
    ⊎_elim (λ (none : IsEmpty s). subst (λ (es : List Extent). AllPairs R (es ++ extents_of ss)) (sym none.list) rest)
    (λ (one : (e : Extent) × IsSketch s e). subst (λ (es : List Extent). AllPairs R (es ++ extents_of ss)) (sym one.1.list)
    (pairs_cons R one.0 (extents_of ss) (into_all (Q s) (R one.0) (λ t f k q. step s t one.0 f one.1 k q) ss (pairs_head Q s ss h)) rest))
    (sketch s)

pub extents_some : (ss : List Placed) → All (λ (e : Extent). IsBelow e.low e.high) (extents_of ss)
extents_some ss = into_all (λ _. Unit {0}) (λ (e : Extent). IsBelow e.low e.high) (λ s e k _. k.some) ss (λ k d l. tt)

pub extents_ids : (ss : List Placed) → AllPairs (λ (s : Placed) (t : Placed). s.id ≢ t.id) ss
    → AllPairs (λ (e : Extent) (f : Extent). e.id ≢ f.id) (extents_of ss)
extents_ids ss h = into_pairs (λ s t. s.id ≢ t.id) (λ e f. e.id ≢ f.id) (λ s t e f k l ne same. ne (sym k.id ∙ same ∙ l.id)) ss h

-- ---- apart sequences, disjoint extents

abbrev pub Apart : Placed → Placed → Type 0
Apart one other = (p : Position) → Holds one.rows p → Holds other.rows p → ⊥

-- ---- each sequence that holds something has its extent among them

same_extent : (s : Placed) (e f : Extent) → IsSketch s e → IsSketch s f → e ≡ f
same_extent s e f k l = let h : e ∷ [] ≡ f ∷ [] = sym k.list ∙ l.list in cc

pub all_back : (R : Extent → Type 0) (ss : List Placed) → All R (extents_of ss) → All (λ (t : Placed). (e : Extent) → IsSketch t e → R e) ss
all_back R [] h = All-nil (λ (t : Placed). (e : Extent) → IsSketch t e → R e)
all_back R (s ∷ ss) h =
    let Q : Placed → Type 0 = λ t. (e : Extent) → IsSketch t e → R e in
    ⊎_elim (λ (none : IsEmpty s).
    All-cons Q s ss (λ e k. absurd (none.none e.low (k.back e.low (record { from = at_most_itself e.low; below = k.some }))))
    (all_back R ss (subst (λ (es : List Extent). All R (es ++ extents_of ss)) none.list h))) (λ (one : (e : Extent) × IsSketch s e).
    let all : All R (one.0 ∷ extents_of ss) = subst (λ (es : List Extent). All R (es ++ extents_of ss)) one.1.list h in
    All-cons Q s ss (λ e k. subst R (same_extent s one.0 e one.1 k) (All-head R one.0 (extents_of ss) all))
    (all_back R ss (All-tail R one.0 (extents_of ss) all))) (sketch s)

-- ---- at the positions of which P holds

abbrev pub DisjointWhere : (Position → Type 0) → Extent → Extent → Type 0
DisjointWhere P one other = (p : Position) → P p → IsIn p one → IsIn p other → ⊥

abbrev pub ApartWhere : (Position → Type 0) → Placed → Placed → Type 0
ApartWhere P one other = (p : Position) → P p → Holds one.rows p → Holds other.rows p → ⊥

held_apart : (P : Position → Type 0) (e : Extent) (ss : List Placed) → All (DisjointWhere P e) (extents_of ss)
    → All (λ (t : Placed). (p : Position) → P p → IsIn p e → Holds t.rows p → ⊥) ss
held_apart P e ss h = All-weaker (λ (t : Placed). (f : Extent) → IsSketch t f → DisjointWhere P e f)
    (λ (t : Placed). (p : Position) → P p → IsIn p e → Holds t.rows p → ⊥) (λ t k p at x y. ⊎_elim (λ (none : IsEmpty t). none.none p y)
    (λ (one : (f : Extent) × IsSketch t f). k one.0 one.1 p at x (one.1.into p y)) (sketch t)) ss (all_back (DisjointWhere P e) ss h)

pub apart_where : (P : Position → Type 0) (ss : List Placed) → AllPairs (DisjointWhere P) (extents_of ss) → AllPairs (ApartWhere P) ss
apart_where P [] h = pairs_nil (ApartWhere P)
apart_where P (s ∷ ss) h = ⊎_elim (λ (none : IsEmpty s). pairs_cons (ApartWhere P) s ss (λ k d l p at x y. none.none p x)
    (apart_where P ss (subst (λ (es : List Extent). AllPairs (DisjointWhere P) (es ++ extents_of ss)) none.list h)))
    (λ (one : (e : Extent) × IsSketch s e).
    let all : AllPairs (DisjointWhere P) (one.0 ∷ extents_of ss) = subst
    (λ (es : List Extent). AllPairs (DisjointWhere P) (es ++ extents_of ss)) one.1.list h in
    let head = held_apart P one.0 ss (pairs_head (DisjointWhere P) one.0 (extents_of ss) all) in
    pairs_cons (ApartWhere P) s ss (λ k d l p at x y. head k d l p at (one.1.into p x) y)
    (apart_where P ss (pairs_tail (DisjointWhere P) one.0 (extents_of ss) all))) (sketch s)

pub apart_from_disjoint : (ss : List Placed) → AllPairs ExtentsDisjoint (extents_of ss) → AreApart ss
apart_from_disjoint ss h =
    let all = apart_where (λ _. Unit {0}) ss (λ i j d lt l p at x y. h i j d lt l p x y) in
    λ i j d lt l p x y. all i j d lt l p tt x y

pub Contains-past : {X : Type 0} (y : X) (xs : List X) (x : X) → Contains xs x → Contains (y ∷ xs) x
Contains-past y xs x h = (suc h.0, omega (arith, h.1), h.2)

pub here_or_later : {X : Type 0} (y : X) (xs : List X) (x : X) → Contains (y ∷ xs) x → (y ≡ x) ⊎ Contains xs x
here_or_later {X} y xs x h = grind (arith, common_steps)

-- an extent is that of one of the sequences
pub of_sequence : (ss : List Placed) (e : Extent) → Contains (extents_of ss) e → (s : Placed) × Contains ss s × IsSketch s e
of_sequence [] e h = absurd (omega (arith, h.1))
of_sequence (s ∷ ss) e h = ⊎_elim (λ (none : IsEmpty s).
    let k = of_sequence ss e (subst (λ (es : List Extent). Contains (es ++ extents_of ss) e) none.list h) in
    (k.0, Contains-past s ss k.0 k.1, k.2)) (λ (one : (f : Extent) × IsSketch s f). ⊎_elim
    (λ (here : one.0 ≡ e). (s, (0, omega arith, refl), subst (IsSketch s) here one.1))
    (λ (later : Contains (extents_of ss) e). let k = of_sequence ss e later in (k.0, Contains-past s ss k.0 k.1, k.2))
    (here_or_later one.0 (extents_of ss) e (subst (λ (es : List Extent). Contains (es ++ extents_of ss) e) one.1.list h))) (sketch s)

-- the order of extents is that of their sequences
abbrev begins_no_later : (s t : Placed) (e f : Extent) → IsSketch s e → IsSketch t f → ComesNoLater e f → BeginsNoLater s t
begins_no_later s t e f k l h = record {
  first = k.first;
  other_first = l.first;
  first_is = k.first_is;
  other_is = l.first_is;
  order = subst (λ (p : Position). IsNotLater p s.id (position_of l.first) t.id) k.low
      (subst (λ (p : Position). IsNotLater e.low s.id p t.id) l.low
      (subst (λ (id : SeqId). IsNotLater e.low id f.low t.id) k.id (subst (λ (id : SeqId). IsNotLater e.low e.id f.low id) l.id h)));
}

-- the first overlap of the extents is that of the sequences
pub overlap_of_sequences : (ss : List Placed) (overlap : Overlap) → ExtentsOverlap (extents_of ss) overlap → IsFirstOverlap ss overlap
overlap_of_sequences ss overlap o =
    let f = o.first in
    let one = of_sequence ss o.one f.one_in in
    let other = of_sequence ss o.other f.other_in in
    record {
      one = one.0;
      other = other.0;
      one_in = one.1;
      other_in = other.1;
      first_is = o.first_is ∙ one.2.id;
      second_is = o.second_is ∙ other.2.id;
      different = λ e. f.different (sym o.first_is ∙ e ∙ o.second_is);
      one_holds = one.2.back overlap.position (rw o.position_is f.one_holds);
      other_holds = other.2.back overlap.position (rw o.position_is f.other_holds);
      lower = apart_where (λ p. IsBelow p overlap.position) ss
          (λ i j d lt l p below x y. f.lower p (rw o.position_is at below) i j d lt l x y);
      in_turn = begins_no_later one.0 other.0 o.one o.other one.2 other.2 f.order;
      begins = o.position_is ∙ other.2.low;
      first_two = All-weaker (λ (t : Placed). (e : Extent) → IsSketch t e → IsIn o.other.low e → (e ≡ o.one) ⊎ (e ≡ o.other)
          ⊎ ComesNoLater o.other e)
          (λ (t : Placed). Holds t.rows overlap.position → (t.id ≡ overlap.first) ⊎ (t.id ≡ overlap.second) ⊎ BeginsNoLater other.0 t)
          (λ t k h. ⊎_elim (λ (none : IsEmpty t). absurd (none.none overlap.position h)) (λ (some : (e : Extent) × IsSketch t e).
          by_turn t some.0 some.1 other.0 other.2 (k some.0 some.1 (rw o.position_is at (some.1.into overlap.position h)))) (sketch t)) ss
          (all_back (λ (e : Extent). IsIn o.other.low e → (e ≡ o.one) ⊎ (e ≡ o.other) ⊎ ComesNoLater o.other e) ss f.first_two);
    }
  where
    by_turn : (t : Placed) (e : Extent) → IsSketch t e → (other : Placed) → IsSketch other o.other
        → (e ≡ o.one) ⊎ (e ≡ o.other) ⊎ ComesNoLater o.other e → (t.id ≡ overlap.first) ⊎ (t.id ≡ overlap.second) ⊎ BeginsNoLater other t
    by_turn t e k other l (inl same) = inl (sym k.id ∙ ap (λ (f : Extent). f.id) same ∙ sym o.first_is)
    by_turn t e k other l (inr (inl same)) = inr (inl (sym k.id ∙ ap (λ (f : Extent). f.id) same ∙ sym o.second_is))
    by_turn t e k other l (inr (inr later)) = inr (inr (begins_no_later other t o.other e l k later))

-- ---- the test is the relation

pub test_from_holds : (rows : List Row) (p : Position) → Holds rows p → holds p rows ≡ true
test_from_holds rows p h = grind (arith, common_steps, none_held, from_holds, holds_is, test_at_most, test_below)

pub holds_from_test : (rows : List Row) (p : Position) → holds p rows ≡ true → Holds rows p
holds_from_test [] p h = absurd cc
holds_from_test (row ∷ rows) p h =
    by_parts (is_at_most (position_of row) p) (is_below p (position_of (last_after row rows))) refl refl (sym (holds_is row rows p) ∙ h)
  where
    by_parts : (a b : Bool) → is_at_most (position_of row) p ≡ a → is_below p (position_of (last_after row rows)) ≡ b → (a && b) ≡ true
        → Holds (row ∷ rows) p
    by_parts true true e f g = holds_after row rows p (at_most_from_test (position_of row) p e)
        (below_from_test p (position_of (last_after row rows)) f)
    by_parts true false e f g = absurd cc
    by_parts false b e f g = absurd cc

-- where two overlap, they aren't apart
pub overlap_is_not_apart : OverlapIsNotApart
overlap_is_not_apart ss overlap o apart =
    let i = o.one_in.0 in
    let j = o.other_in.0 in
    let two = each_two_from_pairs Apart (λ s t h p x y. h p y x) ss apart in
    let other_at : get_or ss j o.one ≡ o.other = get_or_default ss j o.one o.other o.other_in.1 ∙ o.other_in.2 in
    let ne : (i ≡ j) → ⊥ = λ e. o.different
    (o.first_is ∙ ap (λ (s : Placed). s.id) (sym o.one_in.2 ∙ ap (λ (k : ℕ). get_or ss k o.one) e ∙ other_at) ∙ sym o.second_is) in
    two i j o.one ne o.one_in.1 o.other_in.1 overlap.position
    (subst (λ (s : Placed). Holds s.rows overlap.position) (sym o.one_in.2) o.one_holds)
    (subst (λ (s : Placed). Holds s.rows overlap.position) (sym other_at) o.other_holds)

pub not_held : (rows : List Row) (p : Position) → (Holds rows p → ⊥) → holds p rows ≡ false
not_held rows p h = false_from_ne_true (holds p rows) (λ e. h (holds_from_test rows p e))

-- the spans of one sequence, by Holds
pub sequence_spans : SequenceSpans
sequence_spans unit rows p o = grind (arith, common_steps, row_spans_answer, rising_list, test_from_holds, not_held)
