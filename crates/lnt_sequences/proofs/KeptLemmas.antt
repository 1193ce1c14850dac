-- The extents of the kept sequences are those of all that are no copies.
use Rattle.std.proofs.Common.{◌≡◌, ◌≢◌, Bool, true, false, not, ◌&&◌, ◌||◌, cond, List, [], ◌∷◌, ◌++◌, refl, sym, ap, ◌∙◌, arith, ⊎_elim, ℕ}
use Rattle.std.proofs.Common.{length, take, All, AllPairs, filter, IsPermutation}
use Rattle.std.proofs.Math.Seq.{take-append_seam}
use Rattle.std.proofs.lemmas.Bool.{and_right}
use Rattle.std.proofs.lemmas.Bool.Decides.{nat_tests}
use Rattle.std.proofs.lemmas.List.Sorted.{All-permutation, IsPermutation-sym}
use Rattle.lnt_machine.specs.declared.row.Row.{Row}
use Rattle.lnt_spans.specs.declared.position.Position.{Position}
use Rattle.lnt_spans.specs.Positions.{IsBelow, is_below}
use Rattle.lnt_spans.proofs.EachTwoLaws.{each_two_from_pairs, each_two_permutation, pairs_from_each_two}
use Rattle.lnt_spans.proofs.PositionLaws.{at_most_itself, below_from_test, test_below}
use Rattle.lnt_sequences.specs.Overlaps.{end_alike, is_copied, kept_extents, ExtentsDisjoint, ExtentsOverlap}
use Rattle.lnt_sequences.specs.Extents.{extents_of, IsFirstOverlap, Extent, Overlap}
use Rattle.lnt_sequences.proofs.WalkLaws.{last_row_is}
use Rattle.lnt_sequences.proofs.KeptLaws.{kept_distinct}
use Rattle.lnt_sequences.specs.Rules.{AreApart, AreDistinct}
use Rattle.lnt_sequences.specs.Sequences.{hold_alike, is_copy, is_same, kept_of, Placed, position_of, stands_before, SeqId}
use Rattle.lnt_sequences.specs.Watching.{last_after}
use Rattle.lnt_sequences.proofs.ExtentLemmas.{apart_from_disjoint, extents_ids, extents_some, holds_after, IsEmpty}
use Rattle.lnt_sequences.proofs.ExtentLemmas.{IsSketch, overlap_of_sequences, sketch}
use Rattle.lnt_sequences.proofs.OverlapLemmas.{first_overlap_permuted}
use Rattle.std.proofs.lemmas.Grind.{common_steps}

-- ---- whether two hold alike, by their first and last rows

alike_rows : (row other : Row) (rows others : List Row) → hold_alike (row ∷ rows) (other ∷ others)
    ≡ (is_below (position_of row) (position_of (last_after row rows))
    && (is_same (position_of row) (position_of other) && is_same (position_of (last_after row rows))
    (position_of (last_after other others))))
alike_rows row other rows others = grind (arith, common_steps, last_row_is)

below_ends : (s : Placed) (e : Extent) → (k : IsSketch s e)
    → is_below (position_of k.first) (position_of (last_after k.first k.others)) ≡ true
below_ends s e k = grind (arith, common_steps, test_below)

alike_by_extents : (s t : Placed) (e f : Extent) → IsSketch s e → IsSketch t f → hold_alike s.rows t.rows ≡ end_alike e f
alike_by_extents s t e f k l = grind (arith, common_steps, alike_rows, below_ends)

-- what is like one that holds a position holds one
alike_some : (p q r s : Position) → is_below p q ≡ true → (is_same p r && is_same q s) ≡ true → is_below r s ≡ true
alike_some p q r s h k = grind (arith, nat_tests)

unlike_empty : (s t : Placed) (e : Extent) → IsSketch s e → IsEmpty t → hold_alike s.rows t.rows ≡ false
unlike_empty s t e k none =
    grind (arith, common_steps, last_row_is, alike_rows, below_ends, alike_some, holds_after, at_most_itself, below_from_test)

-- ---- which are copies

copy_by_extents : (s : Placed) (e : Extent) → IsSketch s e → (all : List Placed) → is_copy all s ≡ is_copied (extents_of all) e
copy_by_extents s e k [] = refl
copy_by_extents s e k (t ∷ all) =
    let rest = copy_by_extents s e k all in
    let first : Bool = stands_before t.id s.id && hold_alike s.rows t.rows in
    ⊎_elim (λ (none : IsEmpty t).
    let no : (stands_before t.id s.id && hold_alike s.rows t.rows) ≡ false = and_right
    (stands_before t.id s.id) (hold_alike s.rows t.rows) (unlike_empty s t e k none) in
    ap (λ (b : Bool). b || is_copy all s) no ∙ rest ∙ sym (ap (λ (es : List Extent). is_copied (es ++ extents_of all) e) none.list))
    (λ (one : (f : Extent) × IsSketch t f).
    let same : (stands_before t.id s.id && hold_alike s.rows t.rows) ≡ (stands_before one.0.id e.id && end_alike e one.0) =
    ap (λ (b : Bool). stands_before t.id s.id && b) (alike_by_extents s t e one.0 k one.1)
    ∙ ap (λ (id : SeqId). stands_before t.id id && end_alike e one.0) (sym k.id)
    ∙ ap (λ (id : SeqId). stands_before id e.id && end_alike e one.0) (sym one.1.id) in
    ap (λ (b : Bool). b || is_copy all s) same ∙ ap (λ (b : Bool). (stands_before one.0.id e.id && end_alike e one.0) || b) rest
    ∙ sym (ap (λ (es : List Extent). is_copied (es ++ extents_of all) e) one.1.list)) (sketch t)

kept_among : (all ss : List Placed)
    → extents_of (filter (λ (s : Placed). not (is_copy all s)) ss) ≡ filter (λ (e : Extent). not (is_copied (extents_of all) e))
    (extents_of ss)
kept_among all [] = refl
kept_among all (s ∷ ss) =
    let Kept : List Extent = filter (λ (e : Extent). not (is_copied (extents_of all) e)) (extents_of ss) in
    let rest = kept_among all ss in
    ⊎_elim (λ (none : IsEmpty s). by_empty (not (is_copy all s)) none rest
    ∙ sym (ap (λ (es : List Extent). filter (λ (e : Extent). not (is_copied (extents_of all) e)) (es ++ extents_of ss)) none.list))
    (λ (one : (e : Extent) × IsSketch s e). ap (λ (t : Bool). extents_of (cond (not t) (s ∷ filter (λ (s : Placed). not (is_copy all s)) ss)
    (filter (λ (s : Placed). not (is_copy all s)) ss))) (copy_by_extents s one.0 one.1 all)
    ∙ by_test (not (is_copied (extents_of all) one.0)) one.0 one.1 rest
    ∙ sym (ap (λ (es : List Extent). filter (λ (e : Extent). not (is_copied (extents_of all) e)) (es ++ extents_of ss)) one.1.list))
    (sketch s)
  where
    by_empty : (t : Bool) → IsEmpty s
        → extents_of (filter (λ (s : Placed). not (is_copy all s)) ss) ≡ filter (λ (e : Extent). not (is_copied (extents_of all) e))
        (extents_of ss)
        → extents_of (cond t (s ∷ filter (λ (s : Placed). not (is_copy all s)) ss) (filter (λ (s : Placed). not (is_copy all s)) ss)) ≡
        filter (λ (e : Extent). not (is_copied (extents_of all) e)) (extents_of ss)
    by_empty true none rest = ap (λ (es : List Extent). es ++ extents_of (filter (λ (s : Placed). not (is_copy all s)) ss)) none.list ∙ rest
    by_empty false none rest = rest

    by_test : (t : Bool) (e : Extent) → IsSketch s e
        → extents_of (filter (λ (s : Placed). not (is_copy all s)) ss) ≡ filter (λ (e : Extent). not (is_copied (extents_of all) e))
        (extents_of ss)
        → extents_of (cond t (s ∷ filter (λ (s : Placed). not (is_copy all s)) ss) (filter (λ (s : Placed). not (is_copy all s)) ss))
        ≡ cond t (e ∷ filter (λ (e : Extent). not (is_copied (extents_of all) e)) (extents_of ss))
        (filter (λ (e : Extent). not (is_copied (extents_of all) e)) (extents_of ss))
    by_test true e k rest = ap (λ (es : List Extent). es ++ extents_of (filter (λ (s : Placed). not (is_copy all s)) ss)) k.list
        ∙ ap (λ (es : List Extent). e ∷ es) rest
    by_test false e k rest = rest

pub kept_extents_are : (skip : Bool) (ss : List Placed) → extents_of (kept_of skip ss) ≡ kept_extents skip (extents_of ss)
kept_extents_are false ss = refl
kept_extents_are true ss = kept_among ss ss

-- ---- what is known of the kept extents, in whichever order, of the kept sequences

pub kept_are : (skip : Bool) (ss : List Placed) (es ys : List Extent) → es ≡ extents_of ss → IsPermutation (kept_extents skip es) ys
    → IsPermutation (extents_of (kept_of skip ss)) ys
kept_are skip ss es ys are h = grind (arith, common_steps, kept_extents_are)

pub kept_some : (ss : List Placed) (ys : List Extent) → IsPermutation (extents_of ss) ys → All (λ (e : Extent). IsBelow e.low e.high) ys
kept_some ss ys h = All-permutation (λ (e : Extent). IsBelow e.low e.high) (extents_of ss) ys h (extents_some ss)

pub ids_permuted : (xs ys : List Extent) → IsPermutation xs ys → AllPairs (λ (a : Extent) (b : Extent). a.id ≢ b.id) xs
    → AllPairs (λ (a : Extent) (b : Extent). a.id ≢ b.id) ys
ids_permuted xs ys h ids =
    let R : Extent → Extent → Type 0 = λ a b. a.id ≢ b.id in
    pairs_from_each_two R ys (each_two_permutation R xs ys h (each_two_from_pairs R (λ x y ne e. ne (sym e)) xs ids))

pub kept_apart : (ss : List Placed) (ys : List Extent) → IsPermutation (extents_of ss) ys → AllPairs ExtentsDisjoint ys → AreApart ss
kept_apart ss ys h disjoint = apart_from_disjoint ss (pairs_from_each_two ExtentsDisjoint (extents_of ss)
    (each_two_permutation ExtentsDisjoint ys (extents_of ss) (IsPermutation-sym (extents_of ss) ys h)
    (each_two_from_pairs ExtentsDisjoint (λ a b d p x y. d p y x) ys disjoint)))

pub kept_overlap : (ss : List Placed) (ys : List Extent) (overlap : Overlap) → IsPermutation (extents_of ss) ys → ExtentsOverlap ys overlap
    → IsFirstOverlap ss overlap
kept_overlap ss ys overlap h o = overlap_of_sequences ss overlap (record {
  one = o.one;
  other = o.other;
  first_is = o.first_is;
  second_is = o.second_is;
  position_is = o.position_is;
  first = first_overlap_permuted (extents_of ss) ys o.one o.other h o.first;
})

pub ids_kept : (skip : Bool) (ss : List Placed) (es ys : List Extent) → es ≡ extents_of ss → AreDistinct ss
    → IsPermutation (kept_extents skip es) ys → AllPairs (λ (a : Extent) (b : Extent). a.id ≢ b.id) ys
ids_kept skip ss es ys are distinct h = ids_permuted (extents_of (kept_of skip ss)) ys (kept_are skip ss es ys are h)
    (extents_ids (kept_of skip ss) (kept_distinct skip ss distinct))

-- what a vector holds whose items were put in order
pub written_back : {X : Type 0} (n : ℕ) (xs rest : List X) → n ≡ length xs → take n (xs ++ rest) ≡ xs
written_back n xs rest e = ap (λ (k : ℕ). take k (xs ++ rest)) e ∙ take-append_seam xs rest
