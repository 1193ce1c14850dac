-- Extents in an order in which copies stand after what they are copies of: there the copies are those that begin and end as the
-- one before them does.
use Rattle.std.proofs.Common.{◌≡◌, ◌≢◌, ℕ, ◌<◌, ◌≤◌, Bool, true, false, not, ◌&&◌, cond, List, [], ◌∷◌, ◌++◌, refl, sym, ap, ◌∙◌, subst}
use Rattle.std.proofs.Common.{arith, length, get_or, append_assoc, is_lt, nat_cmp, IsPermutation}
use Rattle.std.specs.List.{All, AllPairs, Contains, dedup, dedup_from, filter, flat_map}
use Rattle.std.specs.Ordering.{ordering_then}
use Rattle.std.proofs.lemmas.Bool.{and_left, and_right, false_from_ne_true, true≢false}
use Rattle.std.proofs.lemmas.Bool.Decides.{nat_tests}
use Rattle.std.proofs.lemmas.List.Elements.{All-append, All-cons, All-nil, All-push, All-tail, All-weaker}
use Rattle.std.proofs.lemmas.List.Folds.{list_any_at, list_any_none}
use Rattle.std.proofs.lemmas.List.Sorted.{list_any-IsPermutation}
use Rattle.lnt_spans.proofs.EachTwoLaws.{each_two_from_pairs, each_two_permutation, pairs_cons, pairs_from_each_two, pairs_head, pairs_tail}
use Rattle.lnt_spans.proofs.PositionLaws.{at_most_itself, at_most_trans}
use Rattle.lnt_sequences.specs.declared.extent.Extent.{Extent}
use Rattle.lnt_sequences.specs.Overlaps.{AreGathered, end_alike, EndsNoLater, is_copied, kept_extents}
use Rattle.lnt_sequences.specs.Sequences.{stands_before}
use Rattle.lnt_sequences.proofs.KeptLaws.{middle, same_id}
use Rattle.lnt_sequences.proofs.OverlapLemmas.{place_itself, place_trans, stand_far}
use Rattle.lnt_sequences.proofs.SpansOfLemmas.{pieces_permuted}
use Rattle.std.proofs.lemmas.Grind.{common_steps}

-- ---- extents that begin and end at the same positions

pub record Alike (a b : Extent) : Type 0 where
  pub low_address : a.low.address ≡ b.low.address
  pub low_op : a.low.op ≡ b.low.op
  pub high_address : a.high.address ≡ b.high.address
  pub high_op : a.high.op ≡ b.high.op

alike_is : (a b : Extent) → end_alike a b ≡ true → Alike a b
alike_is a b t = grind (arith, common_steps)

alike_test : (a b : Extent) → Alike a b → end_alike a b ≡ true
alike_test a b h = grind (arith, nat_tests)

alike_back : (a b : Extent) → Alike a b → Alike b a
alike_back a b h = grind (arith, common_steps)

alike_trans : (a b c : Extent) → Alike a b → Alike b c → Alike a c
alike_trans a b c h k = grind (arith, common_steps)

-- where the relation doesn't hold, the test says so
not_alike : (a b : Extent) → (Alike a b → ⊥) → end_alike a b ≡ false
not_alike a b h = false_from_ne_true (end_alike a b) (λ e. h (alike_is a b e))

-- ---- the order

-- what a sort by these six numbers says of neighbours
pub ends_no_later : (one other : Extent) → is_lt (ordering_then (ordering_then
    (ordering_then (ordering_then (ordering_then (nat_cmp other.low.address one.low.address) (nat_cmp other.low.op one.low.op))
    (nat_cmp other.high.address one.high.address)) (nat_cmp other.high.op
    one.high.op)) (nat_cmp other.id.unit one.id.unit)) (nat_cmp other.id.index one.id.index)) ≡ false → EndsNoLater one other
ends_no_later one other h = grind (arith, common_steps)

follows_itself : (a : Extent) → EndsNoLater a a
follows_itself a = record { low = at_most_itself a.low; rest = λ _ _. place_itself a.high a.id }

-- three in order, of which the outer begin at one position
record BeginAlike (a b c : Extent) : Type 0 where
  address : a.low.address ≡ b.low.address
  op : a.low.op ≡ b.low.op
  address' : b.low.address ≡ c.low.address
  op' : b.low.op ≡ c.low.op

begin_alike : (a b c : Extent) → EndsNoLater a b → EndsNoLater b c → a.low.address ≡ c.low.address → a.low.op ≡ c.low.op → BeginAlike a b c
begin_alike a b c h k e f = grind (arith, common_steps)

follows_trans : (a b c : Extent) → EndsNoLater a b → EndsNoLater b c → EndsNoLater a c
follows_trans a b c h k = grind (arith, common_steps, at_most_trans, begin_alike, place_trans)

-- where the outer of three are alike, so are the last two
between : (a b c : Extent) → EndsNoLater a b → EndsNoLater b c → Alike a c → Alike b c
between a b c h k s = grind (arith, common_steps, begin_alike)

-- of those that are alike, the later one doesn't stand before the earlier, and the earlier does where their ids differ
not_before : (a b : Extent) → EndsNoLater a b → Alike a b → stands_before b.id a.id ≡ false
not_before a b h s = grind (arith, common_steps)

is_before : (a b : Extent) → EndsNoLater a b → Alike a b → a.id ≢ b.id → stands_before a.id b.id ≡ true
is_before a b h s ne = grind (arith, common_steps, same_id)

-- ---- neighbours in order, so all are

pub gathered_far : (es : List Extent) → AreGathered es → (i j : ℕ) (d : Extent) → i ≤ j → j < length es
    → EndsNoLater (get_or es i d) (get_or es j d)
gathered_far = stand_far EndsNoLater follows_itself follows_trans

-- ---- which are copies

-- whether the one makes the other a copy
abbrev copies : Extent → Extent → Bool
copies extent earlier = stands_before earlier.id extent.id && end_alike extent earlier

copied_by : (all : List Extent) (a b : Extent) → Contains all b → stands_before b.id a.id ≡ true → end_alike a b ≡ true
    → is_copied all a ≡ true
copied_by all a b c before alike = list_any_at (copies a) all c.0 b c.1 (ap (copies a) c.2 ∙ rw (before, alike) refl)

-- one that isn't alike makes no copy, and neither does a later one
unlike : (a b : Extent) → (Alike a b → ⊥) → copies a b ≡ false
unlike a b ne = and_right (stands_before b.id a.id) (end_alike a b) (not_alike a b ne)

no_copy_of_later : (a b : Extent) → EndsNoLater a b → copies a b ≡ false
no_copy_of_later a b h = grind (arith, common_steps, and_left, not_before, alike_is, and_right)

abbrev IdDiffers : Extent → Extent → Type 0
IdDiffers a b = a.id ≢ b.id

-- what comes after the last kept one and is like one of those seen is like the last kept one
abbrev Stands : Extent → List Extent → Type 0
Stands last seen = All (λ (e : Extent). (y : Extent) → EndsNoLater last y → Alike e y → Alike last y) seen

without_second : {X : Type 0} (R : X → X → Type 0) (k x : X) (xs : List X) → AllPairs R (k ∷ x ∷ xs) → AllPairs R (k ∷ xs)
without_second R k x xs h =
    pairs_cons R k xs (All-tail (R k) x xs (pairs_head R k (x ∷ xs) h)) (pairs_tail R x xs (pairs_tail R k (x ∷ xs) h))

dedup_from_kept : (all seen : List Extent) (last : Extent) (xs : List Extent) → all ≡ seen ++ xs → Contains all last → Stands last seen
    → AllPairs EndsNoLater (last ∷ xs)
    → AllPairs IdDiffers (last ∷ xs) → dedup_from end_alike last xs ≡ last ∷ filter (λ (e : Extent). not (is_copied all e)) xs
dedup_from_kept all seen last [] are c stands order ids = refl
dedup_from_kept all seen last (x ∷ xs) are c stands order ids =
    by_test (end_alike x last) refl
    (λ e. dedup_from_kept all (seen ++ x ∷ []) last xs goes c (still e) (without_second EndsNoLater last x xs order)
    (without_second IdDiffers last x xs ids))
    (dedup_from_kept all (seen ++ x ∷ []) x xs goes here new_stands (pairs_tail EndsNoLater last (x ∷ xs) order)
    (pairs_tail IdDiffers last (x ∷ xs) ids))
  where
    follows : EndsNoLater last x
    follows = pairs_head EndsNoLater last (x ∷ xs) order 0 x (omega arith)

    goes : all ≡ (seen ++ x ∷ []) ++ xs
    goes = are ∙ sym (append_assoc seen (x ∷ []) xs)

    here : Contains all x
    here = subst (λ (list : List Extent). Contains list x) (sym are) (middle seen x xs)

    -- those seen, where x isn't like the last kept one
    apart : (Alike last x → ⊥) → is_copied all x ≡ false
    apart ne =
        let before : All (λ (e : Extent). copies x e ≡ false) seen =
        All-weaker (λ (e : Extent). (y : Extent) → EndsNoLater last y → Alike e y → Alike last y) (λ (e : Extent). copies x e ≡ false)
        (λ e s. unlike x e (λ a. ne (s x follows (alike_back x e a)))) seen stands in
        let past : All (λ (e : Extent). copies x e ≡ false) xs =
        All-weaker (EndsNoLater x) (λ (e : Extent). copies x e ≡ false) (λ e h. no_copy_of_later x e h) xs
        (pairs_head EndsNoLater x xs (pairs_tail EndsNoLater last (x ∷ xs) order)) in
        list_any_none (copies x) all (subst (All (λ (e : Extent). copies x e ≡ false)) (sym are)
        (All-append (λ (e : Extent). copies x e ≡ false) seen (x ∷ xs) before
        (All-cons (λ (e : Extent). copies x e ≡ false) x xs (no_copy_of_later x x (follows_itself x)) past)))

    new_stands : Stands x (seen ++ x ∷ [])
    new_stands = All-push (λ (e : Extent). (y : Extent) → EndsNoLater x y → Alike e y → Alike x y) seen x
        (All-weaker (λ (e : Extent). (y : Extent) → EndsNoLater last y → Alike e y → Alike last y)
        (λ (e : Extent). (y : Extent) → EndsNoLater x y → Alike e y → Alike x y)
        (λ e s y f a. between last x y follows f (s y (follows_trans last x y follows f) a)) seen stands) (λ y f a. a)

    still : end_alike x last ≡ true → Stands last (seen ++ x ∷ [])
    still e = All-push (λ (e : Extent). (y : Extent) → EndsNoLater last y → Alike e y → Alike last y) seen x stands
        (λ y f a. alike_trans last x y (alike_back x last (alike_is x last e)) a)

    by_test : (t : Bool) → end_alike x last ≡ t
        → (end_alike x last ≡ true → dedup_from end_alike last xs ≡ last ∷ filter (λ (e : Extent). not (is_copied all e)) xs)
        → dedup_from end_alike x xs ≡ x ∷ filter (λ (e : Extent). not (is_copied all e)) xs
        → cond t (dedup_from end_alike last xs) (last ∷ dedup_from end_alike x xs) ≡ last ∷ cond (not (is_copied all x))
        (x ∷ filter (λ (e : Extent). not (is_copied all e)) xs) (filter (λ (e : Extent). not (is_copied all e)) xs)
    by_test true e dropped new =
        let copied : is_copied all x ≡ true = copied_by all x last c (is_before last x follows (alike_back x last (alike_is x last e))
        (pairs_head IdDiffers last (x ∷ xs) ids 0 x (omega arith))) e in
        dropped e ∙ ap (λ (t : Bool). last ∷ cond (not t) (x ∷ filter (λ (e : Extent). not (is_copied all e)) xs)
        (filter (λ (e : Extent). not (is_copied all e)) xs)) (sym copied)
    by_test false e dropped new =
        let not_copied = apart (λ a. true≢false (sym (alike_test x last (alike_back last x a)) ∙ e)) in
        ap (λ (list : List Extent). last ∷ list)
        (new ∙ ap (λ (t : Bool). cond (not t) (x ∷ filter (λ (e : Extent). not (is_copied all e)) xs)
        (filter (λ (e : Extent). not (is_copied all e)) xs)) (sym not_copied))

-- without those that are alike the one before them, no copies are left
pub dedup_kept : (es : List Extent) → AreGathered es → AllPairs IdDiffers es → dedup end_alike es ≡ kept_extents true es
dedup_kept [] gathered ids = refl
dedup_kept (e ∷ es) gathered ids =
    let order : AllPairs EndsNoLater (e ∷ es) = λ i j d lt l. gathered_far (e ∷ es) gathered i j d (omega arith) l in
    let Uncopied : Extent → Type 0 = λ other. copies e other ≡ false in
    let not_copied : is_copied (e ∷ es) e ≡ false = list_any_none (copies e) (e ∷ es)
    (All-cons Uncopied e es (no_copy_of_later e e (follows_itself e))
    (All-weaker (EndsNoLater e) Uncopied (λ other h. no_copy_of_later e other h) es (pairs_head EndsNoLater e es order))) in
    dedup_from_kept (e ∷ es) (e ∷ []) e es refl (0, omega arith, refl)
    (All-cons (λ (x : Extent). (y : Extent) → EndsNoLater e y → Alike x y → Alike e y) e [] (λ y f a. a)
    (All-nil (λ (x : Extent). (y : Extent) → EndsNoLater e y → Alike x y → Alike e y))) order ids
    ∙ ap (λ (t : Bool). cond (not t) (e ∷ filter (λ (x : Extent). not (is_copied (e ∷ es) x)) es)
    (filter (λ (x : Extent). not (is_copied (e ∷ es) x)) es)) (sym not_copied)

-- ---- in another order

filter_pieces : {X : Type 0} (test : X → Bool) (xs : List X) → flat_map (λ (x : X). cond (test x) (x ∷ []) []) xs ≡ filter test xs
filter_pieces test [] = refl
filter_pieces {X} test (x ∷ xs) = by_test (test x) (filter_pieces test xs)
  where
    by_test : (t : Bool) → flat_map (λ (y : X). cond (test y) (y ∷ []) []) xs ≡ filter test xs
        → cond t (x ∷ []) [] ++ flat_map (λ (y : X). cond (test y) (y ∷ []) []) xs ≡ cond t (x ∷ filter test xs) (filter test xs)
    by_test true rest = ap (λ (list : List X). x ∷ list) rest
    by_test false rest = rest

filter_permuted : {X : Type 0} (test : X → Bool) (xs ys : List X) → IsPermutation xs ys → IsPermutation (filter test xs) (filter test ys)
filter_permuted {X} test xs ys h = subst (λ (list : List X). IsPermutation list (filter test ys)) (filter_pieces test xs)
    (subst (IsPermutation (flat_map (λ (x : X). cond (test x) (x ∷ []) []) xs)) (filter_pieces test ys)
    (pieces_permuted (λ (x : X). cond (test x) (x ∷ []) []) xs ys h))

filter_same : {X : Type 0} (test other : X → Bool) → ((x : X) → test x ≡ other x) → (xs : List X) → filter test xs ≡ filter other xs
filter_same test other same [] = refl
filter_same {X} test other same (x ∷ xs) = ap (λ (t : Bool). cond t (x ∷ filter test xs) (filter test xs)) (same x)
    ∙ ap (λ (rest : List X). cond (other x) (x ∷ rest) rest) (filter_same test other same xs)

pub kept_permuted : (xs ys : List Extent) → IsPermutation xs ys → IsPermutation (kept_extents true xs) (kept_extents true ys)
kept_permuted xs ys h = subst (IsPermutation (kept_extents true xs))
    (filter_same (λ (e : Extent). not (is_copied xs e)) (λ (e : Extent). not (is_copied ys e))
    (λ e. ap not (list_any-IsPermutation (copies e) xs ys h)) ys) (filter_permuted (λ (e : Extent). not (is_copied xs e)) xs ys h)

-- what is left of extents once they were gathered, and those were taken out that are alike the one before them
pub kept_of_gathered : (es ys zs : List Extent) → AllPairs IdDiffers es → IsPermutation es ys → AreGathered ys → zs ≡ dedup end_alike ys
    → IsPermutation (kept_extents true es) zs
kept_of_gathered es ys zs ids h gathered is =
    let there : AllPairs IdDiffers ys = pairs_from_each_two IdDiffers ys
    (each_two_permutation IdDiffers es ys h (each_two_from_pairs IdDiffers (λ a b ne e. ne (sym e)) es ids)) in
    subst (IsPermutation (kept_extents true es)) (sym (is ∙ dedup_kept ys gathered there)) (kept_permuted es ys h)
