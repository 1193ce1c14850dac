-- What holds of any two elements of a list, and of the only element that passes a test.
use Rattle.std.proofs.Common.{◌≡◌, ◌≢◌, ℕ, suc, ◌<◌, Bool, true, false, cond, List, [], ◌∷◌, ◌++◌, Option, Some, None, refl, sym, ap, ◌∙◌}
use Rattle.std.proofs.Common.{subst, arith, length, get_or, ⊎_elim, find, AllPairs, All, Contains, swap, IsPermutation}
use Rattle.std.proofs.lemmas.List.Edits.{Swapped, swapped_from_swap, length-swap}
use Rattle.std.proofs.lemmas.List.Sorted.{IsPermutation-keeps}
use Rattle.std.proofs.lemmas.Bool.{cases_eq, cases_lt}
use Rattle.std.proofs.lemmas.List.{get_or_default}
use Rattle.std.proofs.lemmas.List.Elements.{All-cons, All-append, All-head, All-tail}
use Rattle.std.proofs.lemmas.Option.{same_Some}
use Rattle.std.proofs.lemmas.Grind.{common_steps}

-- ---- each element and each later one

pub pairs_nil : {X : Type 0} (R : X → X → Type 0) → AllPairs R []
pairs_nil R i j d lt l = absurd (omega arith)

pub pairs_cons : {X : Type 0} (R : X → X → Type 0) (x : X) (xs : List X) → All (R x) xs → AllPairs R xs → AllPairs R (x ∷ xs)
pairs_cons R x xs h k m p d lt l = grind (arith, common_steps)

pub pairs_head : {X : Type 0} (R : X → X → Type 0) (x : X) (xs : List X) → AllPairs R (x ∷ xs) → All (R x) xs
pairs_head R x xs h = λ k d l. h 0 (suc k) d (omega arith) (omega arith)

pub pairs_tail : {X : Type 0} (R : X → X → Type 0) (x : X) (xs : List X) → AllPairs R (x ∷ xs) → AllPairs R xs
pairs_tail R x xs h = λ i j d lt l. h (suc i) (suc j) d (omega arith) (omega arith)

pub pairs_append : {X : Type 0} (R : X → X → Type 0) (xs ys : List X) → AllPairs R xs → AllPairs R ys → All (λ x. All (R x) ys) xs
    → AllPairs R (xs ++ ys)
pairs_append R [] ys h k c = k
pairs_append R (x ∷ xs) ys h k c =
    pairs_cons R x (xs ++ ys)
    (All-append (R x) xs ys (pairs_head R x xs h) (All-head (λ z. All (R z) ys) x xs c))
    (pairs_append R xs ys (pairs_tail R x xs h) k (All-tail (λ z. All (R z) ys) x xs c))

-- ---- any two elements, in either order

abbrev pub EachTwo : {X : Type 0} → (X → X → Type 0) → List X → Type 0
EachTwo {X} R xs = (i j : ℕ) (d : X) → i ≢ j → i < length xs → j < length xs → R (get_or xs i d) (get_or xs j d)

pub each_two_from_pairs : {X : Type 0} (R : X → X → Type 0) → ((x y : X) → R x y → R y x) → (xs : List X) → AllPairs R xs → EachTwo R xs
each_two_from_pairs R back xs h i j d ne li lj = grind (arith, common_steps, cases_lt)

pub pairs_from_each_two : {X : Type 0} (R : X → X → Type 0) (xs : List X) → EachTwo R xs → AllPairs R xs
pairs_from_each_two R xs h i j d lt lj = h i j d (omega arith) (omega arith) lj

-- the index at which an element stood before two were swapped
record Origin {X : Type 0} (f g : ℕ → X) (a b m : ℕ) : Type 0 where
  place : ℕ
  is : g m ≡ f place
  at_first : m ≡ a → place ≡ b
  at_second : m ≡ b → place ≡ a
  elsewhere : m ≢ a → m ≢ b → place ≡ m

origin : {X : Type 0} (f g : ℕ → X) (a b : ℕ) → Swapped f g a b → (m : ℕ) → Origin f g a b m
origin f g a b s m =
    ⊎_elim
    (λ (e : m ≡ a). record {
      place = b;
      is = ap g e ∙ s.0;
      at_first = λ _. refl;
      at_second = λ k. omega arith;
      elsewhere = λ n k. absurd (n e);
    })
    (λ (n : m ≡ a → ⊥).
    ⊎_elim
    (λ (e : m ≡ b). record {
      place = a;
      is = ap g e ∙ s.1;
      at_first = λ k. absurd (n k);
      at_second = λ _. refl;
      elsewhere = λ _ k. absurd (k e);
    })
    (λ (k : m ≡ b → ⊥). record {
      place = m;
      is = s.2 m n k;
      at_first = λ e. absurd (n e);
      at_second = λ e. absurd (k e);
      elsewhere = λ _ _. refl;
    })
    (cases_eq m b))
    (cases_eq m a)

origin_apart : {X : Type 0} (f g : ℕ → X) (a b m n : ℕ) (o : Origin f g a b m) (q : Origin f g a b n) → m ≢ n → o.place ≢ q.place
origin_apart f g a b m n o q ne e = grind arith

origin_within : {X : Type 0} (f g : ℕ → X) (a b m l : ℕ) (o : Origin f g a b m) → a < l → b < l → m < l → o.place < l
origin_within f g a b m l o ha hb hm = grind arith

each_two_swap : {X : Type 0} (R : X → X → Type 0) (xs : List X) (a b : ℕ) → a < length xs → b < length xs → EachTwo R xs
    → EachTwo R (swap xs a b)
each_two_swap {X} R xs a b ha hb h i j d ne li lj =
    let s = swapped_from_swap xs (swap xs a b) a b d ha hb refl in
    let f : ℕ → X = λ k. get_or xs k d in
    let g : ℕ → X = λ k. get_or (swap xs a b) k d in
    let o = origin f g a b s i in
    let q = origin f g a b s j in
    let same = length-swap xs a b in
    let here = h o.place q.place d (origin_apart f g a b i j o q ne) (origin_within f g a b i (length xs) o ha hb (omega arith))
    (origin_within f g a b j (length xs) q ha hb (omega arith)) in
    subst (λ (x : X). R x (g j)) (sym o.is) (subst (λ (y : X). R (f o.place) y) (sym q.is) here)

pub each_two_permutation : {X : Type 0} (R : X → X → Type 0) (xs ys : List X) → IsPermutation xs ys → EachTwo R xs → EachTwo R ys
each_two_permutation R xs ys p h = IsPermutation-keeps xs (EachTwo R) h (λ l i j li lj k. each_two_swap R l i j li lj k) ys p

-- ---- the one that passes a test

pub find_none : {X : Type 0} (test : X → Bool) (xs : List X) → All (λ x. test x ≡ false) xs → find test xs ≡ None
find_none test [] h = refl
find_none test (x ∷ xs) h = rw (h 0 x (omega arith)) (find_none test xs (λ k d l. h (suc k) d (omega arith)))

pub none_found : {X : Type 0} (test : X → Bool) (xs : List X) → find test xs ≡ None → All (λ x. test x ≡ false) xs
none_found {X} test [] h = λ k d l. absurd (omega arith)
none_found {X} test (x ∷ xs) h = by_test (test x) refl h (λ f. none_found test xs f)
  where
    by_test : (t : Bool) → test x ≡ t → cond t (Some x) (find test xs) ≡ None → (find test xs ≡ None → All (λ (y : X). test y ≡ false) xs)
        → All (λ (y : X). test y ≡ false) (x ∷ xs)
    by_test true e f rest = absurd cc
    by_test false e f rest = All-cons (λ (y : X). test y ≡ false) x xs e (rest f)

pub found : {X : Type 0} (test : X → Bool) (xs : List X) (x : X) → find test xs ≡ Some x → Contains xs x × (test x ≡ true)
found {X} test [] x h = absurd cc
found {X} test (y ∷ xs) x h = by_test (test y) refl h (λ f. found test xs x f)
  where
    by_test : (t : Bool) → test y ≡ t → cond t (Some y) (find test xs) ≡ Some x → (find test xs ≡ Some x → Contains xs x × (test x ≡ true))
        → Contains (y ∷ xs) x × (test x ≡ true)
    by_test true e f rest = let same : y ≡ x = same_Some y x f in ((0, omega arith, same), ap test (sym same) ∙ e)
    by_test false e f rest = let k = rest f in ((suc k.0.0, omega (arith, k.0.1), k.0.2), k.1)

-- the only element that passes the test is found
pub find_only : {X : Type 0} (test : X → Bool) (xs : List X) (x : X) → EachTwo (λ a b. test a ≡ true → test b ≡ true → ⊥) xs → Contains xs x
    → test x ≡ true
    → find test xs ≡ Some x
find_only {X} test xs x h k t = by_answer (find test xs) refl
  where
    by_answer : (o : Option X) → find test xs ≡ o → find test xs ≡ Some x
    by_answer None e = absurd (true_false (sym (ap test k.2 ∙ t) ∙ none_found test xs e k.0 x k.1))
      where
        true_false : true ≡ false → ⊥
        true_false e = cc
    by_answer (Some y) e =
        let f = found test xs y e in
        let at : get_or xs f.0.0 x ≡ y = get_or_default xs f.0.0 x y f.0.1 ∙ f.0.2 in
        ⊎_elim
        (λ (same : k.0 ≡ f.0.0). e ∙ ap Some (sym at ∙ sym (ap (λ i. get_or xs i x) same) ∙ k.2))
        (λ (ne : k.0 ≡ f.0.0 → ⊥). absurd (h k.0 f.0.0 x ne k.1 f.0.1 (ap test k.2 ∙ t) (ap test at ∙ f.1)))
        (cases_eq k.0 f.0.0)
