-- Ranges that are kept.
use Rattle.std.proofs.Common.{◌≡◌, ℕ, ◌+◌, ◌<◌, ◌≤◌, Bool, true, false, List, [], ◌∷◌, ◌++◌, Option, Some, None, refl, sym, ap, ◌∙◌, arith}
use Rattle.std.proofs.Common.{All, AllPairs, Contains, get_or, length, subst, take}
use Rattle.std.specs.BTreeMap.{BTreeMap}
use Rattle.std.specs.Prelude.{nat_lt, ◌&&◌, not, if◌then◌else◌}
use Rattle.std.specs.List.{list_any, AllByRecursion}
use Rattle.std.proofs.lemmas.Bool.{and_parts}
use Rattle.std.proofs.lemmas.Bool.Decides.{nat_tests}
use Rattle.std.proofs.lemmas.List.{take_more}
use Rattle.std.proofs.lemmas.List.Elements.{All-cons, All-contains_itself, All-nil, All-weaker}
use Rattle.lnt_symbols.specs.BreakpadLines.{Range}
use Rattle.lnt_spans.proofs.EachTwoLaws.{pairs_append, pairs_cons, pairs_nil}
use Rattle.lnt_symbols.specs.BreakpadAnswers.{end_of, is_kept, is_sound, kept, kept_after, meet}
use Rattle.lnt_symbols.proofs.TreeLemmas.{from_not, not_one}
use Rattle.lnt_symbols.specs.Stepping.{AreThose, IsAbove, IsTheLast, more_kept}

-- ---- ranges above all kept ones

and_false : (b : Bool) → (b && false) ≡ false
and_false false = refl
and_false true = refl

and_true : (b : Bool) → (b && true) ≡ b
and_true false = refl
and_true true = refl

past : (one other : Range) (last : ℕ) → end_of one ≤ last + 1 → last < other.address → meet one other ≡ false
past one other last below above =
    let no : nat_lt other.address (end_of one) ≡ false = grind (arith, nat_tests) in
    rw no (and_false (nat_lt one.address (end_of other)))

meets_none : {X : Type 0} (range : X → Range) (last : ℕ) (before : List X) (r : Range)
    → AllByRecursion (λ y. end_of (range y) ≤ last + 1) before → last < r.address → list_any (λ y. meet (range y) r) before ≡ false
meets_none range last [] r ends above = refl
meets_none range last (y ∷ ys) r ends above = rw (past (range y) r last ends.0 above) (meets_none range last ys r ends.1 above)

-- what begins above all kept ones is kept if it's sound
pub kept_above : {X : Type 0} (range : X → Range) (last : Option ℕ) (before : List X) (x : X) → IsTheLast range last before
    → IsAbove last (range x) → is_kept range before x ≡ is_sound (range x)
kept_above range None before x none above = rw none (and_true (is_sound (range x)))
kept_above range (Some last) before x ends above = rw (meets_none range last before (range x) ends above) (and_true (is_sound (range x)))

ends_grow : {X : Type 0} (range : X → Range) (last more : ℕ) (before : List X) (x : X)
    → AllByRecursion (λ y. end_of (range y) ≤ last + 1) before → last ≤ more → end_of (range x) ≤ more + 1
    → AllByRecursion (λ y. end_of (range y) ≤ more + 1) (before ++ x ∷ [])
ends_grow range last more [] x ends le end = (end, tt)
ends_grow range last more (y ∷ ys) x ends le end =
    let e : end_of (range y) ≤ last + 1 = ends.0 in (omega arith, ends_grow range last more ys x ends.1 le end)

pub ends_more : {X : Type 0} (range : X → Range) (last : Option ℕ) (more : ℕ) (before : List X) (x : X) → IsTheLast range last before
    → IsAbove last (range x) → is_sound (range x) ≡ true → more + 1 ≡ end_of (range x)
    → IsTheLast range (Some more) (before ++ x ∷ [])
ends_more range None more before x none above sound end = rw none (omega (arith, end), tt)
ends_more range (Some last) more before x ends above sound end =
    let some : 0 < (range x).size = grind (arith, nat_tests) in
    ends_grow range last more before x ends (omega (arith, end, some, above)) (omega (arith, end))

-- ---- ranges that come one by one

-- a range that isn't sound isn't kept
pub not_sound : (those : List Range) (r : Range) → is_sound r ≡ false → is_kept (λ y. y) those r ≡ false
not_sound those r e = rw e refl

-- the kept ones of one range more
pub kept_more : (before xs : List Range) (r : Range)
    → kept_after (λ y. y) before (xs ++ r ∷ []) ≡ more_kept (kept_after (λ y. y) before xs) r
kept_more before [] r = refl
kept_more before (x ∷ xs) r = kept_more (if is_kept (λ y. y) before x then before ++ x ∷ [] else before) xs r

-- the kept ones of the first ranges, and of one more
pub kept_take : (xs : List Range) (i : ℕ) (d : Range) → i < length xs
    → kept (λ y. y) (take (i + 1) xs) ≡ more_kept (kept (λ y. y) (take i xs)) (get_or xs i d)
kept_take xs i d lt = ap (kept (λ y. y)) (take_more xs i d lt) ∙ kept_more [] (take i xs) (get_or xs i d)

-- what begins above all kept ones, and is sound, is kept too
pub kept_rising : (rising grown those : List Range) (last : Option ℕ) (tree : Option (BTreeMap ℕ ℕ)) (more : ℕ) (r : Range)
    → grown ≡ rising ++ r ∷ [] → tree ≡ None → AreThose rising last tree those → IsAbove last r → is_sound r ≡ true → more + 1 ≡ end_of r
    → (true ≡ is_kept (λ y. y) those r) × AreThose grown (Some more) tree (more_kept those r)
kept_rising rising grown those last (Some tree) more r longer none h above sound end = absurd cc
kept_rising rising grown those last None more r longer none h above sound end =
    let is : is_kept (λ y. y) those r ≡ true = kept_above (λ y. y) last those r h.1 above ∙ sound in
    let kept_too : more_kept those r ≡ those ++ r ∷ [] = rw is refl in (
      sym is,
      subst (AreThose grown (Some more) None) (sym kept_too) (
        longer ∙ ap (λ ys. ys ++ r ∷ []) h.0,
        ends_more (λ y. y) last more those r h.1 above sound end,
        kept_more [] those r ∙ (ap (λ ys. more_kept ys r) h.2 ∙ kept_too),
      ),
    )

-- ---- no two kept ranges have an address in common

abbrev pub Apart : {X : Type 0} → (X → Range) → X → X → Type 0
Apart range x y = meet (range x) (range y) ≡ false

-- what was kept before, and one more if it's kept
more_apart : {X : Type 0} (range : X → Range) (before : List X) (x : X) → AllPairs (Apart range) before
    → AllPairs (Apart range) (if is_kept range before x then before ++ x ∷ [] else before)
more_apart {X} range before x h = by_test (is_kept range before x) refl
  where
    by_test : (t : Bool) → is_kept range before x ≡ t → AllPairs (Apart range) (if is_kept range before x then before ++ x ∷ [] else before)
    by_test false e = rw e h
    by_test true e =
        let none : list_any (λ y. meet (range y) (range x)) before ≡ false =
        from_not (list_any (λ y. meet (range y) (range x)) before)
        (and_parts (is_sound (range x)) (not (list_any (λ y. meet (range y) (range x)) before)) e).1 in
        rw e (pairs_append (Apart range) before (x ∷ []) h
        (pairs_cons (Apart range) x [] (All-nil (Apart range x)) (pairs_nil (Apart range)))
        (All-weaker (Contains before) (λ y. All (Apart range y) (x ∷ []))
        (λ y there. All-cons (Apart range y) x [] (not_one (λ z. meet (range z) (range x)) before y there none) (All-nil (Apart range y)))
        before (All-contains_itself before)))

kept_after_apart : {X : Type 0} (range : X → Range) (before xs : List X) → AllPairs (Apart range) before
    → AllPairs (Apart range) (kept_after range before xs)
kept_after_apart range before [] h = h
kept_after_apart range before (x ∷ xs) h =
    kept_after_apart range (if is_kept range before x then before ++ x ∷ [] else before) xs (more_apart range before x h)

pub kept_apart : {X : Type 0} (range : X → Range) (xs : List X) → AllPairs (Apart range) (kept range xs)
kept_apart range xs = kept_after_apart range [] xs (pairs_nil (Apart range))
