-- Kept ranges in a tree, which has the last address of each at its first.
use Rattle.std.proofs.Common.{◌≡◌, ◌≢◌, ◌∙◌, ℕ, ◌+◌, ◌-◌, ◌<◌, ◌≤◌, ◌⊎◌, Bool, true, false, List, [], ◌∷◌, ◌++◌, Option, Some, None}
use Rattle.std.proofs.Common.{refl, sym, ap, arith, inl, inr}
use Rattle.std.proofs.Common.{Contains, IsSome, subst, ⊎_elim, get_or, map}
use Rattle.std.specs.Prelude.{nat_le, ◌&&◌, ◌||◌, not}
use Rattle.std.specs.List.{list_any}
use Rattle.std.specs.BTreeMap.{BTreeMap, Updates, is_at}
use Rattle.std.specs.Ordering.{is_gt, is_lt, nat_cmp}
use Rattle.std.proofs.lemmas.Bool.{and_parts, cases_eq, cases_lt, cases_Bool}
use Rattle.std.proofs.lemmas.Bool.Decides.{nat_tests}
use Rattle.std.proofs.lemmas.List.Elements.{All-contains_itself, All-weaker, Contains-append_cases, Contains-append_left}
use Rattle.std.proofs.lemmas.List.Elements.{Contains-append_right}
use Rattle.std.proofs.lemmas.List.Folds.{list_any_at, list_any_none}
use Rattle.std.proofs.lemmas.Option.{same_Some}
use Rattle.lnt_symbols.specs.BreakpadLines.{Range}
use Rattle.lnt_symbols.specs.BreakpadAnswers.{end_of, is_kept, is_sound, meet}
use Rattle.lnt_symbols.specs.Stepping.{AreInTree, last_at}

-- ---- tests of all elements

pub none_passes : {X : Type 0} (test : X → Bool) (xs : List X) → ((x : X) → Contains xs x → test x ≡ false) → list_any test xs ≡ false
none_passes test xs h = list_any_none test xs (All-weaker (Contains xs) (λ x. test x ≡ false) h xs (All-contains_itself xs))

pub one_passes : {X : Type 0} (test : X → Bool) (xs : List X) (x : X) → Contains xs x → test x ≡ true → list_any test xs ≡ true
one_passes test xs x h e = list_any_at test xs h.0 x h.1 (ap test h.2 ∙ e)

pub not_one : {X : Type 0} (test : X → Bool) (xs : List X) (x : X) → Contains xs x → list_any test xs ≡ false → test x ≡ false
not_one test xs x h none = elim (cases_Bool (test x)) [
  | inr e ↦ e
  | inl e ↦ absurd (let both : true ≡ false = sym (one_passes test xs x h e) ∙ none in cc)
]

-- ---- ranges that have an address in common

pub meet_if : (one other : Range) → one.address < end_of other → other.address < end_of one → meet one other ≡ true
meet_if one other a b = grind (arith, nat_tests)

pub apart_if : (one other : Range) → end_of one ≤ other.address ⊎ end_of other ≤ one.address → meet one other ≡ false
apart_if one other h = grind (arith, nat_tests)

-- two that have none, where one begins first
pub ends_first : (one other : Range) → meet one other ≡ false → one.address ≤ other.address → 0 < other.size → end_of one ≤ other.address
ends_first one other none le some = grind (arith, nat_tests)

pub meet_back : (one other : Range) → meet one other ≡ false → meet other one ≡ false
meet_back one other none = grind (arith, nat_tests)

-- ---- the last range that begins at an address of another or before

none_left : (tree : BTreeMap ℕ ℕ) (those : List Range) (r : Range) (first last : ℕ) → AreInTree tree those
    → last_at tree first ≡ Some last → ((q : ℕ) → q + 1 ≤ end_of r → IsSome (last_at tree q) → q ≤ first) → last < r.address
    → (y : Range) → Contains those y → meet y r ≡ false
none_left tree those r first last h at greatest below y there =
    let each = h.each y there in
    let some : IsSome (last_at tree y.address) = subst IsSome (sym each.0) refl in
    ⊎_elim
    (λ (far : end_of r < y.address + 1). apart_if y r (inr (omega (arith, far))))
    (λ (near : y.address + 1 ≤ end_of r).
    let le : y.address ≤ first = greatest y.address near some in
    ⊎_elim
    (λ (same : y.address ≡ first).
    let lasts : end_of y - 1 ≡ last = same_Some (end_of y - 1) last (sym each.0 ∙ (ap (last_at tree) same ∙ at)) in
    apart_if y r (inl (omega (arith, lasts, below))))
    (λ (other : y.address ≡ first → ⊥).
    let past : end_of y - 1 < first
    = h.apart y.address (end_of y - 1) first each.0 (subst IsSome (sym at) refl) (omega (arith, le, other)) in
    let filled : first ≤ last = h.filled first last at in
    apart_if y r (inl (omega (arith, past, filled, below))))
    (cases_eq y.address first))
    (cases_lt (end_of r) (y.address + 1))

pub meets_last : (tree : BTreeMap ℕ ℕ) (those : List Range) (r : Range) (first last : ℕ) → AreInTree tree those
    → last_at tree first ≡ Some last → first + 1 ≤ end_of r → ((q : ℕ) → q + 1 ≤ end_of r → IsSome (last_at tree q) → q ≤ first)
    → nat_le r.address last ≡ list_any (λ y. meet y r) those
meets_last tree those r first last h at near greatest =
    ⊎_elim
    (λ (below : last < r.address).
    let test : nat_le r.address last ≡ false = grind (arith, nat_tests) in
    test ∙ sym (none_passes (λ y. meet y r) those (none_left tree those r first last h at greatest below)))
    (λ (above : r.address ≤ last).
    let test : nat_le r.address last ≡ true = grind (arith, nat_tests) in
    let one = h.only first last at in
    let starts : one.0.address ≡ first = one.2 in
    let ends : end_of one.0 ≡ last + 1 = one.3 in
    test ∙ sym (one_passes (λ y. meet y r) those one.0 one.1 (meet_if one.0 r (omega (arith, starts, near)) (omega (arith, ends, above)))))
    (cases_lt last r.address)

pub meets_nothing : (tree : BTreeMap ℕ ℕ) (those : List Range) (r : Range) → AreInTree tree those
    → ((q : ℕ) → q + 1 ≤ end_of r → last_at tree q ≡ None) → false ≡ list_any (λ y. meet y r) those
meets_nothing tree those r h none = sym (none_passes (λ y. meet y r) those (λ y there.
    ⊎_elim (λ (far : end_of r < y.address + 1). apart_if y r (inr (omega (arith, far))))
    (λ (near : y.address + 1 ≤ end_of r). absurd (let both : Some (end_of y - 1) ≡ None = sym (h.each y there).0
    ∙ none y.address near in cc))
    (cases_lt (end_of r) (y.address + 1))))

-- ---- one more

-- what a tree has at an address after one range was put in
record HasOneMore (old new : BTreeMap ℕ ℕ) (first last : ℕ) : Type 0 where
  at : last_at new first ≡ Some last
  others : (q : ℕ) → q ≢ first → last_at new q ≡ last_at old q

one_more : (old new : BTreeMap ℕ ℕ) (first last : ℕ) → Updates nat_cmp old new first (Some last) → HasOneMore old new first last
one_more old new first last h = record {
  at = h.1;
  others = λ q ne. h.2 q (let other : is_at (nat_cmp first) q ≡ false = grind (arith, nat_tests) in other);
}

pub from_not : (b : Bool) → not b ≡ true → b ≡ false
from_not true e = absurd cc
from_not false e = refl

-- a range that is kept meets none of those, and isn't empty
kept_alone : (those : List Range) (r : Range) → is_kept (λ y. y) those r ≡ true → (list_any (λ y. meet y r) those ≡ false) × (0 < r.size)
kept_alone those r e =
    let both = and_parts (is_sound r) (not (list_any (λ y. meet y r) those)) e in
    let some : 0 < r.size = grind (arith, nat_tests, both.0) in
    (from_not (list_any (λ y. meet y r) those) both.1, some)

elsewhere : (those : List Range) (r y : Range) → Contains those y → list_any (λ z. meet z r) those ≡ false → 0 < y.size → 0 < r.size
    → y.address ≢ r.address
elsewhere those r y there none some more same =
    let no : meet y r ≡ false = not_one (λ z. meet z r) those y there none in
    let yes : meet y r ≡ true = meet_if y r (omega (arith, same, more)) (omega (arith, same, some)) in
    let both : true ≡ false = sym yes ∙ no in cc

pub grown : (old new : BTreeMap ℕ ℕ) (those : List Range) (r : Range) (last : ℕ) → AreInTree old those → last + 1 ≡ end_of r
    → is_kept (λ y. y) those r ≡ true → Updates nat_cmp old new r.address (Some last) → AreInTree new (those ++ r ∷ [])
grown old new those r last h end kept updates =
    let more = one_more old new r.address last updates in
    let alone = kept_alone those r kept in
    let none : list_any (λ z. meet z r) those ≡ false = alone.0 in
    let some : 0 < r.size = alone.1 in
    let was : (y : Range) → Contains those y → last_at new y.address ≡ last_at old y.address =
    λ y there. more.others y.address (elsewhere those r y there none (h.each y there).1 some) in
    record {
      each = λ y there. ⊎_elim
          (λ (before : Contains those y). (was y before ∙ (h.each y before).0, (h.each y before).1))
          (λ (one : Contains (r ∷ []) y). let same = only_one r y one in
          subst (λ (z : Range). (last_at new z.address ≡ Some (end_of z - 1)) × (0 < z.size)) same
          (more.at ∙ ap Some (omega (arith, end)), some))
          (Contains-append_cases those (r ∷ []) y there);
      only = λ first other at. ⊎_elim
          (λ (same : first ≡ r.address).
          let lasts : last ≡ other = same_Some last other (sym more.at ∙ (ap (last_at new) (sym same) ∙ at)) in
          (r, Contains-append_right those (r ∷ []) r (0, omega arith, refl), sym same, omega (arith, end, lasts)))
          (λ (ne : first ≡ r.address → ⊥).
          let one = h.only first other (sym (more.others first ne) ∙ at) in
          (one.0, Contains-append_left those (r ∷ []) one.0 one.1, one.2, one.3))
          (cases_eq first r.address);
      filled = λ first other at. ⊎_elim
          (λ (same : first ≡ r.address).
          let lasts : last ≡ other = same_Some last other (sym more.at ∙ (ap (last_at new) (sym same) ∙ at)) in
          omega (arith, end, lasts, same, some))
          (λ (ne : first ≡ r.address → ⊥). h.filled first other (sym (more.others first ne) ∙ at))
          (cases_eq first r.address);
      apart = λ first end_at other at known lt. ⊎_elim
          (λ (same : first ≡ r.address).
          let lasts : last ≡ end_at = same_Some last end_at (sym more.at ∙ (ap (last_at new) (sym same) ∙ at)) in
          let ne : other ≢ r.address = λ e. absurd (omega (arith, e, same, lt)) in
          let value = known_at (last_at old other) (subst IsSome (more.others other ne) known) in
          let one = h.only other value.0 value.1 in
          let starts : one.0.address ≡ other = one.2 in
          let no = not_one (λ z. meet z r) those one.0 one.1 none in
          let ends : end_of r ≤ one.0.address =
          ends_first r one.0 (meet_back one.0 r no) (omega (arith, starts, same, lt)) (h.each one.0 one.1).1 in
          omega (arith, ends, starts, end, lasts))
          (λ (ne : first ≡ r.address → ⊥).
          let before : last_at old first ≡ Some end_at = sym (more.others first ne) ∙ at in
          ⊎_elim
          (λ (same : other ≡ r.address).
          let one = h.only first end_at before in
          let starts : one.0.address ≡ first = one.2 in
          let ended : end_of one.0 ≡ end_at + 1 = one.3 in
          let no = not_one (λ z. meet z r) those one.0 one.1 none in
          let ends : end_of one.0 ≤ r.address = ends_first one.0 r no (omega (arith, starts, same, lt)) some in
          omega (arith, ends, ended, same))
          (λ (apart : other ≡ r.address → ⊥). h.apart first end_at other before (subst IsSome (more.others other apart) known) lt)
          (cases_eq other r.address))
          (cases_eq first r.address);
    }
  where
    only_one : (r y : Range) → Contains (r ∷ []) y → r ≡ y
    only_one r y there = let zero : there.0 ≡ 0 = omega (arith, there.1) in ap (λ i. get_or (r ∷ []) i y) (sym zero) ∙ there.2

    known_at : (o : Option ℕ) → IsSome o → (n : ℕ) × (o ≡ Some n)
    known_at None h = absurd cc
    known_at (Some n) h = (n, refl)

-- ---- the ranges of items

pub any_map : {X Y : Type 0} (g : X → Y) (test : Y → Bool) (xs : List X) → list_any test (map g xs) ≡ list_any (λ x. test (g x)) xs
any_map g test [] = refl
any_map g test (x ∷ xs) = ap (λ b. test (g x) || b) (any_map g test xs)

pub kept_of_ranges : {X : Type 0} (range : X → Range) (xs : List X) (x : X)
    → is_kept (λ y. y) (map range xs) (range x) ≡ is_kept range xs x
kept_of_ranges range xs x = ap (λ b. is_sound (range x) && not b) (any_map range (λ y. meet y (range x)) xs)

nothing_at : (tree : BTreeMap ℕ ℕ) → tree.entries ≡ [] → (first last : ℕ) → last_at tree first ≡ Some last → ⊥
nothing_at tree none first last at = let e : last_at tree first ≡ None = rw none refl in let both : Some last ≡ None = sym at ∙ e in cc

pub empty_tree : (tree : BTreeMap ℕ ℕ) → tree.entries ≡ [] → AreInTree tree []
empty_tree tree none = record {
  each = λ y there. absurd (omega (arith, there.1));
  only = λ first last at. absurd (nothing_at tree none first last at);
  filled = λ first last at. absurd (nothing_at tree none first last at);
  apart = λ first last other at. absurd (nothing_at tree none first last at);
}

-- ---- orders as a tree asks for them

pub le_by : (a b : ℕ) → a ≤ b → is_gt (nat_cmp a b) ≡ false
le_by a b le = grind (arith, nat_tests)

pub from_le_by : (a b : ℕ) → is_gt (nat_cmp a b) ≡ false → a ≤ b
from_le_by a b e = grind (arith, nat_tests)

pub from_not_lt_by : (a b : ℕ) → is_lt (nat_cmp a b) ≡ false → b ≤ a
from_not_lt_by a b e = grind (arith, nat_tests)
