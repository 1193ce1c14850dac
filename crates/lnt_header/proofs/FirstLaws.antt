-- The first of several values that isn't so.
use Rattle.std.proofs.Common.{ℕ, zero, suc, ◌+◌, ◌<◌, ◌≤◌, List, [], ◌∷◌, ◌++◌, length, take, drop, get_or, sym, ap, subst, ◌∙◌, arith}
use Rattle.std.proofs.lemmas.List.{take_more, drop_more, take-append-drop, length-take-le}
use Rattle.std.specs.List.{AllByRecursion}
use Rattle.lnt_header.specs.HeaderTests.{IsFirstNot}
use Rattle.std.proofs.lemmas.Grind.{common_steps}

all_push : {X : Type 0} (P : X → Type 0) (xs : List X) (x : X) → AllByRecursion P xs → P x → AllByRecursion P (xs ++ x ∷ [])
all_push P [] x h p = (p, tt)
all_push P (y ∷ xs) x h p = (h.0, all_push P xs x h.1 p)

pub all_more : {X : Type 0} (P : X → Type 0) (xs : List X) (i : ℕ) (d : X) → i < length xs → AllByRecursion P (take i xs)
    → P (get_or xs i d) → AllByRecursion P (take (i + 1) xs)
all_more P xs i d lt h p = subst (AllByRecursion P) (sym (take_more xs i d lt)) (all_push P (take i xs) (get_or xs i d) h p)

pub all_taken : {X : Type 0} (P : X → Type 0) (xs : List X) (n : ℕ) → length xs ≤ n → AllByRecursion P (take n xs) → AllByRecursion P xs
all_taken P [] n le h = tt
all_taken P (x ∷ xs) zero le h = absurd (omega arith)
all_taken P (x ∷ xs) (suc n) le h = (h.0, all_taken P xs n (omega arith) h.1)

pub all_at : {X : Type 0} (P : X → Type 0) (xs : List X) (i : ℕ) (d : X) → i < length xs → AllByRecursion P xs → P (get_or xs i d)
all_at P [] i d lt h = absurd (omega arith)
all_at P (x ∷ xs) zero d lt h = h.0
all_at P (x ∷ xs) (suc i) d lt h = all_at P xs i d (omega arith) h.1

pub not_all : {X : Type 0} (P : X → Type 0) (xs : List X) (i : ℕ) (d : X) → i < length xs → (P (get_or xs i d) → ⊥) → AllByRecursion P xs
    → ⊥
not_all P xs i d lt other h = other (all_at P xs i d lt h)

pub first_not : {X : Type 0} (P : X → Type 0) (xs : List X) (i : ℕ) (d : X) → i < length xs → AllByRecursion P (take i xs)
    → (P (get_or xs i d) → ⊥) → IsFirstNot P xs i
first_not P xs i d lt h other = record {
  before = take i xs;
  value = get_or xs i d;
  past = drop (i + 1) xs;
  joined = sym (take-append-drop i xs) ∙ ap (λ (z : List _). take i xs ++ z) (drop_more xs i d lt);
  index_is = sym (length-take-le i xs (omega arith));
  all_before = h;
  not_so = other;
}

all_after : {X : Type 0} (P : X → Type 0) (xs ys : List X) → AllByRecursion P (xs ++ ys) → AllByRecursion P ys
all_after P [] ys h = h
all_after P (x ∷ xs) ys h = all_after P xs ys h.1

-- one that isn't so, among values that all are
pub first_is_wrong : {X : Type 0} {P : X → Type 0} {xs : List X} {i : ℕ} → IsFirstNot P xs i → AllByRecursion P xs → ⊥
first_is_wrong {X} {P} {xs} {i} first h = grind (arith, common_steps, all_after)
