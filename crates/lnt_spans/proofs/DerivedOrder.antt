-- What the derived comparisons of positions say.
use Rattle.std.proofs.Common.{◌≡◌, ◌∙◌, sym, refl, Bool, true, false, ◌&&◌, ◌||◌, cond, ◌==◌, nat_lt, Option, Ordering}
use Rattle.std.proofs.Common.{Some, Less, Equal, Greater}
use Rattle.std.specs.Ordering.{nat_cmp, partial_ordering_then, is_some_and, is_lt, is_ge, partial_lt, partial_ge}
use Rattle.lnt_spans.specs.Positions.{IsBelow, IsAtMost, Position}
use Rattle.lnt_spans.proofs.PositionLaws.{below_from_test, at_most_from_not_below}

-- positions compared by address, then by operation index
abbrev pub compared : Position → Position → Option Ordering
compared p q = partial_ordering_then (Some (nat_cmp p.address q.address)) (Some (nat_cmp p.op q.op))

-- the same, by tests of the addresses and the operation indexes
abbrev by_tests : Bool → Bool → Bool → Bool → Option Ordering
by_tests s t u v = partial_ordering_then (Some (cond s Less (cond t Equal Greater))) (Some (cond u Less (cond v Equal Greater)))

lt_by_tests : (s t u v : Bool) → is_some_and is_lt (by_tests s t u v) ≡ (s || (t && u))
lt_by_tests true t u v = refl
lt_by_tests false true true v = refl
lt_by_tests false true false true = refl
lt_by_tests false true false false = refl
lt_by_tests false false u v = refl

ge_by_tests : (s t u v : Bool) → true ≡ is_some_and is_ge (by_tests s t u v) → (s || (t && u)) ≡ false
ge_by_tests true t u v h = h
ge_by_tests false true true v h = h
ge_by_tests false true false true h = refl
ge_by_tests false true false false h = refl
ge_by_tests false false u v h = refl

not_ge_by_tests : (s t u v : Bool) → false ≡ is_some_and is_ge (by_tests s t u v) → (s || (t && u)) ≡ true
not_ge_by_tests true t u v h = refl
not_ge_by_tests false true true v h = refl
not_ge_by_tests false true false true h = h
not_ge_by_tests false true false false h = h
not_ge_by_tests false false u v h = h

pub below_from_lt : {p q : Position} → true ≡ partial_lt compared p q → IsBelow p q
below_from_lt {p} {q} h =
    below_from_test p q (sym (h ∙ lt_by_tests (nat_lt p.address q.address) (p.address == q.address) (nat_lt p.op q.op) (p.op == q.op)))

pub at_most_from_not_lt : {p q : Position} → false ≡ partial_lt compared p q → IsAtMost q p
at_most_from_not_lt {p} {q} h =
    at_most_from_not_below p q
    (sym (h ∙ lt_by_tests (nat_lt p.address q.address) (p.address == q.address) (nat_lt p.op q.op) (p.op == q.op)))

pub at_most_from_ge : {p q : Position} → true ≡ partial_ge compared p q → IsAtMost q p
at_most_from_ge {p} {q} h =
    at_most_from_not_below p q (ge_by_tests (nat_lt p.address q.address) (p.address == q.address) (nat_lt p.op q.op) (p.op == q.op) h)

pub below_from_not_ge : {p q : Position} → false ≡ partial_ge compared p q → IsBelow p q
below_from_not_ge {p} {q} h =
    below_from_test p q (not_ge_by_tests (nat_lt p.address q.address) (p.address == q.address) (nat_lt p.op q.op) (p.op == q.op) h)
