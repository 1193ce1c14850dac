-- Counts of the numbers that pass a test, and the addresses that spans answer.
use Rattle.std.proofs.Common.{◌≡◌, ◌∙◌, ℕ, zero, suc, ◌+◌, ◌-◌, ◌^◌, ◌<◌, ◌≤◌, Bool, true, false, cond, ◌&&◌, is_some}
use Rattle.std.proofs.Common.{List, [], ◌∷◌, Option, Some, None, inl, inr, refl, sym, ap, subst, arith, ⊎_elim}
use Rattle.std.specs.List.{AllByRecursion}
use Rattle.std.proofs.lemmas.Bool.{cases_lt}
use Rattle.lnt_spans.specs.Remaining.{GivesFirstSpan}
use Rattle.lnt_spans.specs.Partial.{addresses_answered, addresses_between, addresses_of, count_below, is_answered, CountsTo, is_between}
use Rattle.lnt_spans.specs.Partial.{whole}
use Rattle.lnt_spans.specs.Spans.{number_spans, FitSpans, IsOfInstructions, AreInOrder, span_answer, Span}
use Rattle.lnt_spans.specs.Laws.{AnswersAddresses, AnswersMore, ChangesAtInstructions}
use Rattle.lnt_spans.specs.Positions.{IsBelow, IsAtMost, is_below, is_at_most, Position}
use Rattle.lnt_spans.specs.SpanKinds.{SpanKind, answer_held}
use Rattle.lnt_spans.proofs.AnsweringLaws.{answer_after, answer_before, answer_in, rest_in_order, rest_none}
use Rattle.lnt_spans.proofs.PositionLaws.{order_cases, test_at_most, test_below, test_not_at_most, test_not_below}
use Rattle.std.proofs.lemmas.Grind.{common_steps}

-- ---- counts of the numbers that pass a test

-- 1 for true
abbrev pub one_if : Bool → ℕ
one_if b = cond b 1 0

no_number : (test : ℕ → Bool) → count_below test 0 ≡ 0
unfolding count_below
no_number test = refl

next_number : (test : ℕ → Bool) (n : ℕ) → count_below test (suc n) ≡ count_below test n + one_if (test n)
unfolding count_below
next_number test n = refl

-- a test that takes the place of two, of which no number passes both
pub count_either : (either one other : ℕ → Bool) (n : ℕ)
    → ((a : ℕ) → one_if (either a) ≡ one_if (one a) + one_if (other a))
    → count_below either n ≡ count_below one n + count_below other n
count_either either one other zero h = omega (arith, no_number either, no_number one, no_number other)
count_either either one other (suc n) h =
    omega (arith, next_number either n, next_number one n, next_number other n, h n, count_either either one other n h)

count_same : (one other : ℕ → Bool) (n : ℕ) → ((a : ℕ) → one a ≡ other a) → count_below one n ≡ count_below other n
count_same one other zero h = no_number one ∙ sym (no_number other)
count_same one other (suc n) h =
    let here : one_if (one n) ≡ one_if (other n) = ap one_if (h n) in
    omega (arith, next_number one n, next_number other n, here, count_same one other n h)

one_if_most : (b : Bool) → one_if b ≤ 1
one_if_most true = omega arith
one_if_most false = omega arith

pub count_most : (test : ℕ → Bool) (n : ℕ) → count_below test n ≤ n
count_most test zero = omega (arith, no_number test)
count_most test (suc n) = omega (arith, next_number test n, one_if_most (test n), count_most test n)

count_none : (test : ℕ → Bool) (n : ℕ) → ((a : ℕ) → test a ≡ false) → count_below test n ≡ 0
count_none test zero h = no_number test
count_none test (suc n) h =
    let here : one_if (test n) ≡ 0 = ap one_if (h n) in
    omega (arith, next_number test n, here, count_none test n h)

-- one test passes no number that the other doesn't
abbrev pub PassesFewer : (ℕ → Bool) → (ℕ → Bool) → Type 0
PassesFewer one other = (a : ℕ) → one_if (one a) ≤ one_if (other a)

count_fewer : (one other : ℕ → Bool) (n : ℕ) → PassesFewer one other → count_below one n ≤ count_below other n
count_fewer one other zero h = omega (arith, no_number one, no_number other)
count_fewer one other (suc n) h =
    omega (arith, next_number one n, next_number other n, h n, count_fewer one other n h)

one_if_same : (b c : Bool) → one_if b ≡ one_if c → b ≡ c
one_if_same true true e = refl
one_if_same true false e = absurd (omega (arith, e))
one_if_same false true e = absurd (omega (arith, e))
one_if_same false false e = refl

-- where as many pass it, the same ones pass
pub passed_same : (one other : ℕ → Bool) (n : ℕ) → PassesFewer one other → count_below one n ≡ count_below other n
    → (a : ℕ) → a < n → one a ≡ other a
passed_same one other zero h e a l = absurd (omega (arith, l))
passed_same one other (suc n) h e a l =
    let less = count_fewer one other n h in
    let before : count_below one n ≡ count_below other n =
    omega (arith, e, next_number one n, next_number other n, h n, less) in
    let here : one_if (one n) ≡ one_if (other n) = omega (arith, e, next_number one n, next_number other n, h n, less) in
    ⊎_elim (λ (k : a < n). passed_same one other n h before a k)
    (λ (k : n ≤ a). let at : n ≡ a = omega (arith, l, k) in subst (λ (m : ℕ). one m ≡ other m) at (one_if_same (one n) (other n) here))
    (cases_lt a n)

-- ---- a test that all numbers of a range pass, and no others

pub record IsTestOf (test : ℕ → Bool) (from to : ℕ) : Type 0 where
  pub within : (a : ℕ) → from ≤ a → a < to → test a ≡ true
  pub below : (a : ℕ) → a < from → test a ≡ false
  pub above : (a : ℕ) → to ≤ a → test a ≡ false

one_if_true : (b : Bool) → b ≡ true → one_if b ≡ 1
one_if_true b e = ap one_if e

one_if_false : (b : Bool) → b ≡ false → one_if b ≡ 0
one_if_false b e = ap one_if e

-- of the numbers below the end
count_up_to : (test : ℕ → Bool) (from to n : ℕ) → IsTestOf test from to → n ≤ to → count_below test n ≡ n - from
count_up_to test from to zero h l = omega (arith, no_number test)
count_up_to test from to (suc n) h l =
    let before = count_up_to test from to n h (omega (arith, l)) in
    ⊎_elim
    (λ (k : n < from). omega (arith, next_number test n, one_if_false (test n) (h.below n k), before, k))
    (λ (k : from ≤ n). omega (arith, next_number test n, one_if_true (test n) (h.within n k (omega (arith, l))), before, k))
    (cases_lt n from)

count_range : (test : ℕ → Bool) (from to n : ℕ) → IsTestOf test from to → to ≤ n → count_below test n ≡ to - from
count_range test from to zero h l = omega (arith, no_number test, l)
count_range test from to (suc n) h l =
    ⊎_elim
    (λ (k : n < to). let e : suc n ≤ to = omega (arith, k) in omega (arith, count_up_to test from to (suc n) h e, e, l))
    (λ (k : to ≤ n). omega (arith, next_number test n, one_if_false (test n) (h.above n k), count_range test from to n h k))
    (cases_lt n to)

-- ---- the addresses in a range of positions

-- `from` is the least address whose position is at or above p.
pub record IsFirstFrom (p : Position) (from : ℕ) : Type 0 where
  pub at : (a : ℕ) → from ≤ a → IsAtMost p (whole a)
  pub under : (a : ℕ) → a < from → IsBelow (whole a) p

false-and-right : (a : Bool) → (a && false) ≡ false
false-and-right true = refl
false-and-right false = refl

between_test : (low high : Position) (from to : ℕ) → IsFirstFrom low from → IsFirstFrom high to → IsTestOf (is_between low high) from to
between_test low high from to h k = record {
  within = λ a l m. rw (test_at_most low (whole a) (h.at a l), test_below (whole a) high (k.under a m)) refl;
  below = λ a l. rw (test_not_at_most low (whole a) (h.under a l)) refl;
  above = λ a l. rw (test_not_below (whole a) high (k.at a l)) (false-and-right (is_at_most low (whole a)));
}

pub counted_between : (low high : Position) (from to : ℕ) → IsFirstFrom low from → IsFirstFrom high to → to ≤ 2 ^ 64
    → to - from ≡ addresses_between low high
counted_between low high from to h k l = grind (arith, common_steps, count_range, between_test)

-- ---- the addresses that are answered

pub most_addresses : {X : Type 0} (answers : Position → Option X) → addresses_answered answers ≤ 2 ^ 64
most_addresses answers = count_most (is_answered answers) (2 ^ 64)

pub same_addresses : {X Y : Type 0} (one : Position → Option X) (other : Position → Option Y)
    → ((p : Position) → is_some (one p) ≡ is_some (other p)) → addresses_answered one ≡ addresses_answered other
same_addresses one other h = count_same (is_answered one) (is_answered other) (2 ^ 64) (λ a. h (whole a))

pub no_addresses : {X : Type 0} (answers : Position → Option X) → ((p : Position) → is_some (answers p) ≡ false)
    → addresses_answered answers ≡ 0
no_addresses answers h = count_none (is_answered answers) (2 ^ 64) (λ a. h (whole a))

-- whether p lies in the half-open range
abbrev pub is_within : Position → Position → Position → Bool
is_within low high p = is_at_most low p && is_below p high

added_here : {X : Type 0} (answers more : Position → Option X) (low high : Position) → AnswersMore answers more low high → (p : Position)
    → one_if (is_some (more p)) ≡ one_if (is_some (answers p)) + one_if (is_within low high p)
added_here answers more low high h p =
    grind (arith, common_steps, order_cases, test_not_at_most, test_at_most, test_below, test_not_below, false-and-right)

pub added_range : {X : Type 0} (answers more : Position → Option X) (low high : Position) → AnswersMore answers more low high
    → addresses_answered more ≡ addresses_answered answers + addresses_between low high
added_range answers more low high h =
    count_either (is_answered more) (is_answered answers) (is_between low high) (2 ^ 64) (λ a. added_here answers more low high h (whole a))

-- ---- the addresses of spans in order

span_added : (span : Span) (rest : List Span) → AreInOrder (span ∷ rest)
    → AnswersMore (span_answer rest) (span_answer (span ∷ rest)) span.low span.high
span_added span rest order =
    grind (arith, common_steps, answer_in number_spans, rest_none number_spans, answer_before number_spans, answer_after number_spans)

pub addresses_of_spans : (spans : List Span) → AreInOrder spans → addresses_answered (span_answer spans) ≡ addresses_of spans
addresses_of_spans [] order = no_addresses (span_answer []) (λ p. refl)
addresses_of_spans (span ∷ rest) order =
    omega (
      arith,
      added_range (span_answer rest) (span_answer (span ∷ rest)) span.low span.high (span_added span rest order),
      addresses_of_spans rest (rest_in_order number_spans span rest order),
    )

-- spans whose numbers have at most 64 bits answer nothing at other addresses
pub fitting_spans : (spans : List Span) → FitSpans spans → AnswersAddresses (span_answer spans)
fitting_spans [] fit p l = refl
fitting_spans (span ∷ rest) fit p l =
    let past : IsAtMost span.high p =
    record { address = omega (arith, l, fit.0.high.address); op = λ e. absurd (omega (arith, l, fit.0.high.address, e)) } in
    answer_after number_spans span rest p past ∙ fitting_spans rest fit.1 p l

-- the answers of spans of a kind that begin and end at operation index 0
pub kind_spans : {X Y : Type 0} (kind : SpanKind X Y) (spans : List X)
    → AllByRecursion (λ span. ((kind.low span).op ≡ 0) × ((kind.high span).op ≡ 0)) spans
    → ChangesAtInstructions (answer_held kind spans)
kind_spans kind [] each p = refl
kind_spans kind (span ∷ rest) each p = elim (order_cases p (kind.low span)) [
  | inl h ↦
      let under : IsBelow (whole p.address) (kind.low span) =
      record { address = h.address; op = λ e. omega (arith, h.op e, each.0.0) } in
      answer_before kind span rest p h ∙ kind_spans kind rest each.1 p
      ∙ sym (answer_before kind span rest (whole p.address) under)
  | inr h ↦
      let from : IsAtMost (kind.low span) (whole p.address) = record { address = h.address; op = λ e. omega (arith, each.0.0) } in
      elim (order_cases p (kind.high span)) [
        | inl k ↦
            let under : IsBelow (whole p.address) (kind.high span) =
            record { address = k.address; op = λ e. omega (arith, k.op e, each.0.1) } in
            answer_in kind span rest p h k ∙ sym (answer_in kind span rest (whole p.address) from under)
        | inr k ↦
            let past : IsAtMost (kind.high span) (whole p.address) = record { address = k.address; op = λ e. omega (arith, each.0.1) } in
            answer_after kind span rest p k ∙ kind_spans kind rest each.1 p
            ∙ sym (answer_after kind span rest (whole p.address) past)
      ]
]

pub instruction_spans : (spans : List Span) → AllByRecursion IsOfInstructions spans → ChangesAtInstructions (span_answer spans)
instruction_spans spans each = kind_spans number_spans spans each

-- ---- spans that come one after another

-- Some spans are to come with which the count comes to this total.
abbrev pub CountsOn : {S : Type 0} → (S → List Span → Type 0) → ℕ → S → ℕ → Type 0
CountsOn to_come total spans count = (list : List Span) × CountsTo to_come total spans count list

pub counts_first : (S : Type 0) (to_come : S → List Span → Type 0) (total : ℕ) (spans spans' : S) (count more : ℕ) (span : Span)
    (list : List Span)
    → CountsTo to_come total spans count list
    → ((list : List Span) → to_come spans list → GivesFirstSpan (to_come spans') list (Some span))
    → (count + addresses_between span.low span.high ≤ 2 ^ 64 → more ≡ count + addresses_between span.low span.high)
    → GivesFirstSpan (CountsTo to_come total spans' more) list (Some span)
counts_first S to_come total spans spans' count more span list h gives adds = grind (arith, common_steps)

pub counts_end : (S : Type 0) (to_come : S → List Span → Type 0) (total : ℕ) (spans spans' : S) (count : ℕ) (list : List Span)
    → CountsTo to_come total spans count list
    → ((list : List Span) → to_come spans list → GivesFirstSpan (to_come spans') list None)
    → GivesFirstSpan (CountsTo to_come total spans' count) list None × (count ≡ total)
counts_end S to_come total spans spans' count list h gives = grind (arith, common_steps)

pub counts_on : (S : Type 0) (to_come : S → List Span → Type 0) (total : ℕ) (spans spans' : S) (count more : ℕ) (span : Span)
    → CountsOn to_come total spans count
    → ((list : List Span) → to_come spans list → GivesFirstSpan (to_come spans') list (Some span))
    → (count + addresses_between span.low span.high ≤ 2 ^ 64 → more ≡ count + addresses_between span.low span.high)
    → CountsOn to_come total spans' more
counts_on S to_come total spans spans' count more span h gives adds = grind (arith, common_steps, counts_first)
