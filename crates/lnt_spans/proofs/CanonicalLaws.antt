-- Canonical lists.
use Rattle.std.proofs.Common.{◌≡◌, List, [], ◌∷◌, inl, inr, refl, sym, Some, arith}
use Rattle.lnt_spans.specs.Positions.{IsBelow}
use Rattle.lnt_spans.specs.SpanKinds.{AreCanonical, DifferWhereTheyTouch, OneCanonicalOf, SpanKind, AreSpansInOrder, answer_held}
use Rattle.lnt_spans.specs.Spans.{number_spans}
use Rattle.lnt_spans.specs.Laws.{OneCanonical, AnswerAlike}
use Rattle.lnt_spans.proofs.PositionLaws.{order_cases, order_three, at_most_below, at_most_itself, below_is_at_most, same_position}
use Rattle.lnt_spans.proofs.AnsweringLaws.{answer_in, answer_after, first_holds, rest_in_order, none_before, rest_none}
use Rattle.std.proofs.lemmas.Grind.{common_steps}

-- Spans that begin and end alike, with the same answer, are the same.
abbrev pub AreSameByParts : {X Y : Type 0} → SpanKind X Y → Type 0
AreSameByParts {X} kind = (x y : X) → kind.low x ≡ kind.low y → kind.high x ≡ kind.high y → kind.answer x ≡ kind.answer y → x ≡ y

module _ {X Y : Type 0} (kind : SpanKind X Y) where
  rest_differ : (s : X) (rest : List X) → DifferWhereTheyTouch kind (s ∷ rest) → DifferWhereTheyTouch kind rest
  rest_differ s [] h = tt
  rest_differ s (t ∷ rest) h = h.1

  -- of two lists, the one whose first span begins earlier answers where the other doesn't
  not_earlier : (x y : X) (xs ys : List X) → AreSpansInOrder kind (x ∷ xs) → AreSpansInOrder kind (y ∷ ys)
      → AnswerAlike (answer_held kind (x ∷ xs)) (answer_held kind (y ∷ ys)) → IsBelow (kind.low x) (kind.low y) → ⊥
  not_earlier x y xs ys ox oy same lt =
      let here = answer_in kind x xs (kind.low x) (at_most_itself (kind.low x)) (first_holds kind x xs ox) in
      let none = none_before kind y ys (kind.low x) oy lt in
      let e = same (kind.low x) in
      cc

  same_low : (x y : X) (xs ys : List X) → AreSpansInOrder kind (x ∷ xs) → AreSpansInOrder kind (y ∷ ys)
      → AnswerAlike (answer_held kind (x ∷ xs)) (answer_held kind (y ∷ ys)) → kind.low x ≡ kind.low y
  same_low x y xs ys ox oy same = elim (order_three (kind.low x) (kind.low y)) [
    | inl lt ↦ absurd (not_earlier x y xs ys ox oy same lt)
    | inr (inl e) ↦ e
    | inr (inr gt) ↦ absurd (not_earlier y x ys xs oy ox (λ p. sym (same p)) gt)
  ]

  same_answer : (x y : X) (xs ys : List X) → AreSpansInOrder kind (x ∷ xs) → AreSpansInOrder kind (y ∷ ys)
      → AnswerAlike (answer_held kind (x ∷ xs)) (answer_held kind (y ∷ ys)) → kind.low x ≡ kind.low y → kind.answer x ≡ kind.answer y
  same_answer x y xs ys ox oy same low =
      let here = answer_in kind x xs (kind.low x) (at_most_itself (kind.low x)) (first_holds kind x xs ox) in
      let there = answer_in kind y ys (kind.low y) (at_most_itself (kind.low y)) (first_holds kind y ys oy) in
      let e = same (kind.low x) in
      cc

  -- at the end of its first span a canonical list doesn't give that span's answer
  answers_other : (x : X) (xs : List X) → AreSpansInOrder kind (x ∷ xs) → DifferWhereTheyTouch kind (x ∷ xs)
      → answer_held kind (x ∷ xs) (kind.high x) ≡ Some (kind.answer x) → ⊥
  answers_other x [] o d e = let none = answer_after kind x [] (kind.high x) (at_most_itself (kind.high x)) in cc
  answers_other x (t ∷ rest) o d e = elim (order_cases (kind.high x) (kind.low t)) [
    | inl gap ↦
        let past = answer_after kind x (t ∷ rest) (kind.high x) (at_most_itself (kind.high x)) in
        let none = none_before kind t rest (kind.high x) o.2 gap in
        cc
    | inr le ↦
        let touch = same_position (kind.high x) (kind.low t) le o.1 in
        let past = answer_after kind x (t ∷ rest) (kind.high x) (at_most_itself (kind.high x)) in
        let here = answer_in kind t rest (kind.high x) le (at_most_below o.1 (first_holds kind t rest o.2)) in
        d.0 touch (cc)
  ]

  not_shorter : (x y : X) (xs ys : List X) → AreCanonical kind (x ∷ xs) → AreSpansInOrder kind (y ∷ ys)
      → AnswerAlike (answer_held kind (x ∷ xs)) (answer_held kind (y ∷ ys))
      → kind.low x ≡ kind.low y → kind.answer x ≡ kind.answer y → IsBelow (kind.high x) (kind.high y) → ⊥
  not_shorter x y xs ys cx oy same low answer lt =
      grind (arith, common_steps, below_is_at_most, first_holds kind, answer_in kind, answers_other)

  same_high : (x y : X) (xs ys : List X) → AreCanonical kind (x ∷ xs) → AreCanonical kind (y ∷ ys)
      → AnswerAlike (answer_held kind (x ∷ xs)) (answer_held kind (y ∷ ys))
      → kind.low x ≡ kind.low y → kind.answer x ≡ kind.answer y → kind.high x ≡ kind.high y
  same_high x y xs ys cx cy same low answer = elim (order_three (kind.high x) (kind.high y)) [
    | inl lt ↦ absurd (not_shorter x y xs ys cx cy.in_order same low answer lt)
    | inr (inl e) ↦ e
    | inr (inr gt) ↦ absurd (not_shorter y x ys xs cy cx.in_order (λ p. sym (same p)) (sym low) (sym answer) gt)
  ]

  same_rest : (x y : X) (xs ys : List X) → AreSpansInOrder kind (x ∷ xs) → AreSpansInOrder kind (y ∷ ys)
      → AnswerAlike (answer_held kind (x ∷ xs)) (answer_held kind (y ∷ ys)) → kind.high x ≡ kind.high y
      → AnswerAlike (answer_held kind xs) (answer_held kind ys)
  same_rest x y xs ys ox oy same high p = grind (arith, common_steps, order_cases, rest_none kind, answer_after kind)

  pub one_list : AreSameByParts kind → OneCanonicalOf kind
  one_list alike [] [] cx cy same = refl
  one_list alike (x ∷ xs) [] cx cy same =
      let here = answer_in kind x xs (kind.low x) (at_most_itself (kind.low x)) (first_holds kind x xs cx.in_order) in
      let e = same (kind.low x) in
      cc
  one_list alike [] (y ∷ ys) cx cy same =
      let there = answer_in kind y ys (kind.low y) (at_most_itself (kind.low y)) (first_holds kind y ys cy.in_order) in
      let e = same (kind.low y) in
      cc
  one_list alike (x ∷ xs) (y ∷ ys) cx cy same =
      let low = same_low x y xs ys cx.in_order cy.in_order same in
      let answer = same_answer x y xs ys cx.in_order cy.in_order same low in
      let high = same_high x y xs ys cx cy same low answer in
      let first : x ≡ y = alike x y low high answer in
      let tails : xs ≡ ys = one_list alike xs ys
      (record { in_order = rest_in_order kind x xs cx.in_order; differ = rest_differ x xs cx.differ })
      (record { in_order = rest_in_order kind y ys cy.in_order; differ = rest_differ y ys cy.differ })
      (same_rest x y xs ys cx.in_order cy.in_order same high) in
      cc

-- ---- by number

pub one_number_list : OneCanonical
one_number_list = one_list number_spans (λ x y low high answer. λ i. record { low = low i; high = high i; answer = answer i })
