-- What a list of spans answers, in terms of its first span, and where it ends.
use Rattle.std.proofs.Common.{◌≡◌, ◌∙◌, true, false, Bool, List, [], ◌∷◌, ◌++◌, refl, Some, None, arith, ◌&&◌}
use Rattle.lnt_spans.specs.Positions.{IsBelow, IsAtMost, Position}
use Rattle.lnt_spans.specs.SpanKinds.{SpanKind, AreSpansInOrder, answer_held, last_end}
use Rattle.lnt_spans.proofs.PositionLaws.{test_below, test_not_below, test_at_most, test_not_at_most, below_at_most}
use Rattle.lnt_spans.proofs.PositionLaws.{below_is_at_most, order_cases, origin_first}
use Rattle.std.proofs.lemmas.Grind.{common_steps}

false-and : (a : Bool) → (a && false) ≡ false
false-and true = refl
false-and false = refl

module _ {X Y : Type 0} (kind : SpanKind X Y) where
  -- p is in the first span
  pub answer_in : (s : X) (rest : List X) (p : Position) → IsAtMost (kind.low s) p → IsBelow p (kind.high s)
      → answer_held kind (s ∷ rest) p ≡ Some (kind.answer s)
  answer_in s rest p h k = rw (test_at_most (kind.low s) p h, test_below p (kind.high s) k) refl

  -- p is outside the first span: the rest answers
  pub answer_before : (s : X) (rest : List X) (p : Position) → IsBelow p (kind.low s)
      → answer_held kind (s ∷ rest) p ≡ answer_held kind rest p
  answer_before s rest p h = rw (test_not_at_most (kind.low s) p h) refl

  pub answer_after : (s : X) (rest : List X) (p : Position) → IsAtMost (kind.high s) p
      → answer_held kind (s ∷ rest) p ≡ answer_held kind rest p
  answer_after s rest p h = rw (test_not_below p (kind.high s) h, false-and) refl

  -- prepending a span to two lists that agree at p
  pub answer_same : (s : X) (xs ys : List X) (p : Position) → answer_held kind xs p ≡ answer_held kind ys p
      → answer_held kind (s ∷ xs) p ≡ answer_held kind (s ∷ ys) p
  answer_same s xs ys p e = grind (arith, common_steps, order_cases, answer_before, answer_in, answer_after)

  pub first_holds : (s : X) (rest : List X) → AreSpansInOrder kind (s ∷ rest) → IsBelow (kind.low s) (kind.high s)
  first_holds s [] h = h
  first_holds s (t ∷ rest) h = h.0

  pub rest_in_order : (s : X) (rest : List X) → AreSpansInOrder kind (s ∷ rest) → AreSpansInOrder kind rest
  rest_in_order s [] h = tt
  rest_in_order s (t ∷ rest) h = h.2

  -- both parts of a list of spans in order are in order
  pub prefix_in_order : (xs ys : List X) → AreSpansInOrder kind (xs ++ ys) → AreSpansInOrder kind xs
  prefix_in_order [] ys h = tt
  prefix_in_order (x ∷ []) [] h = h
  prefix_in_order (x ∷ []) (y ∷ ys) h = h.0
  prefix_in_order (x ∷ next ∷ xs) ys h = (h.0, h.1, prefix_in_order (next ∷ xs) ys h.2)

  pub back_in_order : (xs ys : List X) → AreSpansInOrder kind (xs ++ ys) → AreSpansInOrder kind ys
  back_in_order [] ys h = h
  back_in_order (x ∷ xs) ys h = back_in_order xs ys (rest_in_order x (xs ++ ys) h)

  -- before the first span nothing answers
  pub none_before : (s : X) (rest : List X) (p : Position) → AreSpansInOrder kind (s ∷ rest) → IsBelow p (kind.low s)
      → answer_held kind (s ∷ rest) p ≡ None
  none_before s [] p h k = answer_before s [] p k
  none_before s (t ∷ rest) p h k =
      answer_before s (t ∷ rest) p k ∙ none_before t rest p h.2 (below_at_most (below_at_most k (below_is_at_most h.0)) h.1)

  -- below the end of the first span the rest answers nothing
  pub rest_none : (s : X) (rest : List X) (p : Position) → AreSpansInOrder kind (s ∷ rest) → IsBelow p (kind.high s)
      → answer_held kind rest p ≡ None
  rest_none s [] p h k = refl
  rest_none s (t ∷ rest) p h k = none_before t rest p h.2 (below_at_most k h.1)

  -- ---- one more span

  pub order_push : (spans : List X) (span : X) → AreSpansInOrder kind spans → IsAtMost (last_end kind spans) (kind.low span)
      → IsBelow (kind.low span) (kind.high span) → AreSpansInOrder kind (spans ++ span ∷ [])
  order_push [] span o le lt = lt
  order_push (s ∷ []) span o le lt = (o, le, lt)
  order_push (s ∷ next ∷ spans) span o le lt = (o.0, o.1, order_push (next ∷ spans) span o.2 le lt)

  pub order_pushed : (spans : List X) (span : X) → AreSpansInOrder kind (spans ++ span ∷ [])
      → IsAtMost (last_end kind spans) (kind.low span) × IsBelow (kind.low span) (kind.high span)
  order_pushed [] span o = (origin_first (kind.low span), o)
  order_pushed (s ∷ []) span o = (o.1, o.2)
  order_pushed (s ∷ next ∷ spans) span o = order_pushed (next ∷ spans) span o.2

  pub end_pushed : (spans : List X) (span : X) → last_end kind (spans ++ span ∷ []) ≡ kind.high span
  end_pushed [] span = refl
  end_pushed (s ∷ []) span = refl
  end_pushed (s ∷ next ∷ spans) span = end_pushed (next ∷ spans) span
