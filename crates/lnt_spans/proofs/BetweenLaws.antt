-- Spans in order, described by where they begin and end.
use Rattle.std.proofs.Common.{◌≡◌, Bool, true, false, ◌&&◌, ◌∙◌, List, [], ◌∷◌, ◌++◌, None, refl, arith, AllPairs, All}
use Rattle.std.proofs.lemmas.List.Elements.{All-cons, All-nil, All-weaker}
use Rattle.lnt_spans.specs.Positions.{IsBelow, IsAtMost, Position}
use Rattle.lnt_spans.specs.Spans.{number_spans, AreInOrder, span_answer, Span}
use Rattle.lnt_spans.specs.SpanKinds.{is_held}
use Rattle.lnt_spans.proofs.AnsweringLaws.{answer_before}
use Rattle.lnt_spans.proofs.EachTwoLaws.{pairs_nil, pairs_cons}
use Rattle.lnt_spans.proofs.PositionLaws.{at_most_from_test, at_most_itself, at_most_trans, below_at_most}
use Rattle.lnt_spans.proofs.PositionLaws.{below_from_test, below_is_at_most, test_at_most, test_below}
use Rattle.std.proofs.lemmas.Grind.{common_steps}

-- ---- one span

both_true : (a b : Bool) → (a && b) ≡ true → (a ≡ true) × (b ≡ true)
both_true true b e = (refl, e)
both_true false b e = absurd cc

-- the span holds p
pub record InSpan (p : Position) (span : Span) : Type 0 where
  pub from : IsAtMost span.low p
  pub below : IsBelow p span.high

pub in_span : (p : Position) (span : Span) → is_held number_spans p span ≡ true → InSpan p span
in_span p span h = grind (arith, common_steps, both_true, at_most_from_test, below_from_test)

pub test_in_span : (p : Position) (span : Span) → InSpan p span → is_held number_spans p span ≡ true
test_in_span p span h = rw (test_at_most span.low p h.from, test_below p span.high h.below) refl

-- ---- spans from one position up to another

-- Spans in order within two bounds: none is empty, none begins below the end of the one before it, the first begins at or
-- above `low`, and the last ends at or below `high`.
abbrev pub AreBetween : Position → List Span → Position → Type 0
AreBetween low [] high = IsAtMost low high
AreBetween low (span ∷ spans) high = IsAtMost low span.low × IsBelow span.low span.high × AreBetween span.high spans high

pub between_from : (a b c : Position) (spans : List Span) → IsAtMost a b → AreBetween b spans c → AreBetween a spans c
between_from a b c [] h k = at_most_trans h k
between_from a b c (span ∷ spans) h k = (at_most_trans h k.0, k.1, k.2)

pub between_append : (a b c : Position) (xs ys : List Span) → AreBetween a xs b → AreBetween b ys c → AreBetween a (xs ++ ys) c
between_append a b c [] ys h k = between_from a b c ys h k
between_append a b c (span ∷ xs) ys h k = (h.0, h.1, between_append span.high b c xs ys h.2 k)

pub between_at_most : (a b : Position) (spans : List Span) → AreBetween a spans b → IsAtMost a b
between_at_most a b [] h = h
between_at_most a b (span ∷ spans) h = at_most_trans h.0 (at_most_trans (below_is_at_most h.1) (between_at_most span.high b spans h.2))

pub order_from_between : (a b : Position) (spans : List Span) → AreBetween a spans b → AreInOrder spans
order_from_between a b [] h = tt
order_from_between a b (span ∷ []) h = h.1
order_from_between a b (span ∷ next ∷ spans) h = (h.1, h.2.0, order_from_between span.high b (next ∷ spans) h.2)

pub between_from_order : (span : Span) (spans : List Span) → AreInOrder (span ∷ spans) → (b : Position)
    × AreBetween span.low (span ∷ spans) b
between_from_order span [] h = (span.high, (at_most_itself span.low, h, at_most_itself span.high))
between_from_order span (next ∷ spans) h =
    let rest = between_from_order next spans h.2 in
    (rest.0, (at_most_itself span.low, h.0, between_from span.high next.low rest.0 (next ∷ spans) h.1 rest.1))

-- no span holds a position below the lower bound
pub none_below : (a b : Position) (spans : List Span) (p : Position) → AreBetween a spans b → IsBelow p a → span_answer spans p ≡ None
none_below a b [] p h k = refl
none_below a b (span ∷ spans) p h k =
    answer_before number_spans span spans p (below_at_most k h.0)
    ∙ none_below span.high b spans p h.2 (below_at_most k (at_most_trans h.0 (below_is_at_most h.1)))

-- each span lies within the two bounds
pub record Within (a b : Position) (span : Span) : Type 0 where
  pub from : IsAtMost a span.low
  pub some : IsBelow span.low span.high
  pub upto : IsAtMost span.high b

pub between_within : (a b : Position) (spans : List Span) → AreBetween a spans b → All (Within a b) spans
between_within a b [] h = All-nil (Within a b)
between_within a b (span ∷ spans) h =
    All-cons (Within a b) span spans
    (record { from = h.0; some = h.1; upto = between_at_most span.high b spans h.2 })
    (All-weaker (Within span.high b) (Within a b)
    (λ s k. record { from = at_most_trans (at_most_trans h.0 (below_is_at_most h.1)) k.from; some = k.some; upto = k.upto }) spans
    (between_within span.high b spans h.2))

-- ---- spans in order, by their places

abbrev pub EndsBefore : Span → Span → Type 0
EndsBefore one other = IsAtMost one.high other.low

between_pairs : (a b : Position) (spans : List Span) → AreBetween a spans b → AllPairs EndsBefore spans
between_pairs a b [] h = pairs_nil EndsBefore
between_pairs a b (span ∷ spans) h =
    pairs_cons EndsBefore span spans
    (All-weaker (Within span.high b) (EndsBefore span) (λ s k. k.from) spans (between_within span.high b spans h.2))
    (between_pairs span.high b spans h.2)

-- each span ends before each later one begins
pub ends_before : (spans : List Span) → AreInOrder spans → AllPairs EndsBefore spans
ends_before [] h = pairs_nil EndsBefore
ends_before (span ∷ spans) h = let b = between_from_order span spans h in between_pairs span.low b.0 (span ∷ spans) b.1

-- no span is empty
pub none_empty : (spans : List Span) → AreInOrder spans → All (λ (s : Span). IsBelow s.low s.high) spans
none_empty [] h = All-nil (λ (s : Span). IsBelow s.low s.high)
none_empty (span ∷ spans) h =
    let b = between_from_order span spans h in
    All-weaker (Within span.low b.0) (λ (s : Span). IsBelow s.low s.high) (λ s k. k.some) (span ∷ spans)
    (between_within span.low b.0 (span ∷ spans) b.1)
