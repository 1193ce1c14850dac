-- Spans in order, the first of them passed: where these end, and what all of them answer below that and from there on.
use Rattle.std.proofs.Common.{◌≡◌, ◌∙◌, List, [], ◌∷◌, ◌++◌, refl, ap, sym}
use Rattle.std.specs.List.{AllByRecursion}
use Rattle.lnt_spans.specs.Spans.{number_spans, IsTold, end_of, AreInOrder, span_answer, version_answer, Version, Span}
use Rattle.lnt_spans.specs.Merged.{BeginFrom}
use Rattle.lnt_spans.specs.Positions.{IsBelow, IsAtMost, Position}
use Rattle.lnt_spans.specs.Remaining.{EndsAfter}
use Rattle.lnt_spans.proofs.AheadLaws.{next_after}
use Rattle.lnt_spans.proofs.AnsweringLaws.{answer_after, answer_same, first_holds, prefix_in_order, rest_none}
use Rattle.lnt_spans.proofs.PositionLaws.{at_most_below, at_most_itself, at_most_trans, below_is_at_most, not_both, origin_first}
use Rattle.lnt_spans.proofs.ToldLaws.{told, told_answer}

-- the spans after some others end after them
pub ends_after : (passed more : List Span) → AreInOrder (passed ++ more) → EndsAfter (end_of passed) more
ends_after [] [] o = tt
ends_after [] (span ∷ more) o = at_most_below (origin_first span.low) (first_holds number_spans span more o)
ends_after (span ∷ []) more o = next_after span more o
ends_after (span ∷ next ∷ passed) more o = ends_after (next ∷ passed) more o.2

-- they begin there or after it
pub begin_after : (passed more : List Span) → AreInOrder (passed ++ more) → BeginFrom (end_of passed) more
begin_after [] [] o = tt
begin_after [] (span ∷ more) o = origin_first span.low
begin_after (span ∷ []) [] o = tt
begin_after (span ∷ []) (next ∷ more) o = o.1
begin_after (span ∷ next ∷ passed) more o = begin_after (next ∷ passed) more o.2

end_above : (span : Span) (passed : List Span) → AreInOrder (span ∷ passed) → IsAtMost span.high (end_of (span ∷ passed))
end_above span [] o = at_most_itself span.high
end_above span (next ∷ passed) o =
    at_most_trans o.1 (at_most_trans (below_is_at_most (first_holds number_spans next passed o.2)) (end_above next passed o.2))

pub answer_below : (passed more : List Span) (p : Position) → AreInOrder (passed ++ more) → IsBelow p (end_of passed)
    → span_answer (passed ++ more) p ≡ span_answer passed p
answer_below [] more p o h = absurd (not_both h (origin_first p))
answer_below (span ∷ []) more p o h = answer_same number_spans span more [] p (rest_none number_spans span more p o h)
answer_below (span ∷ next ∷ passed) more p o h =
    answer_same number_spans span (next ∷ (passed ++ more)) (next ∷ passed) p (answer_below (next ∷ passed) more p o.2 h)

pub answer_from : (passed more : List Span) (p : Position) → AreInOrder (passed ++ more) → IsAtMost (end_of passed) p
    → span_answer (passed ++ more) p ≡ span_answer more p
answer_from [] more p o h = refl
answer_from (span ∷ []) more p o h = answer_after number_spans span more p h
answer_from (span ∷ next ∷ passed) more p o h =
    answer_after number_spans span (next ∷ (passed ++ more)) p
    (at_most_trans (end_above span (next ∷ passed) (prefix_in_order number_spans (span ∷ next ∷ passed) more o)) h)
    ∙ answer_from (next ∷ passed) more p o.2 h

-- ---- as a version contains them

told_are : (version : Version) (spans : List Span) → AllByRecursion (IsTold version) spans → told version spans ≡ spans
told_are version [] h = refl
told_are version (span ∷ spans) h = let first = h.0 in let rest = told_are version spans h.1 in cc

pub told_same : (version : Version) (spans : List Span) (p : Position) → AllByRecursion (IsTold version) spans
    → version_answer version spans p ≡ span_answer spans p
told_same version spans p h = sym (told_answer version spans p) ∙ ap (λ (xs : List Span). span_answer xs p) (told_are version spans h)

pub told_prefix : (version : Version) (passed more : List Span) → AllByRecursion (IsTold version) (passed ++ more)
    → AllByRecursion (IsTold version) passed
told_prefix version [] more h = tt
told_prefix version (span ∷ passed) more h = (h.0, told_prefix version passed more h.1)
