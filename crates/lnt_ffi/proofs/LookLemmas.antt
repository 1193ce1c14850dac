-- Bisection of flat spans, from that of the spans that they are.
use Rattle.std.proofs.Common.{◌≡◌, ℕ, zero, suc, ◌+◌, ◌-◌, ◌<◌, ◌≤◌, List, Some, None, length, map, get_or, sym, subst, arith}
use Rattle.std.proofs.lemmas.Grind.{common_steps}
use Rattle.std.proofs.lemmas.List.{length-map, get_or-map}
use Rattle.lnt_spans.specs.declared.position.Position.{Position}
use Rattle.lnt_spans.specs.declared.span.Span.{Span}
use Rattle.lnt_spans.specs.Positions.{IsBelow, IsAtMost}
use Rattle.lnt_spans.specs.Spans.{AreInOrder, span_answer}
use Rattle.lnt_spans.specs.Stepping.{IsBracket}
use Rattle.lnt_spans.proofs.BracketLaws.{bracket_below, bracket_above, found_inside, found_nowhere}
use Rattle.lnt_ffi.specs.Flat.{answer_of, span_of, FlatSpan}

-- what is at a place among the flat ones is what is there among the spans
pub at : (spans : List FlatSpan) (k : ℕ) (d : FlatSpan) (e : Span) → k < length spans
    → span_of (get_or spans k d) ≡ get_or (map span_of spans) k e
at spans k d e l = sym (get_or-map span_of spans k d e l)

pub flat_below : (spans : List FlatSpan) (p : Position) (low high middle : ℕ) → AreInOrder (map span_of spans)
    → IsBracket (map span_of spans) p low high
    → low ≤ middle → middle < high → high ≤ length spans → (d : FlatSpan) → IsBelow p (span_of (get_or spans middle d)).low
    → IsBracket (map span_of spans) p low middle
flat_below spans p low high middle o b h k w d here =
    bracket_below (map span_of spans) p low high middle o b h k (span_of d)
    (subst (λ (s : Span). IsBelow p s.low) (at spans middle d (span_of d) (omega arith)) here)

pub flat_above : (spans : List FlatSpan) (p : Position) (low high middle : ℕ) → AreInOrder (map span_of spans)
    → IsBracket (map span_of spans) p low high
    → low ≤ middle → middle < high → high ≤ length spans → (d : FlatSpan) → IsAtMost (span_of (get_or spans middle d)).high p
    → IsBracket (map span_of spans) p (middle + 1) high
flat_above spans p low high middle o b h k w d here =
    bracket_above (map span_of spans) p low high middle o b h k (span_of d)
    (subst (λ (s : Span). IsAtMost s.high p) (at spans middle d (span_of d) (omega arith)) here)

pub flat_inside : (spans : List FlatSpan) (p : Position) (middle : ℕ) (d : FlatSpan) → AreInOrder (map span_of spans)
    → middle < length spans
    → IsAtMost (span_of (get_or spans middle d)).low p × IsBelow p (span_of (get_or spans middle d)).high
    → span_answer (map span_of spans) p ≡ Some (answer_of (get_or spans middle d).answer)
flat_inside spans p middle d o l h =
    grind (arith, common_steps, at spans middle d (span_of d) l, found_inside (map span_of spans) p middle (span_of d) o)

pub flat_nowhere : (spans : List FlatSpan) (p : Position) (low high : ℕ) → IsBracket (map span_of spans) p low high
    → high ≤ low → span_answer (map span_of spans) p ≡ None
flat_nowhere spans p low high b h = sym (found_nowhere (map span_of spans) p low high b h)

-- ---- what lies around one place

pub around_all : (spans : List FlatSpan) (p : Position) → IsBracket (map span_of spans) p 0 (length spans)
around_all spans p = let count : length (map span_of spans) ≡ length spans = length-map spans span_of in record {
  upto = omega arith;
  within = omega (arith, count);
  before = λ k d lt. absurd (omega (arith, lt));
  past = λ k d le l. absurd (omega (arith, count, le, l));
}

-- those before the place end by p, if the last of them does
pub ended : (spans : List FlatSpan) (p : Position) (place : ℕ) (d : FlatSpan) → AreInOrder (map span_of spans) → place ≤ length spans
    → (0 < place → IsAtMost (span_of (get_or spans (place - 1) d)).high p) → IsBracket (map span_of spans) p place (length spans)
ended spans p zero d o w h = around_all spans p
ended spans p (suc k) d o w h =
    let e : suc k - 1 ≡ k = omega arith in
    subst (λ (n : ℕ). IsBracket (map span_of spans) p n (length spans)) (omega arith)
    (flat_above spans p 0 (length spans) k o (around_all spans p) (omega arith) (omega (arith, w)) (omega arith)
    d (rw e at h (omega arith)))

-- those from the place on begin above p, if the first of them does
pub begun : (spans : List FlatSpan) (p : Position) (place : ℕ) (d : FlatSpan) → AreInOrder (map span_of spans) → place < length spans
    → IsBelow p (span_of (get_or spans place d)).low → IsBracket (map span_of spans) p place (length spans)
    → IsBracket (map span_of spans) p place place
begun spans p place d o l here b = flat_below spans p place (length spans) place o b (omega arith) l (omega arith) d here
