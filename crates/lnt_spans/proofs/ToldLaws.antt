-- Spans as a table tells them: with the same ends, and with what the table contains of their answers.
use Rattle.std.proofs.Common.{◌≡◌, ◌∙◌, Bool, true, false, cond, List, [], ◌∷◌, Option, Some, None, map, refl, option_map}
use Rattle.std.specs.List.{find}
use Rattle.lnt_spans.specs.declared.position.Position.{Position}
use Rattle.lnt_spans.specs.Answers.{in_version}
use Rattle.lnt_spans.specs.Merged.{answer_told}
use Rattle.lnt_spans.specs.SpanKinds.{AreSpansInOrder, SpanKind, answer_held, is_held}
use Rattle.lnt_spans.specs.Spans.{number_spans, Answer, AreInOrder, span_answer, span_in_version, version_answer, Version, Span}

-- the spans as a kind whose answers are told so
abbrev pub told_spans : {X : Type 0} → (Answer → X) → SpanKind Span X
told_spans tell = record { low = λ span. span.low; high = λ span. span.high; answer = λ span. tell span.answer }

pub answer_as_told : {X : Type 0} (tell : Answer → X) (spans : List Span) (p : Position)
    → answer_held (told_spans tell) spans p ≡ answer_told tell spans p
answer_as_told {X} tell spans p = of (find (is_held number_spans p) spans)
  where
    of : (found : Option Span) → option_map (told_spans tell).answer found ≡ option_map tell (option_map number_spans.answer found)
    of None = refl
    of (Some span) = refl

-- ---- spans of another kind, each made of one of these

module _ {X Y : Type 0} (kind : SpanKind X Y) (make : Span → X) where
  -- the spans as a kind with the ends of what is made of them
  abbrev made : {Z : Type 0} → (Span → Z) → SpanKind Span Z
  made answer = record { low = λ span. kind.low (make span); high = λ span. kind.high (make span); answer = answer }

  pub made_order : (spans : List Span) → AreSpansInOrder (made (λ span. span.answer)) spans → AreSpansInOrder kind (map make spans)
  made_order [] h = tt
  made_order (s ∷ []) h = h
  made_order (s ∷ t ∷ spans) h = (h.0, h.1, made_order (t ∷ spans) h.2)

  pub made_answer : (spans : List Span) (p : Position)
      → answer_held kind (map make spans) p ≡ answer_held (made (λ span. kind.answer (make span))) spans p
  made_answer [] p = refl
  made_answer (s ∷ spans) p = by (is_held kind p (make s)) (made_answer spans p)
    where
      by : (test : Bool) → answer_held kind (map make spans) p ≡ answer_held (made (λ span. kind.answer (make span))) spans p
          → option_map kind.answer (cond test (Some (make s)) (find (is_held kind p) (map make spans)))
          ≡ option_map (λ span. kind.answer (make span)) (cond test (Some s) (find (λ span. is_held kind p (make span)) spans))
      by true e = refl
      by false e = e

-- ---- as a version of the address table tells them

abbrev pub told : Version → List Span → List Span
told version spans = map (span_in_version version) spans

pub told_order : (version : Version) (spans : List Span) → AreInOrder spans → AreInOrder (told version spans)
told_order version spans h = made_order number_spans (span_in_version version) spans h

pub told_answer : (version : Version) (spans : List Span) (p : Position)
    → span_answer (told version spans) p ≡ version_answer version spans p
told_answer version spans p =
    made_answer number_spans (span_in_version version) spans p ∙ answer_as_told (in_version version) spans p
