-- Spans that answer as others do in a version have answers of that version.
use Rattle.lnt_spans.specs.SpanKinds.{is_held}
use Rattle.std.proofs.Common.{◌≡◌, ◌∙◌, Bool, true, false, cond, List, [], ◌∷◌, Option, Some, None, refl, sym, subst, All, find, option_map}
use Rattle.std.proofs.lemmas.List.Elements.{All-cons, All-head, All-nil, All-tail}
use Rattle.lnt_spans.specs.declared.answer.Answer.{Answer}
use Rattle.lnt_spans.specs.declared.answer.Version.{Version}
use Rattle.lnt_spans.specs.declared.answer.Version.TheVariants.{One, Two}
use Rattle.lnt_spans.specs.declared.position.Position.{Position}
use Rattle.lnt_spans.specs.declared.span.Span.{Span}
use Rattle.lnt_spans.specs.Answers.{in_version}
use Rattle.lnt_spans.proofs.AnsweringLaws.{answer_after, answer_in, first_holds}
use Rattle.lnt_spans.proofs.PositionLaws.{at_most_itself, at_most_trans, below_is_at_most}
use Rattle.lnt_spans.specs.Positions.{IsAtMost}
use Rattle.lnt_spans.specs.Spans.{AreInOrder, span_answer, version_answer, number_spans}
use Rattle.lnt_records.specs.Written.{IsOfVersion}

abbrev pub HasVersion : Version → Span → Type 0
HasVersion version span = IsOfVersion version span.answer

abbrev IsAnswer : Version → Option Answer → Type 0
IsAnswer version None = Unit {0}
IsAnswer version (Some answer) = IsOfVersion version answer

-- the answer of a list is that of one of its spans, so it is of the version too
answer_of : (version : Version) (spans : List Span) (p : Position) → All (HasVersion version) spans → IsAnswer version (span_answer spans p)
answer_of version [] p h = tt
answer_of version (span ∷ spans) p h =
    by (is_held number_spans p span) (answer_of version spans p (All-tail (HasVersion version) span spans h))
  where
    by : (test : Bool) → IsAnswer version (span_answer spans p)
        → IsAnswer version (option_map (λ (s : Span). s.answer) (cond test (Some span) (find (is_held number_spans p) spans)))
    by true rest = All-head (HasVersion version) span spans h
    by false rest = rest

narrowed_has : (version : Version) (answer : Option Answer) → IsAnswer Two answer
    → IsAnswer version (option_map (in_version version) answer)
narrowed_has version None h = tt
narrowed_has One (Some answer) h = refl
narrowed_has Two (Some answer) h = h

first_has : (version : Version) (span : Span) (spans : List Span) (answers : Position → Option Answer) → AreInOrder (span ∷ spans)
    → ((p : Position) → IsAnswer version (answers p)) → span_answer (span ∷ spans) span.low ≡ answers span.low → HasVersion version span
first_has version span spans answers o h same =
    let here = answer_in number_spans span spans span.low (at_most_itself span.low) (first_holds number_spans span spans o) in
    subst (IsAnswer version) (sym same ∙ here) (h span.low)

-- Each span's answer is the one at its first position.
each_has : (version : Version) (span : Span) (spans : List Span) (answers : Position → Option Answer) → AreInOrder (span ∷ spans)
    → ((p : Position) → IsAnswer version (answers p)) → ((p : Position) → IsAtMost span.low p → span_answer (span ∷ spans) p ≡ answers p)
    → All (HasVersion version) (span ∷ spans)
each_has version span [] answers o h same =
    All-cons (HasVersion version) span [] (first_has version span [] answers o h (same span.low (at_most_itself span.low)))
    (All-nil (HasVersion version))
each_has version span (next ∷ spans) answers o h same =
    All-cons (HasVersion version) span (next ∷ spans)
    (first_has version span (next ∷ spans) answers o h (same span.low (at_most_itself span.low)))
    (each_has version next spans answers o.2 h
    (λ p k.
    let past = at_most_trans o.1 k in
    sym (answer_after number_spans span (next ∷ spans) p past) ∙ same p (at_most_trans (below_is_at_most o.0) past)))

pub answers_of_version : (version : Version) (spans joined : List Span) → AreInOrder joined
    → ((p : Position) → span_answer joined p ≡ version_answer version spans p)
    → All (λ (s : Span). IsOfVersion Two s.answer) spans → All (λ (s : Span). IsOfVersion version s.answer) joined
answers_of_version version spans [] o same h = All-nil (HasVersion version)
answers_of_version version spans (span ∷ joined) o same h =
    each_has version span joined (version_answer version spans) o
    (λ p. narrowed_has version (span_answer spans p) (answer_of Two spans p h)) (λ p k. same p)
