-- Joining a span with one that touches it and answers the same.
use Rattle.std.proofs.Common.{append_assoc, ◌≡◌, ◌≢◌, ◌∙◌, List, [], ◌∷◌, ◌++◌, subst, None, false, arith}
use Rattle.lnt_spans.specs.Positions.{IsBelow, Position}
use Rattle.lnt_spans.specs.Spans.{number_spans, Answer, AreInOrder, span_answer, span_in_version, version_answer, Version, Span}
use Rattle.lnt_spans.specs.SpanKinds.{DifferWhereTheyTouch, answer_held}
use Rattle.lnt_spans.proofs.AnsweringLaws.{answer_in, answer_before, answer_after, answer_same, first_holds, rest_in_order}
use Rattle.lnt_spans.proofs.PositionLaws.{order_cases, below_at_most, below_is_at_most}
use Rattle.lnt_spans.proofs.ToldLaws.{told, told_answer, told_order, told_spans}
use Rattle.std.proofs.lemmas.Grind.{common_steps}

-- a default for list indices out of bounds
abbrev pub no_span : Span
no_span = record {
  low = record { address = 0; op = 0 };
  high = record { address = 0; op = 0 };
  answer = record { unit = 0; file = 0; line = 0; column = 0; is_stmt = false; more = None };
}

-- ---- two spans joined, after others

-- the first span, extended to another end
abbrev pub joined_span : Span → Position → Span
joined_span first high = record first { high = high }

joined_holds : (first next : Span) → first.high ≡ next.low → IsBelow first.low first.high → IsBelow next.low next.high
    → IsBelow first.low next.high
joined_holds first next touch h k = below_at_most (subst (λ (p : Position). IsBelow first.low p) touch h) (below_is_at_most k)

pub join_order : (done : List Span) (first next : Span) (more : List Span) → first.high ≡ next.low
    → AreInOrder (done ++ first ∷ next ∷ more) → AreInOrder (done ++ joined_span first next.high ∷ more)
join_order [] first next [] touch h = joined_holds first next touch h.0 h.2
join_order [] first next (m ∷ more) touch h = (joined_holds first next touch h.0 h.2.0, h.2.1, h.2.2)
join_order (d ∷ []) first next more touch h = (h.0, h.1, join_order [] first next more touch h.2)
join_order (d ∷ e ∷ done) first next more touch h = (h.0, h.1, join_order (e ∷ done) first next more touch h.2)

answer_joined : {X : Type 0} (tell : Answer → X) (first next : Span) (more : List Span) (p : Position) → first.high ≡ next.low
    → tell first.answer ≡ tell next.answer → IsBelow first.low first.high → IsBelow next.low next.high
    → answer_held (told_spans tell) (joined_span first next.high ∷ more) p ≡ answer_held (told_spans tell) (first ∷ next ∷ more) p
answer_joined tell first next more p touch same h k =
    grind (
      arith,
      common_steps,
      order_cases,
      below_at_most,
      below_is_at_most,
      answer_before (told_spans tell),
      answer_in (told_spans tell),
      answer_after (told_spans tell),
    )

-- if both are told alike
pub join_answer : {X : Type 0} (tell : Answer → X) (done : List Span) (first next : Span) (more : List Span) (p : Position)
    → first.high ≡ next.low → tell first.answer ≡ tell next.answer → AreInOrder (done ++ first ∷ next ∷ more)
    → answer_held (told_spans tell) (done ++ joined_span first next.high ∷ more) p
    ≡ answer_held (told_spans tell) (done ++ first ∷ next ∷ more) p
join_answer tell [] first next more p touch same h =
    answer_joined tell first next more p touch same h.0 (first_holds number_spans next more h.2)
join_answer tell (d ∷ done) first next more p touch same h =
    answer_same (told_spans tell) d (done ++ joined_span first next.high ∷ more) (done ++ first ∷ next ∷ more) p
    (join_answer tell done first next more p touch same (rest_in_order number_spans d (done ++ first ∷ next ∷ more) h))

pub join_differ : (done : List Span) (first : Span) (high : Position) → DifferWhereTheyTouch number_spans (done ++ first ∷ [])
    → DifferWhereTheyTouch number_spans (done ++ joined_span first high ∷ [])
join_differ [] first high h = tt
join_differ (d ∷ []) first high h = (h.0, tt)
join_differ (d ∷ e ∷ done) first high h = (h.0, join_differ (e ∷ done) first high h.1)

pub push_differ : (done : List Span) (first next : Span) → DifferWhereTheyTouch number_spans (done ++ first ∷ [])
    → (first.high ≡ next.low → first.answer ≢ next.answer)
    → DifferWhereTheyTouch number_spans ((done ++ first ∷ []) ++ next ∷ [])
push_differ [] first next h k = (k, tt)
push_differ (d ∷ []) first next h k = (h.0, (k, tt))
push_differ (d ∷ e ∷ done) first next h k = (h.0, push_differ (e ∷ done) first next h.1 k)

-- ---- the loop

-- the loop's state: the spans joined so far, the span that may still grow, and the spans not looked at yet
pub record Joining (spans done : List Span) (first : Span) (rest : List Span) : Type 0 where
  pub order : AreInOrder (done ++ first ∷ rest)
  pub differ : DifferWhereTheyTouch number_spans (done ++ first ∷ [])
  pub same : (p : Position) → span_answer (done ++ first ∷ rest) p ≡ span_answer spans p

pub keep_join : (spans done : List Span) (first next : Span) (more : List Span) → Joining spans done first (next ∷ more)
    → (first.high ≡ next.low) × (first.answer ≡ next.answer) → Joining spans done (joined_span first next.high) more
keep_join spans done first next more j e = record {
  order = join_order done first next more e.0 j.order;
  differ = join_differ done first next.high j.differ;
  same = λ p. join_answer (λ (answer : Answer). answer) done first next more p e.0 e.1 j.order ∙ j.same p;
}

pub keep_push : (spans done : List Span) (first next : Span) (more : List Span) → Joining spans done first (next ∷ more)
    → (first.high ≡ next.low → first.answer ≢ next.answer) → Joining spans (done ++ first ∷ []) next more
keep_push spans done first next more j e = grind (arith, common_steps, append_assoc, push_differ)

-- ---- the first span, and the end

pub join_start : (version : Version) (spans rest : List Span) (first : Span) → spans ≡ first ∷ rest → AreInOrder spans
    → Joining (told version spans) [] (span_in_version version first) (told version rest)
join_start version spans rest first e o = grind (arith, common_steps, told_order)

pub join_end : (version : Version) (spans done rest : List Span) (last : Span) → Joining (told version spans) done last (told version rest)
    → rest ≡ []
    → (p : Position) → span_answer (done ++ last ∷ []) p ≡ version_answer version spans p
join_end version spans done rest last j e p = grind (arith, common_steps, told, told_answer)
