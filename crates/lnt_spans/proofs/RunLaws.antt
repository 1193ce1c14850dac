-- Two sides are followed run by run, whatever they answer: how long both answers stay, and that what was told so far of where
-- they differ is a prefix of all that there is to tell.
use Rattle.std.proofs.Common.{◌≡◌, ◌≢◌, ◌∙◌, ℕ, zero, suc, ◌+◌, ◌<◌, ◌≤◌, List, [], ◌∷◌, ◌++◌, ◌⊎◌, inl, inr, ap, Some, None, Option, arith}
use Rattle.std.proofs.Common.{length, append-nil, append_assoc, refl, subst, sym, option_map}
use Rattle.std.proofs.lemmas.Option.{same_Some}
use Rattle.lnt_spans.specs.AnyStretches.{AreAnswers, Stay}
use Rattle.lnt_spans.specs.Positions.{IsBelow, IsAtMost, Position}
use Rattle.lnt_spans.specs.Remaining.{EndsAfter}
use Rattle.lnt_spans.specs.Spans.{number_spans, AreInOrder, span_answer, Answer, Span}
use Rattle.lnt_spans.specs.Runs.{IsBefore, IsRun, IsUpTo, run_end}
use Rattle.lnt_spans.proofs.AnsweringLaws.{answer_after, answer_in, first_holds, none_before, rest_in_order}
use Rattle.lnt_spans.proofs.PositionLaws.{at_most_below, at_most_itself, at_most_trans, below_at_most, below_is_at_most}
use Rattle.lnt_spans.proofs.PositionLaws.{order_cases, order_three, test_below, test_not_below}
use Rattle.lnt_spans.proofs.AheadLaws.{next_after}
use Rattle.std.proofs.lemmas.Grind.{common_steps}

-- ---- one side, run by run

end_gap : (span : Span) (at : Position) → IsBelow at span.low → Some span.low ≡ run_end at (Some span)
end_gap span at lt = rw (test_below at span.low lt) refl

end_inside : (span : Span) (at : Position) → IsAtMost span.low at → Some span.high ≡ run_end at (Some span)
end_inside span at le = rw (test_not_below at span.low le) refl

-- What lasts no longer than the run of the next span ends in the span or before it.
pub up_to_high : (span : Span) (more : List Span) (at end : Position) → AreInOrder (span ∷ more) → IsUpTo end (run_end at (Some span))
    → IsAtMost end span.high
up_to_high span more at end o h =
    grind (arith, common_steps, order_cases, at_most_trans, same_Some, end_gap, below_is_at_most, first_holds number_spans, end_inside)

-- the spans after it end later
pub after_high : (span : Span) (more : List Span) (end : Position) → AreInOrder (span ∷ more) → IsAtMost end span.high → EndsAfter end more
after_high span more end o le = grind (arith, common_steps, at_most_below, at_most_trans, first_holds number_spans)

-- the part of a run from a position in it on
later_run : {X : Type 0} (answers : Position → Option X) (at from end : Position) (answer : Option X) → IsAtMost at from
    → IsBelow from end → IsRun answers at answer (Some end) → IsRun answers from answer (Some end)
later_run answers at from end answer le lt run = record { past = lt; says = λ p h k. run.says p (at_most_trans le h) k }

-- From the position on, each of these answers lasts up to its end, one after another, and after the last there is none.
abbrev pub AreRuns : {X : Type 0} → (Position → Option X) → Position → List (Option X × Position) → Type 0
AreRuns answers at [] = (p : Position) → IsAtMost at p → answers p ≡ None
AreRuns answers at (run ∷ runs) = IsRun answers at run.0 (Some run.1) × AreRuns answers run.1 runs

abbrev pub HasRuns : {X : Type 0} → (Position → Option X) → Position → Type 0
HasRuns {X} answers at = (runs : List (Option X × Position)) × AreRuns answers at runs

-- the runs of a first span, and then those of the spans after it
pub first_runs : {X : Type 0} (answers : Position → Option X) (at low high : Position) (answer : X) → IsBelow low high → IsBelow at high
    → ((p : Position) → IsAtMost at p → IsBelow p low → answers p ≡ None)
    → ((p : Position) → IsAtMost at p → IsAtMost low p → IsBelow p high → answers p ≡ Some answer)
    → HasRuns answers high → HasRuns answers at
first_runs answers at low high answer holds past gap inside next = elim (order_cases at low) [
  | inl before ↦ (
    (None, low) ∷ (Some answer, high) ∷ next.0,
    (
      record { past = before; says = gap },
      (record { past = holds; says = λ p h k. inside p (at_most_trans (below_is_at_most before) h) h k }, next.1),
    ),
  )
  | inr within ↦ (
    (Some answer, high) ∷ next.0,
    (record { past = past; says = λ p h k. inside p h (at_most_trans within h) k }, next.1),
  )
]

-- the runs of spans whose answers are told in some way
pub span_runs : {X : Type 0} (tell : Answer → X) (rest : List Span) (at : Position) (answers : Position → Option X) → AreInOrder rest
    → EndsAfter at rest → ((p : Position) → IsAtMost at p → option_map tell (span_answer rest p) ≡ answers p) → HasRuns answers at
span_runs tell [] at answers o past same = ([], λ p h. sym (same p h))
span_runs tell (span ∷ more) at answers o past same =
    first_runs answers at span.low span.high (tell span.answer) (first_holds number_spans span more o) past
    (λ p h k. sym (same p h) ∙ ap (option_map tell) (none_before number_spans span more p o k))
    (λ p h le lt. sym (same p h) ∙ ap (option_map tell) (answer_in number_spans span more p le lt))
    (span_runs tell more span.high answers (rest_in_order number_spans span more o) (next_after span more o)
    (λ p h. sym (ap (option_map tell) (answer_after number_spans span more p h)) ∙ same p (at_most_trans (below_is_at_most past) h)))

-- ---- both sides, to the earlier of their ends

-- right below the end the answers are those of the run
pub last_answers : {X : Type 0} (f g : Position → Option X) (at end : Position) (s t : Option X) → IsBelow at end → Stay f g s t at end
    → (p : Position) → IsBelow p end
    → (q : Position) × IsAtMost p q × IsBelow q end × ((f q ≡ g q) ⊎ AreAnswers f g s t q)
last_answers f g at end s t lt stay p h = elim (order_cases p at) [
  | inl early ↦ (at, below_is_at_most early, lt, inr (stay at (at_most_itself at) lt))
  | inr late ↦ (p, at_most_itself p, h, inr (stay p late h))
]

pub stay_on : {X : Type 0} (f g : Position → Option X) (s t : Option X) (at end p : Position) → Stay f g s t at end
    → Stay f g s t end p → Stay f g s t at p
stay_on f g s t at end p one two q h k = elim (order_cases q end) [ inl early ↦ one q h early | inr late ↦ two q late k ]

before_end : (p q : Position) (end : Option Position) → IsBelow p q → IsUpTo q end → IsBefore p end
before_end p q end lt up = grind (arith, common_steps, below_at_most)

-- From `at` up to `end` both answers stay these two.
pub record Moves {X : Type 0} (f g : Position → Option X) (at end : Position) (s t : Option X) : Type 0 where
  pub below : IsBelow at end
  pub stay : Stay f g s t at end

pub moves : {X : Type 0} (f g : Position → Option X) (at end : Position) (s t : Option X) (one other : Option Position) → IsRun f at s one
    → IsRun g at t other → IsUpTo end one → IsUpTo end other
    → (one ≡ Some end) ⊎ (other ≡ Some end) → Moves f g at end s t
moves f g at end s t one other a b up up' is = grind (arith, common_steps, before_end)

-- fewer runs are left, since one side's has ended
pub both_fewer : (a b a' b' : ℕ) {P Q : Type 0} → (a' ≤ a) × (P → a' < a) → (b' ≤ b) × (Q → b' < b) → P ⊎ Q → a' + b' < a + b
both_fewer a b a' b' h k m = grind (arith, common_steps)

-- ---- what is told of both sides, to their end

-- Any two answers are the same or not.
abbrev pub AreDecided : Type 0 → Type 0
AreDecided X = (a b : Option X) → (a ≡ b) ⊎ (a ≢ b)

-- How it goes on from a position up to an end, where `Told` says what was told below the position, after which last answers,
-- and `AllTold` that it is all that there is to tell.
pub record GoesOn {X D : Type 0} (f g : Position → Option X) (begun : Position → Option X → Option X → D)
    (Told : Position → Option X → Option X → List D → Type 0) (AllTold : List D → Type 0) : Type 0 where
  -- both sides keep their last answers
  pub kept : (at end : Position) (s t : Option X) (told : List D) → Told at s t told → IsBelow at end → Stay f g s t at end
      → Told end s t told
  -- they answer alike
  pub alike : (at end : Position) (s t s' t' : Option X) (told : List D) → Told at s t told → IsBelow at end → Stay f g s' t' at end
      → s' ≡ t' → Told end s' t' told
  -- two other answers begin, which differ
  pub other : (at end : Position) (s t s' t' : Option X) (told : List D) → Told at s t told → IsBelow at end → Stay f g s' t' at end
      → t' ≢ s' → (s' ≡ s → t' ≡ t → ⊥) → Told end s' t' (told ++ begun at s' t' ∷ [])
  -- neither side has an answer any more
  pub ended : (at : Position) (s t : Option X) (told : List D) → Told at s t told → ((p : Position) → IsAtMost at p → f p ≡ None)
      → ((p : Position) → IsAtMost at p → g p ≡ None) → AllTold told

module _ {X D : Type 0} (same : AreDecided X) (f g : Position → Option X) (begun : Position → Option X → Option X → D)
    (Told : Position → Option X → Option X → List D → Type 0) (AllTold : List D → Type 0) (on : GoesOn f g begun Told AllTold) where
  -- With others after these it is told so up to the end.
  abbrev ToldTo : Position → Option X → Option X → List D → Type 0
  ToldTo end s t told = (more : List D) × Told end s t (told ++ more)

  abbrev ToldOn : List D → Type 0
  ToldOn told = (more : List D) × AllTold (told ++ more)

  nothing_more : (P : List D → Type 0) (told : List D) → P told → (more : List D) × P (told ++ more)
  nothing_more P told h = ([], subst P (sym (append-nil told)) h)

  -- both answers stay the same up to an end
  to_end : (at end : Position) (s t s' t' : Option X) (told : List D) → Told at s t told → IsBelow at end → Stay f g s' t' at end
      → ToldTo end s' t' told
  to_end at end s t s' t' told b lt stay =
      elim (same s' t') [
        | inl alike ↦ nothing_more (Told end s' t') told (on.alike at end s t s' t' told b lt stay alike)
        | inr differ ↦ elim (same s' s) [
          | inr other ↦ new differ (λ e e'. other e)
          | inl as_was ↦ elim (same t' t) [
            | inr other ↦ new differ (λ e e'. other e')
            | inl too ↦ nothing_more (Told end s' t') told
                (rw (as_was, too) (on.kept at end s t told b lt (rw (as_was, too) at stay)))
          ]
        ]
      ]
    where
      new : s' ≢ t' → (s' ≡ s → t' ≡ t → ⊥) → ToldTo end s' t' told
      new differ other = (begun at s' t' ∷ [], on.other at end s t s' t' told b lt stay (λ e. differ (sym e)) other)

  joined_on : (told more : List D) → ToldOn (told ++ more) → ToldOn told
  joined_on told more next = (more ++ next.0, subst AllTold (append_assoc told more next.0) next.1)

  pub runs_on : (count : ℕ) (at : Position) (s t : Option X) (told : List D) (ones others : List (Option X × Position))
      → length ones + length others ≤ count → AreRuns f at ones → AreRuns g at others → Told at s t told
      → (more : List D) × AllTold (told ++ more)
  runs_on count at s t told [] [] le a b below = nothing_more AllTold told (on.ended at s t told below a b)
  runs_on zero at s t told (one ∷ ones) others le a b below = absurd (omega (arith, le))
  runs_on zero at s t told [] (other ∷ others) le a b below = absurd (omega (arith, le))
  runs_on (suc count) at s t told (one ∷ ones) [] le a b below =
      let next = to_end at one.1 s t one.0 None told below a.0.past
      (λ p h k. record { section = a.0.says p h k; table = b p h }) in
      joined_on told next.0
      (runs_on count one.1 one.0 None (told ++ next.0) ones [] (omega (arith, le)) a.1
      (λ p h. b p (at_most_trans (below_is_at_most a.0.past) h)) next.1)
  runs_on (suc count) at s t told [] (other ∷ others) le a b below =
      let next = to_end at other.1 s t None other.0 told below b.0.past
      (λ p h k. record { section = a p h; table = b.0.says p h k }) in
      joined_on told next.0
      (runs_on count other.1 None other.0 (told ++ next.0) [] others (omega (arith, le))
      (λ p h. a p (at_most_trans (below_is_at_most b.0.past) h)) b.1 next.1)
  runs_on (suc count) at s t told (one ∷ ones) (other ∷ others) le a b below = elim (order_three one.1 other.1) [
    | inl first ↦
        let next = to_end at one.1 s t one.0 other.0 told below a.0.past
        (λ p h k. record { section = a.0.says p h k; table = b.0.says p h (below_at_most k (below_is_at_most first)) }) in
        joined_on told next.0
        (runs_on count one.1 one.0 other.0 (told ++ next.0) ones (other ∷ others) (omega (arith, le)) a.1
        (later_run g at one.1 other.1 other.0 (below_is_at_most a.0.past) first b.0, b.1) next.1)
    | inr (inl equal) ↦
        let next = to_end at one.1 s t one.0 other.0 told below a.0.past
        (λ p h k. record { section = a.0.says p h k; table = b.0.says p h (subst (IsBelow p) equal k) }) in
        joined_on told next.0
        (runs_on count one.1 one.0 other.0 (told ++ next.0) ones others (omega (arith, le)) a.1
        (subst (λ (q : Position). AreRuns g q others) (sym equal) b.1) next.1)
    | inr (inr first) ↦
        let next = to_end at other.1 s t one.0 other.0 told below b.0.past
        (λ p h k. record { section = a.0.says p h (below_at_most k (below_is_at_most first)); table = b.0.says p h k }) in
        joined_on told next.0
        (runs_on count other.1 one.0 other.0 (told ++ next.0) (one ∷ ones) others (omega (arith, le))
        (later_run f at other.1 one.1 one.0 (below_is_at_most b.0.past) first a.0, a.1) b.1 next.1)
  ]

  -- What was told so far is a prefix of all.
  pub all_told : (at : Position) (s t : Option X) (told : List D) → HasRuns f at → HasRuns g at → Told at s t told
      → (more : List D) × AllTold (told ++ more)
  all_told at s t told ones others below =
      runs_on (length ones.0 + length others.0) at s t told ones.0 others.0 (omega arith) ones.1 others.1 below
