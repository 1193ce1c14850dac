-- Both sides, followed step by step as their stretches are told, and where nothing is told yet.
use Rattle.std.proofs.Common.{◌≡◌, ◌≢◌, ◌∙◌, ℕ, ◌+◌, ◌^◌, ◌≤◌, Bool, true, false, cond, List, [], ◌∷◌, ◌++◌, ◌⊎◌, inl, inr, arith, is_some}
use Rattle.std.proofs.Common.{ap}
use Rattle.std.proofs.Common.{sym, subst, Some, None, Option, option_map, append-nil, refl}
use Rattle.std.specs.List.{AllByRecursion}
use Rattle.lnt_spans.specs.Remaining.{IsAhead, Ahead}
use Rattle.lnt_spans.specs.Answers.{in_version}
use Rattle.lnt_spans.specs.AnyStretches.{AreAllStretches, AreRising, EndsAt, IsInOne, LastsTo, Stretch, stretch_at, AreToldBelow}
use Rattle.lnt_spans.specs.Spans.{number_spans, IsTold, end_of, AreInOrder, span_answer, version_answer, Answer, Version, Span}
use Rattle.lnt_spans.specs.Partial.{addresses_answered, addresses_of, where_missed}
use Rattle.lnt_spans.specs.Stretching.{HasFoundStretches, HasBegun, HasGiven, IsGoing, Stretches}
use Rattle.lnt_spans.specs.Laws.{FirstStretch}
use Rattle.lnt_spans.specs.Merged.{until}
use Rattle.lnt_spans.specs.Positions.{IsBelow, IsAtMost, Position}
use Rattle.lnt_spans.specs.Runs.{IsAheadAt, IsRun, IsSideAt, IsUpTo}
use Rattle.lnt_spans.specs.Stepping.{IsKnown, answered_between, missed_between}
use Rattle.lnt_spans.proofs.AnsweringLaws.{back_in_order, prefix_in_order}
use Rattle.lnt_spans.proofs.CountLemmas.{added_range, addresses_of_spans, most_addresses, no_addresses, same_addresses}
use Rattle.lnt_spans.proofs.MergedLemmas.{all_counted, missed_here, missed_said, missed_unanswered, unanswered_same, until_below}
use Rattle.lnt_spans.proofs.MergedLemmas.{until_from}
use Rattle.lnt_spans.proofs.PassedLaws.{answer_below, answer_from, ends_after, told_prefix, told_same}
use Rattle.lnt_spans.proofs.PositionLaws.{at_most_itself, at_most_trans, below_at_most, below_is_at_most, not_both, order_cases}
use Rattle.lnt_spans.proofs.RunLaws.{Moves, moves, stay_on}
use Rattle.lnt_spans.proofs.SideLemmas.{side_run}
use Rattle.lnt_spans.proofs.ToldStretchLaws.{step_known, told_all, told_new, told_none}
use Rattle.std.proofs.lemmas.Grind.{common_steps}

-- ---- a step

-- Both answers stay up to the earlier of their ends.
pub both_move : {S N A V X : Type 0} (to_come : S → List Span → Type 0) (is_at : N → Position → (Position → Option V) → Type 0)
    (value_of : A → V) (tell : Answer → X) (said : A → X) (section : Ahead S) (table : N) (at end : Position) (f g : Position → Option X)
    (a : Option Answer) (b : Option A) (one other : Option Position) → IsSideAt (IsAheadAt to_come) (λ answer. answer) tell section at f
    → IsSideAt is_at value_of said table at g
    → ((values : Position → Option Answer) → IsAheadAt to_come section at values → IsRun values at (option_map (λ answer. answer) a) one)
    → ((values : Position → Option V) → is_at table at values → IsRun values at (option_map value_of b) other)
    → IsUpTo end one × IsUpTo end other × ((one ≡ Some end) ⊎ (other ≡ Some end))
    → Moves f g at end (option_map tell a) (option_map said b)
both_move to_come is_at value_of tell said section table at end f g a b one other h k runs runs' ends =
    moves f g at end (option_map tell a) (option_map said b) one other
    (side_run (IsAheadAt to_come) (λ answer. answer) tell section at f a one h runs)
    (side_run is_at value_of said table at g b other k runs') ends.0 ends.1 ends.2

-- ---- what a step tells

pub step_told : {X : Type 0} (f g : Position → Option X) (at end : Position) (s t s' t' : Option X) (told : List (Stretch X)) (known : Bool)
    → AreToldBelow f g at s t told → Moves f g at end s' t' → IsKnown known s' t' s t
    → AreToldBelow f g end s' t' (cond known told (told ++ stretch_at at s' t' ∷ []))
step_told f g at end s t s' t' told true b moves known = step_known f g at end s t s' t' told b moves known
step_told f g at end s t s' t' told false b moves known = told_new f g at end s t s' t' told b moves.below moves.stay known.0 known.1

-- ---- what a step counts

-- from `at` up to `end` a side has this answer
answered_on : {X A : Type 0} (tell : A → X) (f : Position → Option X) (at end : Position) (a : Option A) → IsBelow at end
    → ((p : Position) → IsAtMost at p → IsBelow p end → f p ≡ option_map tell a)
    → addresses_answered (until end f) ≡ addresses_answered (until at f) + answered_between a at end
answered_on tell f at end None lt stay = let same = unanswered_same f at end (below_is_at_most lt) stay in omega (arith, same)
answered_on tell f at end (Some a) lt stay =
    added_range (until at f) (until end f) at end (record {
      added = λ p h k. ap is_some (until_below end p f k ∙ stay p h k);
      unanswered = λ p h k. until_from at p f h;
      below = λ p early. ap is_some (until_below end p f (below_at_most early (below_is_at_most lt)) ∙ sym (until_below at p f early));
      above = λ p late. ap is_some (until_from end p f late ∙ sym (until_from at p f (below_is_at_most (below_at_most lt late))));
    })

missed_on : {X A B : Type 0} (tell : A → X) (said : B → X) (f g : Position → Option X) (at end : Position) (a : Option A) (b : Option B)
    → Moves f g at end (option_map tell a) (option_map said b)
    → addresses_answered (until end (where_missed g f)) ≡ addresses_answered (until at (where_missed g f)) + missed_between a b at end
missed_on tell said f g at end None b moves =
    answered_on tell (where_missed g f) at end None moves.below (λ p h k. missed_unanswered g f p (moves.stay p h k).section)
missed_on tell said f g at end (Some a) (Some b) moves =
    answered_on tell (where_missed g f) at end None moves.below (λ p h k. missed_said g f p (said b) (moves.stay p h k).table)
missed_on tell said f g at end (Some a) None moves =
    answered_on tell (where_missed g f) at end (Some a) moves.below
    (λ p h k. missed_here g f p (moves.stay p h k).table ∙ (moves.stay p h k).section)

counted_on : {X : Type 0} (answers : Position → Option X) (at end : Position) (more old new : ℕ)
    → addresses_answered (until end answers) ≡ addresses_answered (until at answers) + more
    → old ≡ addresses_answered (until at answers) → (old + more ≤ 2 ^ 64 → new ≡ old + more)
    → new ≡ addresses_answered (until end answers)
counted_on answers at end more old new on counted adds =
    let sum = adds (omega (arith, on, most_addresses (until end answers), counted)) in
    omega (arith, on, sum, counted)

pub step_answered : {X A : Type 0} (tell : A → X) (f g : Position → Option X) (at end : Position) (a : Option A) (t : Option X)
    (old new : ℕ) → Moves f g at end (option_map tell a) t → old ≡ addresses_answered (until at f)
    → (old + answered_between a at end ≤ 2 ^ 64 → new ≡ old + answered_between a at end) → new ≡ addresses_answered (until end f)
step_answered tell f g at end a t old new moves =
    counted_on f at end (answered_between a at end) old new
    (answered_on tell f at end a moves.below (λ p h k. (moves.stay p h k).section))

pub step_counted : {X A B : Type 0} (tell : A → X) (said : B → X) (f g : Position → Option X) (at end : Position) (a : Option A)
    (b : Option B) (old new : ℕ) → Moves f g at end (option_map tell a) (option_map said b)
    → old ≡ addresses_answered (until at (where_missed g f))
    → (old + missed_between a b at end ≤ 2 ^ 64 → new ≡ old + missed_between a b at end)
    → new ≡ addresses_answered (until end (where_missed g f))
step_counted tell said f g at end a b old new moves =
    counted_on (where_missed g f) at end (missed_between a b at end) old new (missed_on tell said f g at end a b moves)

-- ---- where neither side has an answer any more

pub nothing_from : {X A : Type 0} (said : A → X) (answers : Position → Option X) (at : Position) (answer : Option A) (end : Option Position)
    → IsRun answers at (option_map said answer) end → end ≡ None → answer ≡ None
    → (p : Position) → IsAtMost at p → answers p ≡ None
nothing_from said answers at answer end run e e' p h = grind (arith, common_steps)

pub given_all : {S N A V X : Type 0} (to_come : S → List Span → Type 0) (is_at : N → Position → (Position → Option V) → Type 0)
    (value_of : A → V) (tell : Answer → X) (said : A → X) (stretches : Stretches S N A) (f g : Position → Option X)
    (told : List (Stretch X)) (a : Option Answer) (b : Option A) (one other : Option Position)
    → HasGiven to_come is_at value_of tell said stretches f g told
    → IsRun f stretches.at (option_map tell a) one → IsRun g stretches.at (option_map said b) other
    → (one ≡ None) × (other ≡ None) → a ≡ None → b ≡ None
    → AreAllStretches f g told × (stretches.missed ≡ addresses_answered (where_missed g f)) × (stretches.all ≡ addresses_answered f)
given_all to_come is_at value_of tell said stretches f g told a b one other h run run' ends e e' =
    let none = nothing_from tell f stretches.at a one run ends.0 e in (
      told_all f g stretches.at _ _ told h.below none (nothing_from said g stretches.at b other run' ends.1 e'),
      h.counted ∙ all_counted (where_missed g f) stretches.at (λ p k. missed_unanswered g f p (none p k)),
      h.all_counted ∙ all_counted f stretches.at none,
    )

-- ---- the stretch that was told last

module _ {S N A X : Type 0} (tell : Answer → X) (said : A → X) (stretches : Stretches S N A) (f g : Position → Option X) (last : Stretch X)
  where
    -- neither side has an answer any more
    pub ended_last : IsGoing tell said stretches f g last → f stretches.at ≡ None → g stretches.at ≡ None → EndsAt f g last stretches.at
    ended_last going none none' = record {
      lasts = going.lasts;
      over = λ is. going.differ (sym is.table ∙ none' ∙ sym none ∙ is.section);
    }

    -- one of the answers is another one
    pub other_last : (end : Position) (s t : Option X) → IsGoing tell said stretches f g last → Moves f g stretches.at end s t
        → (s ≡ option_map tell stretches.before.section → t ≢ option_map said stretches.before.table) → EndsAt f g last stretches.at
    other_last end s t going moves other =
        let here = moves.stay stretches.at (at_most_itself stretches.at) moves.below in
        record {
          lasts = going.lasts;
          over = λ is. other (sym here.section ∙ is.section ∙ sym going.section) (sym here.table ∙ is.table ∙ sym going.table);
        }

    -- both answers are the same
    pub kept_last : (end : Position) (s t : Option X) → IsGoing tell said stretches f g last → Moves f g stretches.at end s t
        → s ≡ option_map tell stretches.before.section → t ≡ option_map said stretches.before.table → LastsTo f g last end
    kept_last end s t going moves e e' = record {
      past = below_at_most going.lasts.past (below_is_at_most moves.below);
      stay = stay_on f g last.by_section last.by_table last.position stretches.at end going.lasts.stay
          (λ p h k. let on = moves.stay p h k in
          record { section = on.section ∙ e ∙ going.section; table = on.table ∙ e' ∙ going.table });
    }

-- ---- where nothing is told

pub same_option : {X : Type 0} (answer : Option X) → option_map (λ answer. answer) answer ≡ answer
same_option answer = grind (arith, common_steps)

-- spans are told from the end of those that were passed on
pub begins_at : {S X : Type 0} (to_come : S → List Span → Type 0) (tell : Answer → X) (ahead : Ahead S) (passed spans : List Span)
    (answers : Position → Option X) → IsAhead to_come ahead spans → AreInOrder (passed ++ spans)
    → ((p : Position) → option_map tell (span_answer (passed ++ spans) p) ≡ answers p)
    → IsSideAt (IsAheadAt to_come) (λ answer. answer) tell ahead (end_of passed) answers
begins_at to_come tell ahead passed spans answers coming order same = record {
  values = span_answer (passed ++ spans);
  valued = record {
    rest = spans;
    coming = coming;
    order = back_in_order number_spans passed spans order;
    past = ends_after passed spans order;
    same = λ p h. sym (answer_from passed spans p order h);
  };
  same = λ p h answer e. sym (same p) ∙ ap (option_map tell) (e ∙ same_option answer);
}

-- where both sides answer alike nothing is missed
pub alike_missed : {X : Type 0} (f g : Position → Option X) (p : Position) → f p ≡ g p → where_missed g f p ≡ None
alike_missed f g p e = grind (arith, common_steps)

pub begun_given : {S N A V X : Type 0} (to_come : S → List Span → Type 0) (is_at : N → Position → (Position → Option V) → Type 0)
    (value_of : A → V) (tell : Answer → X) (said : A → X) (section : S) (table : N) (at : Position) (answered : ℕ)
    (stretches : Stretches S N A) (f g : Position → Option X) → HasBegun to_come section table at answered stretches
    → answered ≡ addresses_answered (until at f)
    → IsSideAt (IsAheadAt to_come) (λ answer. answer) tell stretches.section at f → IsSideAt is_at value_of said table at g
    → ((p : Position) → IsBelow p at → f p ≡ g p) → HasGiven to_come is_at value_of tell said stretches f g []
begun_given to_come is_at value_of tell said section table at answered stretches f g b counted one other same =
    grind (arith, common_steps, told_none, no_addresses, order_cases, until_below, alike_missed, until_from)

-- the spans that were passed on answer where the section does, up to their end
told_some : {X : Type 0} (tell : Answer → X) (answer : Option Answer) → is_some (option_map tell answer) ≡ is_some answer
told_some tell None = refl
told_some tell (Some answer) = refl

none_passed : (passed : List Span) (p : Position) → AreInOrder passed → IsAtMost (end_of passed) p → span_answer passed p ≡ None
none_passed passed p order late =
    subst (λ (xs : List Span). span_answer xs p ≡ None) (append-nil passed)
    (answer_from passed [] p (subst AreInOrder (sym (append-nil passed)) order) late)

passed_answered : {X : Type 0} (tell : Answer → X) (f : Position → Option X) (passed spans : List Span) → AreInOrder (passed ++ spans)
    → ((p : Position) → option_map tell (span_answer (passed ++ spans) p) ≡ f p)
    → addresses_of passed ≡ addresses_answered (until (end_of passed) f)
passed_answered tell f passed spans order same =
    let own : AreInOrder passed = prefix_in_order number_spans passed spans order in
    sym (addresses_of_spans passed own)
    ∙ same_addresses (span_answer passed) (until (end_of passed) f) (λ p. elim (order_cases p (end_of passed)) [
      | inl early ↦
          sym (told_some tell (span_answer passed p))
          ∙ ap is_some (sym (ap (option_map tell) (answer_below passed spans p order early)) ∙ same p
          ∙ sym (until_below (end_of passed) p f early))
      | inr late ↦ ap is_some (none_passed passed p own late) ∙ ap is_some (sym (until_from (end_of passed) p f late))
    ])

pub noted_after : {S T : Type 0} (of_section : S → List Span → Type 0) (of_table : T → List Span → Type 0) (section : S) (table : Ahead T)
    (version : Version) (at : Position) (answered : ℕ) (stretches : Stretches S (Ahead T) Answer) (f : Position → Option Answer)
    (passed spans records : List Span) → HasBegun of_section section table at answered stretches → of_section section spans
    → IsAhead of_table table records → AreInOrder (passed ++ spans) → AreInOrder (passed ++ records)
    → AllByRecursion (IsTold version) (passed ++ records) → at ≡ end_of passed → answered ≡ addresses_of passed
    → ((p : Position) → version_answer version (passed ++ spans) p ≡ f p)
    → HasFoundStretches of_section of_table (record { version = version; stretches = stretches }) f (span_answer (passed ++ records)) []
noted_after of_section of_table section table version at answered stretches f passed spans records b a a' o o' t e counted same =
    begun_given of_section (IsAheadAt of_table) (λ answer. answer) (in_version version) (λ answer. answer) section table at answered
    stretches f (span_answer (passed ++ records)) b
    (rw e (counted ∙ passed_answered (in_version version) f passed spans o same))
    (rw e (begins_at of_section (in_version version) stretches.section passed spans f (b.ahead spans a) o same))
    (rw e (begins_at of_table (λ answer. answer) table passed records (span_answer (passed ++ records)) a' o'
    (λ p. same_option (span_answer (passed ++ records) p))))
    (λ p h.
    let below : IsBelow p (end_of passed) = subst (IsBelow p) e h in
    sym (same p) ∙ ap (option_map (in_version version)) (answer_below passed spans p o below)
    ∙ told_same version passed p (told_prefix version passed records t)
    ∙ sym (answer_below passed records p o' below))

-- ---- the first stretch

not_earlier : {X : Type 0} (f g : Position → Option X) (s : Stretch X) (stretches : List (Stretch X)) (p : Position)
    → AreRising (s ∷ stretches) → IsInOne f g (s ∷ stretches) p → IsAtMost s.position p
not_earlier f g s stretches p rising (inl h) = h.past
not_earlier f g s [] p rising (inr h) = absurd h
not_earlier f g s (next ∷ stretches) p rising (inr h) =
    at_most_trans (below_is_at_most rising.0) (not_earlier f g next stretches p rising.1 h)

pub first_stretch : FirstStretch
first_stretch f g k h = grind (arith, common_steps, not_both, not_earlier)
