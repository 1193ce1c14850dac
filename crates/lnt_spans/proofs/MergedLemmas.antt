-- A section's spans are compared with the records of a table, one after another, whatever a table contains of an answer.
use Rattle.std.proofs.Common.{◌≡◌, ◌≢◌, ◌∙◌, ℕ, ◌+◌, ◌^◌, ◌≤◌, true, false, List, [], ◌∷◌, inl, inr, refl, ap, sym, subst, Some, None}
use Rattle.std.proofs.Common.{Option, arith, is_some, option_map, IfSome, MatchOption, true≢false}
use Rattle.std.proofs.lemmas.Option.{same_Some}
use Rattle.lnt_spans.specs.declared.merge.Merge.{Merge}
use Rattle.lnt_spans.specs.Remaining.{IsAhead, Ahead}
use Rattle.lnt_spans.specs.AnyStretches.{Stretch}
use Rattle.lnt_spans.specs.Partial.{addresses_answered, addresses_between, IsRightAt, where_missed, where_none}
use Rattle.lnt_spans.specs.Differences.{IsFirstDifference}
use Rattle.lnt_spans.specs.Merged.{AnswersNothing, AreCounted, AreMergedBy, ArePassed, BeginFrom, HasGap, HasMerged}
use Rattle.lnt_spans.specs.Merged.{HasOneMore, IsMistakenIn, Says, answer_told, until}
use Rattle.lnt_spans.specs.Laws.{AnswersMore}
use Rattle.lnt_spans.specs.Positions.{IsBelow, IsAtMost, Position}
use Rattle.lnt_spans.specs.Spans.{number_spans, AreInOrder, span_answer, Answer, Span}
use Rattle.lnt_spans.proofs.AheadLaws.{left_first}
use Rattle.lnt_spans.proofs.AnsweringLaws.{answer_after, answer_in, first_holds, none_before, rest_in_order}
use Rattle.lnt_spans.proofs.CountLemmas.{added_range, most_addresses, no_addresses, same_addresses}
use Rattle.lnt_spans.proofs.PositionLaws.{at_most_below, at_most_itself, at_most_trans, below_at_most, below_is_at_most, origin_first}
use Rattle.lnt_spans.proofs.PositionLaws.{order_cases, test_below, test_not_below}
use Rattle.std.proofs.lemmas.Grind.{common_steps}

-- before the first span there is no answer
pub none_from : (rest : List Span) (p at : Position) → AreInOrder rest → BeginFrom at rest → IsBelow p at → span_answer rest p ≡ None
none_from rest p at o f h = grind (arith, common_steps, none_before number_spans, below_at_most)

after_first : (span : Span) (more : List Span) → AreInOrder (span ∷ more) → BeginFrom span.high more
after_first span more o = grind (arith, common_steps)

-- ---- what is passed

-- between `at` and the first span that is left the section answers nothing
section_none : {X : Type 0} (tell : Answer → X) (list : List Span) (by_table : Position → Option X) (at to p : Position)
    (AreLeft : List Span → Type 0) (passed : ArePassed tell list by_table at AreLeft) → BeginFrom to passed.rest → IsAtMost at p
    → IsBelow p to → answer_told tell list p ≡ None
section_none tell list by_table at to p AreLeft passed from h k = grind (arith, common_steps, none_from)

-- the spans that are left begin at or after `to`, and the table answers nothing up to there
gap_passed : {X : Type 0} (tell : Answer → X) (list : List Span) (by_table : Position → Option X) (at to : Position)
    (AreLeft : List Span → Type 0) → IsAtMost at to → AnswersNothing by_table at to
    → (passed : ArePassed tell list by_table at AreLeft) → BeginFrom to passed.rest → ArePassed tell list by_table to AreLeft
gap_passed tell list by_table at to AreLeft le gap passed from = record {
  rest = passed.rest;
  left = passed.left;
  order = passed.order;
  from = from;
  right = λ p h. elim (order_cases p at) [
    | inl early ↦ passed.right p early
    | inr late ↦ inl (gap p late h)
  ];
  same = λ p h. passed.same p (at_most_trans le h);
}

-- up to `end`, which lies in the next span, the table is right
abbrev IsRightUpTo : {X : Type 0} → (Answer → X) → List Span → (Position → Option X) → Position → Position → Type 0
IsRightUpTo tell list by_table at end =
    (p : Position) → IsAtMost at p → IsBelow p end → IsRightAt by_table (answer_told tell list) p

right_more : {X : Type 0} (tell : Answer → X) (list : List Span) (by_table : Position → Option X) (at end : Position)
    (AreLeft : List Span → Type 0) → ArePassed tell list by_table at AreLeft → IsRightUpTo tell list by_table at end
    → (p : Position) → IsBelow p end → IsRightAt by_table (answer_told tell list) p
right_more tell list by_table at end AreLeft passed h p lt = elim (order_cases p at) [
  | inl early ↦ passed.right p early
  | inr late ↦ h p late lt
]

-- the next span is passed as a whole
passed_span : {X : Type 0} (tell : Answer → X) (list : List Span) (by_table : Position → Option X) (at : Position)
    (AreLeft AreLeft' : List Span → Type 0) (span : Span) (more : List Span) (passed : ArePassed tell list by_table at AreLeft)
    → passed.rest ≡ span ∷ more → IsAtMost at span.high → IsRightUpTo tell list by_table at span.high → AreLeft' more
    → ArePassed tell list by_table span.high AreLeft'
passed_span tell list by_table at AreLeft AreLeft' span more passed e le h left =
    let order : AreInOrder (span ∷ more) = subst AreInOrder e passed.order in
    record {
      rest = more;
      left = left;
      order = rest_in_order number_spans span more order;
      from = after_first span more order;
      right = right_more tell list by_table at span.high AreLeft passed h;
      same = λ p k. passed.same p (at_most_trans le k) ∙ ap (λ (xs : List Span). span_answer xs p) e
          ∙ answer_after number_spans span more p k;
    }

-- it is passed up to a position in it
passed_part : {X : Type 0} (tell : Answer → X) (list : List Span) (by_table : Position → Option X) (at end : Position)
    (AreLeft AreLeft' : List Span → Type 0) (span : Span) (more : List Span) (passed : ArePassed tell list by_table at AreLeft)
    → passed.rest ≡ span ∷ more → IsAtMost at end → IsAtMost span.low end → IsBelow end span.high
    → IsRightUpTo tell list by_table at end → AreLeft' (record span { low = end } ∷ more) → ArePassed tell list by_table end AreLeft'
passed_part tell list by_table at end AreLeft AreLeft' span more passed e le from lt h left =
    let order : AreInOrder (span ∷ more) = subst AreInOrder e passed.order in
    let cut : Span = record span { low = end } in
    record {
      rest = cut ∷ more;
      left = left;
      order = cut_order more order;
      from = at_most_itself end;
      right = right_more tell list by_table at end AreLeft passed h;
      same = λ p k. passed.same p (at_most_trans le k) ∙ ap (λ (xs : List Span). span_answer xs p) e ∙ same p k;
    }
  where
    cut_order : (xs : List Span) → AreInOrder (span ∷ xs) → AreInOrder (record span { low = end } ∷ xs)
    cut_order [] o = lt
    cut_order (next ∷ xs) o = (lt, o.1, o.2)

    same : (p : Position) → IsAtMost end p → span_answer (span ∷ more) p ≡ span_answer (record span { low = end } ∷ more) p
    same p k = elim (order_cases p span.high) [
      | inl under ↦ answer_in number_spans span more p (at_most_trans from k) under
          ∙ sym (answer_in number_spans (record span { low = end }) more p k under)
      | inr over ↦ answer_after number_spans span more p over ∙ sym (answer_after number_spans (record span { low = end }) more p over)
    ]

-- ---- one record of the table

-- the first mistake lies at `at`
mistaken_at : {X : Type 0} (tell : Answer → X) (list : List Span) (by_table : Position → Option X) (low at high : Position)
    (AreLeft : List Span → Type 0) (said : X) (section : Option X) (mistake : Stretch X)
    (passed : ArePassed tell list by_table at AreLeft) → section ≡ answer_told tell passed.rest at → Some said ≢ section
    → IsAtMost low at → IsBelow at high → Says by_table low high said
    → mistake ≡ (record { position = at; by_section = section; by_table = Some said })
    → IsMistakenIn tell list by_table low high mistake
mistaken_at tell list by_table low at high AreLeft said section mistake passed s ne le lt says e =
    grind (arith, common_steps, at_most_itself)

-- the next span, if there is one, begins later
pub mistaken_gap : {S X : Type 0} (to_come : S → List Span → Type 0) (tell : Answer → X) (list : List Span) (by_table : Position → Option X)
    (ahead : Ahead S) (low high at : Position) (said : X) (mistake : Stretch X) → IfSome ahead.next (λ span. IsBelow at span.low)
    → IsAtMost low at → IsBelow at high → Says by_table low high said
    → mistake ≡ (record { position = at; by_section = None; by_table = Some said })
    → ArePassed tell list by_table at (IsAhead to_come ahead) → IsMistakenIn tell list by_table low high mistake
mistaken_gap {S} to_come tell list by_table ahead low high at said mistake gap le lt says e passed =
    grind (arith, common_steps, mistaken_at, none_before number_spans)

-- the next span answers differently
pub mistaken_other : {S X : Type 0} (to_come : S → List Span → Type 0) (tell : Answer → X) (list : List Span)
    (by_table : Position → Option X) (ahead : Ahead S) (low high at : Position) (said : X) (span : Span) (mistake : Stretch X)
    → ahead.next ≡ Some span → IsAtMost span.low at → tell span.answer ≢ said → IsAtMost low at → IsBelow at high
    → Says by_table low high said → mistake ≡ (record { position = at; by_section = Some (tell span.answer); by_table = Some said })
    → ArePassed tell list by_table at (IsAhead to_come ahead) → IsMistakenIn tell list by_table low high mistake
mistaken_other to_come tell list by_table ahead low high at said span mistake is begun ne le lt says e passed =
    grind (arith, common_steps, left_first, mistaken_at, answer_in number_spans, at_most_below, first_holds number_spans, same_Some)

-- up to `end` the table says what the next span answers
right_up_to : {X : Type 0} (tell : Answer → X) (list : List Span) (by_table : Position → Option X) (low at end high : Position) (said : X)
    (AreLeft : List Span → Type 0) (span : Span) (more : List Span) (passed : ArePassed tell list by_table at AreLeft)
    → passed.rest ≡ span ∷ more → tell span.answer ≡ said → IsAtMost span.low at → IsAtMost end span.high → IsAtMost low at
    → IsAtMost end high → Says by_table low high said → IsRightUpTo tell list by_table at end
right_up_to tell list by_table low at end high said AreLeft span more passed e same from within le ge says p h k =
    grind (arith, common_steps, at_most_trans, below_at_most, answer_in number_spans)

-- the next span answers alike, and ends beyond the record
pub passed_within : {S X : Type 0} (to_come : S → List Span → Type 0) (tell : Answer → X) (list : List Span)
    (by_table : Position → Option X) (ahead : Ahead S) (low high at : Position) (said : X) (span : Span) → ahead.next ≡ Some span
    → IsAtMost span.low at → tell span.answer ≡ said → IsAtMost low at → IsBelow at high → IsBelow high span.high
    → Says by_table low high said → ArePassed tell list by_table at (IsAhead to_come ahead)
    → ArePassed tell list by_table high (IsAhead to_come (record { next = Some (record span { low = high }); spans = ahead.spans }))
passed_within to_come tell list by_table ahead low high at said span is begun same le lt over says passed =
    let one = left_first to_come ahead passed.rest span is passed.left in
    passed_part tell list by_table at high (IsAhead to_come ahead)
    (IsAhead to_come (record { next = Some (record span { low = high }); spans = ahead.spans }))
    span one.0 passed one.1 (below_is_at_most lt) (at_most_trans begun (below_is_at_most lt)) over
    (right_up_to tell list by_table low at high high said (IsAhead to_come ahead) span one.0 passed one.1 same begun (below_is_at_most over)
    le (at_most_itself high) says)
    (refl, one.2)

-- the next span answers alike, and ends within the record
pub passed_whole : {S X : Type 0} (to_come : S → List Span → Type 0) (tell : Answer → X) (list : List Span)
    (by_table : Position → Option X) (old new : Ahead S) (low high at : Position) (said : X) (span : Span) → old.next ≡ Some span
    → IsAtMost span.low at → tell span.answer ≡ said → IsAtMost low at → IsAtMost span.high high
    → ((span : Span) (more : List Span) → IsAhead to_come old (span ∷ more) → IsAhead to_come new more)
    → Says by_table low high said → ArePassed tell list by_table at (IsAhead to_come old)
    → ArePassed tell list by_table span.high (IsAhead to_come new)
passed_whole to_come tell list by_table old new low high at said span is begun same le over passes says passed =
    let one = left_first to_come old passed.rest span is passed.left in
    let order : AreInOrder (span ∷ one.0) = subst AreInOrder one.1 passed.order in
    let begins : IsAtMost at span.low = subst (BeginFrom at) one.1 passed.from in
    passed_span tell list by_table at (IsAhead to_come old) (IsAhead to_come new) span one.0 passed one.1
    (at_most_trans begins (below_is_at_most (first_holds number_spans span one.0 order)))
    (right_up_to tell list by_table low at span.high high said (IsAhead to_come old) span one.0 passed one.1 same begun
    (at_most_itself span.high) le over says)
    (passes span one.0 (subst (IsAhead to_come old) one.1 passed.left))

-- the record doesn't begin above the end of the next span
pub low_after : {S X : Type 0} (to_come : S → List Span → Type 0) (tell : Answer → X) (list : List Span) (by_table : Position → Option X)
    (ahead : Ahead S) (low at : Position) (span : Span) → ahead.next ≡ Some span → IsAtMost low at
    → ArePassed tell list by_table at (IsAhead to_come ahead) → IsAtMost low span.high
low_after to_come tell list by_table ahead low at span is le passed =
    grind (arith, common_steps, left_first, at_most_trans, below_is_at_most, first_holds number_spans)

-- ---- the addresses at which the table doesn't answer

pub until_below : {X : Type 0} (to p : Position) (answers : Position → Option X) → IsBelow p to → until to answers p ≡ answers p
until_below to p answers h = rw (test_below p to h) refl

pub until_from : {X : Type 0} (to p : Position) (answers : Position → Option X) → IsAtMost to p → until to answers p ≡ None
until_from to p answers h = rw (test_not_below p to h) refl

-- nothing is answered from a position on
pub all_counted : {X : Type 0} (f : Position → Option X) (at : Position) → ((p : Position) → IsAtMost at p → f p ≡ None)
    → addresses_answered (until at f) ≡ addresses_answered f
all_counted f at none =
    same_addresses (until at f) f (λ p. elim (order_cases p at) [
      | inl early ↦ ap is_some (until_below at p f early)
      | inr late ↦ ap is_some (until_from at p f late ∙ sym (none p late))
    ])

-- nothing is missed where the section doesn't answer, nor where the table does
pub missed_unanswered : {X : Type 0} (by_table by_section : Position → Option X) (p : Position) → by_section p ≡ None
    → where_missed by_table by_section p ≡ None
missed_unanswered by_table by_section p e = grind (arith, common_steps)

pub missed_said : {X : Type 0} (by_table by_section : Position → Option X) (p : Position) (said : X) → by_table p ≡ Some said
    → where_missed by_table by_section p ≡ None
missed_said by_table by_section p said e = ap (λ table. where_none table (by_section p)) e

-- where the table doesn't answer, the section's answer is missed
pub missed_here : {X : Type 0} (by_table by_section : Position → Option X) (p : Position) → by_table p ≡ None
    → where_missed by_table by_section p ≡ by_section p
missed_here by_table by_section p e = ap (λ table. where_none table (by_section p)) e

-- the same addresses are answered up to two positions, if none is answered between them
pub unanswered_same : {X : Type 0} (answers : Position → Option X) (at to : Position) → IsAtMost at to
    → ((p : Position) → IsAtMost at p → IsBelow p to → answers p ≡ None)
    → addresses_answered (until at answers) ≡ addresses_answered (until to answers)
unanswered_same answers at to le none =
    grind (arith, common_steps, same_addresses, order_cases, until_below, below_at_most, until_from)

-- the same addresses are missed up to two positions, if none is between them
pub missed_same : {X : Type 0} (by_table by_section : Position → Option X) (at to : Position) → IsAtMost at to
    → ((p : Position) → IsAtMost at p → IsBelow p to → where_missed by_table by_section p ≡ None)
    → addresses_answered (until at (where_missed by_table by_section)) ≡ addresses_answered (until to (where_missed by_table by_section))
missed_same by_table by_section at to le none = unanswered_same (where_missed by_table by_section) at to le none

-- those of the next span, up to `end` in it
missed_span : {X : Type 0} (tell : Answer → X) (list : List Span) (by_table : Position → Option X) (at end : Position)
    (AreLeft : List Span → Type 0) (span : Span) (more : List Span) (passed : ArePassed tell list by_table at AreLeft)
    → passed.rest ≡ span ∷ more → IsBelow span.low end → IsAtMost end span.high → AnswersNothing by_table at end
    → addresses_answered (until end (where_missed by_table (answer_told tell list)))
    ≡ addresses_answered (until at (where_missed by_table (answer_told tell list))) + addresses_between span.low end
missed_span {X} tell list by_table at end AreLeft span more passed e holds within nothing =
    added_range (until at missed) (until end missed) span.low end (record {
      added = λ p h k. ap is_some (until_below end p missed k ∙ missed_here by_table section p (nothing p (at_most_trans begins h) k)
          ∙ ap (option_map tell) (passed.same p (at_most_trans begins h) ∙ ap (λ (xs : List Span). span_answer xs p) e
          ∙ answer_in number_spans span more p h (below_at_most k within)));
      unanswered = λ p h k. until_from at p missed (at_most_trans begins h);
      below = λ p h. ap is_some (elim (order_cases p at) [
        | inl early ↦ until_below end p missed (below_at_most h (below_is_at_most holds)) ∙ sym (until_below at p missed early)
        | inr late ↦ until_below end p missed (below_at_most h (below_is_at_most holds))
            ∙ missed_unanswered by_table section p (section_none tell list by_table at span.low p AreLeft passed from late h)
            ∙ sym (until_from at p missed late)
      ]);
      above = λ p h. ap is_some (until_from end p missed h
          ∙ sym (until_from at p missed (at_most_trans begins (at_most_trans (below_is_at_most holds) h))));
    })
  where
    section : Position → Option X
    section = answer_told tell list

    missed : Position → Option X
    missed = where_missed by_table (answer_told tell list)

    begins : IsAtMost at span.low
    begins = subst (BeginFrom at) e passed.from

    from : BeginFrom span.low passed.rest
    from = subst (BeginFrom span.low) (sym e) (at_most_itself span.low)

-- the count with this many more addresses, of which there are at most 2 ^ 64
count_more : {X : Type 0} (answers : Position → Option X) (old more new : ℕ) (low high : Position)
    → addresses_answered answers ≡ more + addresses_between low high → old ≡ more
    → (old + addresses_between low high ≤ 2 ^ 64 → new ≡ old + addresses_between low high) → new ≡ addresses_answered answers
count_more answers old more new low high e is adds = grind (arith, common_steps, most_addresses)

-- no span is left below `end`
begin_from : {S : Type 0} (to_come : S → List Span → Type 0) (ahead : Ahead S) (end : Position) (rest : List Span)
    → IfSome ahead.next (λ span. IsAtMost end span.low) → IsAhead to_come ahead rest → BeginFrom end rest
begin_from to_come ahead end rest past left = grind (arith, common_steps)

pub none_missed : {S X : Type 0} (to_come : S → List Span → Type 0) (tell : Answer → X) (list : List Span) (by_table : Position → Option X)
    (ahead : Ahead S) (at end : Position) → IfSome ahead.next (λ span. IsAtMost end span.low)
    → ArePassed tell list by_table at (IsAhead to_come ahead) → (p : Position) → IsAtMost at p → IsBelow p end
    → where_missed by_table (answer_told tell list) p ≡ None
none_missed to_come tell list by_table ahead at end past passed p h k =
    missed_unanswered by_table (answer_told tell list) p
    (section_none tell list by_table at end p (IsAhead to_come ahead) passed
    (begin_from to_come ahead end passed.rest past passed.left) h k)

pub counted_gap : {S X : Type 0} (to_come : S → List Span → Type 0) (tell : Answer → X) (list : List Span) (by_table : Position → Option X)
    (ahead : Ahead S) (at end : Position) (missed : ℕ) → IfSome ahead.next (λ span. IsAtMost end span.low) → IsAtMost at end
    → AnswersNothing by_table at end → AreCounted tell list by_table at (IsAhead to_come ahead) missed
    → AreCounted tell list by_table end (IsAhead to_come ahead) missed
counted_gap to_come tell list by_table ahead at end missed past le nothing now = record {
  passed = gap_passed tell list by_table at end (IsAhead to_come ahead) le nothing now.passed
      (begin_from to_come ahead end now.passed.rest past now.passed.left);
  counted = now.counted ∙ missed_same by_table (answer_told tell list) at end le
      (none_missed to_come tell list by_table ahead at end past now.passed);
}

-- the next span ends beyond `end`
pub counted_part : {S X : Type 0} (to_come : S → List Span → Type 0) (tell : Answer → X) (list : List Span) (by_table : Position → Option X)
    (ahead : Ahead S) (at end : Position) (old new : ℕ) (span : Span) → ahead.next ≡ Some span → IsBelow span.low end
    → IsBelow end span.high → AnswersNothing by_table at end
    → (old + addresses_between span.low end ≤ 2 ^ 64 → new ≡ old + addresses_between span.low end)
    → AreCounted tell list by_table at (IsAhead to_come ahead) old
    → AreCounted tell list by_table end (IsAhead to_come (record { next = Some (record span { low = end }); spans = ahead.spans })) new
counted_part to_come tell list by_table ahead at end old new span is holds over nothing adds now =
    let one = left_first to_come ahead now.passed.rest span is now.passed.left in
    let begins : IsAtMost at span.low = subst (BeginFrom at) one.1 now.passed.from in
    record {
      passed = passed_part tell list by_table at end (IsAhead to_come ahead)
          (IsAhead to_come (record { next = Some (record span { low = end }); spans = ahead.spans })) span one.0 now.passed one.1
          (at_most_trans begins (below_is_at_most holds)) (below_is_at_most holds) over (λ p h k. inl (nothing p h k)) (refl, one.2);
      counted = count_more (until end (where_missed by_table (answer_told tell list))) old _ new span.low end
          (missed_span tell list by_table at end (IsAhead to_come ahead) span one.0 now.passed one.1 holds (below_is_at_most over) nothing)
          now.counted adds;
    }

-- the next span ends at or below `end`
pub counted_span : {S X : Type 0} (to_come : S → List Span → Type 0) (tell : Answer → X) (list : List Span) (by_table : Position → Option X)
    (ahead next : Ahead S) (at end : Position) (old new : ℕ) (span : Span) → ahead.next ≡ Some span → IsAtMost span.high end
    → ((span : Span) (more : List Span) → IsAhead to_come ahead (span ∷ more) → IsAhead to_come next more)
    → AnswersNothing by_table at end
    → (old + addresses_between span.low span.high ≤ 2 ^ 64 → new ≡ old + addresses_between span.low span.high)
    → AreCounted tell list by_table at (IsAhead to_come ahead) old
    → IsAtMost at span.high × AreCounted tell list by_table span.high (IsAhead to_come next) new
counted_span to_come tell list by_table ahead next at end old new span is within passes nothing adds now =
    let one = left_first to_come ahead now.passed.rest span is now.passed.left in
    let order : AreInOrder (span ∷ one.0) = subst AreInOrder one.1 now.passed.order in
    let holds : IsBelow span.low span.high = first_holds number_spans span one.0 order in
    let begins : IsAtMost at span.low = subst (BeginFrom at) one.1 now.passed.from in
    let le : IsAtMost at span.high = at_most_trans begins (below_is_at_most holds) in
    let none : AnswersNothing by_table at span.high = λ p h k. nothing p h (below_at_most k within) in (
      le,
      record {
        passed = passed_span tell list by_table at (IsAhead to_come ahead) (IsAhead to_come next) span one.0 now.passed one.1 le
            (λ p h k. inl (none p h k)) (passes span one.0 (subst (IsAhead to_come ahead) one.1 now.passed.left));
        counted = count_more (until span.high (where_missed by_table (answer_told tell list))) old _ new span.low span.high
            (missed_span tell list by_table at span.high (IsAhead to_come ahead) span one.0 now.passed one.1 holds
            (at_most_itself span.high) none)
            now.counted adds;
      },
    )

-- ---- the first difference

-- where the table is right and nothing is missed, both answer alike
pub alike_here : {X : Type 0} (by_table by_section : Position → Option X) (p : Position) → IsRightAt by_table by_section p
    → where_missed by_table by_section p ≡ None → by_section p ≡ by_table p
alike_here by_table by_section p h missed = grind (arith, common_steps, missed_here)

-- the next span is the first in a gap of the table
pub gap_begins : {S X : Type 0} (to_come : S → List Span → Type 0) (tell : Answer → X) (list : List Span) (by_table : Position → Option X)
    (ahead : Ahead S) (at : Position) (span : Span) (first : Stretch X) → ahead.next ≡ Some span
    → ((p : Position) → IsAtMost at p → IsAtMost p span.low → by_table p ≡ None)
    → first ≡ (record { position = span.low; by_section = Some (tell span.answer); by_table = None })
    → ArePassed tell list by_table at (IsAhead to_come ahead) → HasGap None tell list by_table at
    → IsFirstDifference (answer_told tell list) by_table first
gap_begins to_come tell list by_table ahead at span first is nothing e passed none =
    let one = left_first to_come ahead passed.rest span is passed.left in
    let order : AreInOrder (span ∷ one.0) = subst AreInOrder one.1 passed.order in
    let begins : IsAtMost at span.low = subst (BeginFrom at) one.1 passed.from in
    let from : BeginFrom span.low passed.rest = subst (BeginFrom span.low) (sym one.1) (at_most_itself span.low) in
    rw e (record {
      section = sym (ap (option_map tell) (passed.same span.low begins ∙ ap (λ (xs : List Span). span_answer xs span.low) one.1
          ∙ answer_in number_spans span one.0 span.low (at_most_itself span.low) (first_holds number_spans span one.0 order)));
      table = sym (nothing span.low begins (at_most_itself span.low));
      differ = λ e. cc e;
      least = λ p h. elim (order_cases p at) [
        | inl early ↦ alike_here by_table (answer_told tell list) p (passed.right p early) (none p early)
        | inr late ↦ section_none tell list by_table at span.low p (IsAhead to_come ahead) passed from late h
            ∙ sym (nothing p late (below_is_at_most h))
      ];
    })

-- a gap up to a position is one up to a later one, where nothing is missed between them
pub gap_later : {X : Type 0} (gap : Option (Stretch X)) (tell : Answer → X) (list : List Span) (by_table : Position → Option X)
    (at to : Position) → IsAtMost at to
    → ((p : Position) → IsAtMost at p → IsBelow p to → where_missed by_table (answer_told tell list) p ≡ None)
    → HasGap gap tell list by_table at → HasGap gap tell list by_table to
gap_later gap tell list by_table at to le none h = grind (arith, common_steps, order_cases, below_at_most)

pub none_is : {D : Type 0} (f : Option D) → is_some f ≡ false → f ≡ None
none_is f e = grind (arith, common_steps, true≢false)

-- the first gap of the table
pub gap_found : {S D X : Type 0} (to_come : S → List Span → Type 0) (tell : Answer → X) (value_of : D → Stretch X) (list : List Span)
    (by_table : Position → Option X) (ahead : Ahead S) (at end : Position) (span : Span) (old : Option D) → ahead.next ≡ Some span
    → IsBelow span.low end → AnswersNothing by_table at end → ArePassed tell list by_table at (IsAhead to_come ahead)
    → HasGap (option_map value_of old) tell list by_table at → (first : D) → is_some old ≡ false
    → value_of first ≡ (record { position = span.low; by_section = Some (tell span.answer); by_table = None })
    → HasGap (Some (value_of first)) tell list by_table end
gap_found {S} {D} {X} to_come tell value_of list by_table ahead at end span old is lt nothing passed h first none e = (
  gap_begins to_come tell list by_table ahead at span (value_of first) is (λ p k l. nothing p k (at_most_below l lt)) e passed
      (subst (λ (o : Option D). HasGap (option_map value_of o) tell list by_table at) (none_is old none) h),
  subst (λ (q : Stretch X). IsBelow q.position end) (sym e) lt,
)

-- it was found before
pub gap_kept : {D X : Type 0} (tell : Answer → X) (value_of : D → Stretch X) (list : List Span) (by_table : Position → Option X)
    (at end : Position) (old : Option D) → IsAtMost at end → is_some old ≡ true → HasGap (option_map value_of old) tell list by_table at
    → HasGap (option_map value_of old) tell list by_table end
gap_kept tell value_of list by_table at end old le some h = grind (arith, common_steps, true≢false, below_at_most)

-- one record's answers aren't missed
pub said_found : {X : Type 0} (tell : Answer → X) (list : List Span) (by_table : Position → Option X) (low high : Position) (said : X)
    → Says by_table low high said → (p : Position) → IsAtMost low p → IsBelow p high
    → where_missed by_table (answer_told tell list) p ≡ None
said_found tell list by_table low high said says p h k = grind (arith, common_steps, missed_said)

-- ---- one more record

-- one record answers in addition to those before it
more_answered : {X : Type 0} (old new : Position → Option X) (at low high : Position) (said : X) → IsAtMost at low → IsBelow low high
    → ((p : Position) → IsAtMost at p → old p ≡ None) → HasOneMore old new at low high said → AnswersMore old new low high
more_answered old new at low high said le lt ended more = record {
  added = λ p h k. ap is_some (more.says p h k);
  unanswered = λ p h k. ended p (at_most_trans le h);
  below = λ p h. elim (order_cases p at) [
    | inl early ↦ ap is_some (more.before p early)
    | inr late ↦ ap is_some (more.gap p late h ∙ sym (ended p late))
  ];
  above = λ p h. ap is_some (more.ended p h ∙ sym (ended p (at_most_trans le (at_most_trans (below_is_at_most lt) h))));
}

-- the addresses of a record are added
pub answered_more : {X : Type 0} (old new : Position → Option X) (at low high : Position) (said : X) (before after : ℕ) → IsAtMost at low
    → IsBelow low high → ((p : Position) → IsAtMost at p → old p ≡ None) → HasOneMore old new at low high said
    → before ≡ addresses_answered old
    → (before + addresses_between low high ≤ 2 ^ 64 → after ≡ before + addresses_between low high) → after ≡ addresses_answered new
answered_more old new at low high said before after le lt ended more is adds =
    count_more new before (addresses_answered old) after low high
    (added_range old new low high (more_answered old new at low high said le lt ended more)) is adds

-- nothing was found in the records so far, as which the spans answer up to the end of the last
pub merged_past : {S D X : Type 0} (to_come : S → List Span → Type 0) (tell : Answer → X) (value_of : D → Stretch X) (merge : Merge S D)
    (list : List Span) (by_table : Position → Option X) → merge.gap ≡ None → merge.mistake ≡ None → merge.missed ≡ 0
    → merge.answered ≡ addresses_answered by_table → ((p : Position) → IsAtMost merge.at p → by_table p ≡ None)
    → ((p : Position) → IsBelow p merge.at → answer_told tell list p ≡ by_table p) → (rest : List Span) → IsAhead to_come merge.spans rest
    → AreInOrder rest → BeginFrom merge.at rest
    → ((p : Position) → IsAtMost merge.at p → span_answer list p ≡ span_answer rest p)
    → HasMerged to_come tell value_of merge list by_table
merged_past {S} {D} {X} to_come tell value_of merge list by_table gap mistake missed answered ended agree rest left order from same =
    grind (arith, common_steps, no_addresses, order_cases, until_below, until_from, none_missed)

right_moved : {X : Type 0} (old new by_section : Position → Option X) (p : Position) → new p ≡ old p → IsRightAt old by_section p
    → IsRightAt new by_section p
right_moved old new by_section p e h = grind (arith, common_steps)

gap_moved : {X : Type 0} (gap : Option (Stretch X)) (tell : Answer → X) (list : List Span) (old new : Position → Option X) (to : Position)
    → ((p : Position) → IsBelow p to → new p ≡ old p) → HasGap gap tell list old to → HasGap gap tell list new to
gap_moved gap tell list old new to same h = grind (arith, common_steps, below_at_most, below_is_at_most)

-- a mistake was found before
still_merged : {S D X : Type 0} (to_come : S → List Span → Type 0) (tell : Answer → X) (value_of : D → Stretch X) (old new : Merge S D)
    (spans : List Span) (by_table by_more : Position → Option X) (low high : Position) (said : X) → true ≡ is_some old.mistake
    → new.mistake ≡ old.mistake → new.gap ≡ old.gap → new.at ≡ high → IsAtMost old.at low → IsBelow low high
    → HasOneMore by_table by_more old.at low high said
    → HasMerged to_come tell value_of old spans by_table
    → ((p : Position) → IsAtMost new.at p → by_more p ≡ None)
    × AreMergedBy (option_map value_of new.mistake) (option_map value_of new.gap) tell spans by_more new.at (IsAhead to_come new.spans)
    new.missed
still_merged {S} {D} {X} to_come tell value_of old new spans by_table by_more low high said some mistake gap at le lt more m =
    grind (arith, common_steps, true≢false, right_moved, below_at_most, below_is_at_most, at_most_trans, gap_moved)

pub merged_still : {S D X : Type 0} (to_come : S → List Span → Type 0) (tell : Answer → X) (value_of : D → Stretch X) (old new : Merge S D)
    (spans : List Span) (by_table by_more : Position → Option X) (low high : Position) (said : X) → true ≡ is_some old.mistake
    → new.mistake ≡ old.mistake → new.gap ≡ old.gap → new.at ≡ high → IsAtMost old.at low → IsBelow low high
    → (old.answered + addresses_between low high ≤ 2 ^ 64 → new.answered ≡ old.answered + addresses_between low high)
    → HasOneMore by_table by_more old.at low high said
    → HasMerged to_come tell value_of old spans by_table → HasMerged to_come tell value_of new spans by_more
merged_still {S} {D} {X} to_come tell value_of old new spans by_table by_more low high said some mistake gap at le lt adds more m =
    let still = still_merged to_come tell value_of old new spans by_table by_more low high said some mistake gap at le lt more m in
    record {
      ended = still.0;
      answered = answered_more by_table by_more old.at low high said old.answered new.answered le lt m.ended more m.answered adds;
      merged = still.1;
    }

-- what is passed in a gap of the table
abbrev pub PassesGap : {S D X : Type 0} → (S → List Span → Type 0) → (Answer → X) → (D → Stretch X) → Ahead S → Ahead S
    → Option D → Option D
    → ℕ → ℕ → Position → Type 0
PassesGap {S} {D} {X} to_come tell value_of old new gap gap' missed missed' end =
    (list : List Span) (by_table : Position → Option X) (at : Position) → IsAtMost at end → AnswersNothing by_table at end
    → AreCounted tell list by_table at (IsAhead to_come old) missed → HasGap (option_map value_of gap) tell list by_table at
    → AreCounted tell list by_table end (IsAhead to_come new) missed' × HasGap (option_map value_of gap') tell list by_table end

-- what was found for one record
abbrev pub FindsMistake : {S D X : Type 0} → (S → List Span → Type 0) → (Answer → X) → (D → Stretch X) → Ahead S → Ahead S → Position
    → Position → X → Option D → Type 0
FindsMistake {S} {D} {X} to_come tell value_of old new low high said found =
    (list : List Span) (by_table : Position → Option X) → Says by_table low high said
    → ArePassed tell list by_table low (IsAhead to_come old)
    → MatchOption found (ArePassed tell list by_table high (IsAhead to_come new))
    (λ mistake. IsMistakenIn tell list by_table low high (value_of mistake))

pub merged_more : {S D X : Type 0} (to_come : S → List Span → Type 0) (tell : Answer → X) (value_of : D → Stretch X) (old new : Merge S D)
    (middle : Ahead S) (spans : List Span) (by_table by_more : Position → Option X) (low high : Position) (said : X)
    → false ≡ is_some old.mistake → new.at ≡ high → IsAtMost old.at low → IsBelow low high
    → (old.answered + addresses_between low high ≤ 2 ^ 64 → new.answered ≡ old.answered + addresses_between low high)
    → PassesGap to_come tell value_of old.spans middle old.gap new.gap old.missed new.missed low
    → FindsMistake to_come tell value_of middle new.spans low high said new.mistake
    → HasOneMore by_table by_more old.at low high said
    → HasMerged to_come tell value_of old spans by_table → HasMerged to_come tell value_of new spans by_more
merged_more {S} {D} {X} to_come tell value_of old new middle spans by_table by_more low high said none at le lt adds passes found more m =
    record {
      ended = λ p h. more.ended p (subst (λ (q : Position). IsAtMost q p) at h);
      answered = answered_more by_table by_more old.at low high said old.answered new.answered le lt m.ended more m.answered adds;
      merged = rw at (by_found new.mistake (found spans by_more more.says passed.0.passed));
    }
  where
    section : Position → Option X
    section = answer_told tell spans

    before : AreCounted tell spans by_table old.at (IsAhead to_come old.spans) old.missed
        × HasGap (option_map value_of old.gap) tell spans by_table old.at
    before = subst (λ (f : Option D). AreMergedBy (option_map value_of f) (option_map value_of old.gap) tell spans by_table old.at
        (IsAhead to_come old.spans) old.missed) (none_is old.mistake (sym none)) m.merged

    same_missed : (p : Position)
        → until old.at (where_missed by_table section) p ≡ until old.at (where_missed by_more section) p
    same_missed p = elim (order_cases p old.at) [
      | inl early ↦ until_below old.at p (where_missed by_table section) early
          ∙ ap (λ table. where_none table (section p)) (sym (more.before p early))
          ∙ sym (until_below old.at p (where_missed by_more section) early)
      | inr late ↦ until_from old.at p (where_missed by_table section) late ∙ sym (until_from old.at p (where_missed by_more section) late)
    ]

    counted : AreCounted tell spans by_more old.at (IsAhead to_come old.spans) old.missed
    counted = record {
      passed = record {
        rest = before.0.passed.rest;
        left = before.0.passed.left;
        order = before.0.passed.order;
        from = before.0.passed.from;
        right = λ p h. right_moved by_table by_more section p (more.before p h) (before.0.passed.right p h);
        same = before.0.passed.same;
      };
      counted = before.0.counted
          ∙ same_addresses (until old.at (where_missed by_table section)) (until old.at (where_missed by_more section))
          (λ p. ap is_some (same_missed p));
    }

    passed : AreCounted tell spans by_more low (IsAhead to_come middle) new.missed
        × HasGap (option_map value_of new.gap) tell spans by_more low
    passed = passes spans by_more old.at le more.gap counted
        (gap_moved (option_map value_of old.gap) tell spans by_table by_more old.at more.before before.1)

    by_found : (f : Option D) → MatchOption f (ArePassed tell spans by_more high (IsAhead to_come new.spans))
        (λ mistake. IsMistakenIn tell spans by_more low high (value_of mistake))
        → AreMergedBy (option_map value_of f) (option_map value_of new.gap) tell spans by_more high (IsAhead to_come new.spans) new.missed
    by_found None h = (
      record {
        passed = h;
        counted = passed.0.counted
            ∙ missed_same by_more section low high (below_is_at_most lt) (said_found tell spans by_more low high said more.says);
      },
      gap_later (option_map value_of new.gap) tell spans by_more low high (below_is_at_most lt)
          (said_found tell spans by_more low high said more.says) passed.1,
    )
    by_found (Some d) h = (
      record { first = h.first; past = origin_first (value_of d).position; below = h.below },
      gap_later (option_map value_of new.gap) tell spans by_more low (value_of d).position h.past
          (λ p k l. said_found tell spans by_more low high said more.says p k (below_at_most l (below_is_at_most h.below))) passed.1,
    )
