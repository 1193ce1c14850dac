-- Several sequences that are asked, from a position on, for one answer.
use Rattle.std.proofs.Common.{◌≡◌, ◌∙◌, ◌<◌, ℕ, List, [], ◌∷◌, Option}
use Rattle.std.proofs.Common.{Some, None, IfSome, ap, sym, refl, subst, arith, length, get_or}
use Rattle.std.proofs.Common.{option_map, ◌⊎◌, inl, inr, get_or-set_same, get_or-set_other, length-set, set}
use Rattle.std.proofs.lemmas.Bool.{cases_eq}
use Rattle.std.proofs.lemmas.List.{get_or_default}
use Rattle.std.proofs.lemmas.Option.{same_Some}
use Rattle.lnt_spans.specs.declared.answer.Answer.{Answer}
use Rattle.lnt_spans.specs.declared.span.Span.{Span}
use Rattle.lnt_spans.specs.declared.position.Position.{Position}
use Rattle.lnt_spans.specs.Positions.{IsAtMost, IsBelow}
use Rattle.lnt_spans.specs.Remaining.{GivesFirstSpan, SpansAreLeft}
use Rattle.lnt_spans.specs.Spans.{AreInOrder, number_spans, span_answer}
use Rattle.lnt_spans.proofs.AnsweringLaws.{answer_after, answer_in, none_before, rest_in_order, rest_none}
use Rattle.lnt_spans.proofs.PositionLaws.{at_most_itself, at_most_trans, below_at_most}
use Rattle.lnt_spans.proofs.PositionLaws.{below_is_at_most, not_both, order_cases, same_position}
use Rattle.lnt_table.specs.declared.said.SequenceSpans.{SequenceSpans}
use Rattle.lnt_table.specs.Said.{AnswersFrom, NoneSays, OneSays, Says, SaysFrom, StillSay}

-- ---- one sequence

given_left : {S : Type 0} (to_come : S → List Span → Type 0) (list : List Span) (next : Option Span) (spans : S)
    → GivesFirstSpan (to_come spans) list next → SpansAreLeft to_come next spans list
given_left to_come [] None spans h = refl
given_left to_come (span ∷ list) (Some given) spans h = (ap (λ (s : Span). Some s) h.0, h.1)
given_left to_come [] (Some given) spans h = absurd h
given_left to_come (span ∷ list) None spans h = absurd h

-- the next span is the first of those that are left
first_left : {S : Type 0} (to_come : S → List Span → Type 0) (next : Option Span) (spans : S) (list : List Span) (span : Span)
    → next ≡ Some span → SpansAreLeft to_come next spans list → (more : List Span) × (list ≡ span ∷ more) × to_come spans more
first_left to_come next spans [] span e l = let no : None ≡ Some span = sym l ∙ e in cc no
first_left to_come next spans (first ∷ rest) span e l =
    (rest, ap (λ (s : Span). s ∷ rest) (same_Some first span (sym l.0 ∙ e)), l.1)

none_left : {S : Type 0} (to_come : S → List Span → Type 0) (next : Option Span) (spans : S) (list : List Span) → next ≡ None
    → SpansAreLeft to_come next spans list → list ≡ []
none_left to_come next spans [] e l = refl
none_left to_come next spans (first ∷ rest) e l = let no : None ≡ Some first = sym e ∙ l.0 in cc no

-- a span isn't empty
first_lasts : (span : Span) (rest : List Span) → AreInOrder (span ∷ rest) → IsBelow span.low span.high
first_lasts span [] order = order
first_lasts span (next ∷ rest) order = order.0

-- Where nothing is answered, nothing is said.
pub none_says : {X : Type 0} (tell : Answer → X) (told : X) (answers : Position → Option Answer) (p : Position) → answers p ≡ None
    → Says tell told answers p → ⊥
none_says tell told answers p none says = let no : None ≡ Some told = sym (ap (option_map tell) none) ∙ says in cc no

some_says : {X : Type 0} (tell : Answer → X) (told : X) (answers : Position → Option Answer) (p : Position) (answer : Answer)
    → answers p ≡ Some answer → tell answer ≡ told → Says tell told answers p
some_says tell told answers p answer some same = ap (option_map tell) some ∙ ap (λ x. Some x) same

said_answer : {X : Type 0} (tell : Answer → X) (told : X) (answers : Position → Option Answer) (p : Position) (answer : Answer)
    → answers p ≡ Some answer → Says tell told answers p → tell answer ≡ told
said_answer tell told answers p answer some says = same_Some (tell answer) told (sym (ap (option_map tell) some) ∙ says)

module _ {S : Type 0} (to_come : S → List Span → Type 0) (old : SequenceSpans S) (at : Position) (answers : Position → Option Answer)
    (h : AnswersFrom to_come old at answers) where
  pub from_later : (to : Position) → IsAtMost at to → AnswersFrom to_come old to answers
  from_later to le =
      record { list = h.list; left = h.left; order = h.order; same = λ p k. h.same p (at_most_trans le k) }

  -- the next span is passed
  pub passed_on : (new : SequenceSpans S) (span : Span) (to : Position) → old.next ≡ Some span → IsAtMost span.high to → IsAtMost at to
      → ((list : List Span) → to_come old.spans list → GivesFirstSpan (to_come new.spans) list new.next)
      → AnswersFrom to_come new to answers
  passed_on new span to some high le gives =
      let one = first_left to_come old.next old.spans h.list span some h.left in
      record {
        list = one.0;
        left = given_left to_come one.0 new.next new.spans (gives one.0 one.2);
        order = rest_in_order number_spans span one.0 (subst AreInOrder one.1 h.order);
        same = λ p k. sym (answer_after number_spans span one.0 p (at_most_trans high k))
            ∙ ap (λ (xs : List Span). span_answer xs p) (sym one.1) ∙ h.same p (at_most_trans le k);
      }

  -- in it, this is answered
  answers_in : (span : Span) (p : Position) → old.next ≡ Some span → IsAtMost at p → IsAtMost span.low p → IsBelow p span.high
      → answers p ≡ Some span.answer
  answers_in span p some le low high =
      let one = first_left to_come old.next old.spans h.list span some h.left in
      sym (h.same p le) ∙ ap (λ (xs : List Span). span_answer xs p) one.1 ∙ answer_in number_spans span one.0 p low high

  -- before it, nothing
  none_yet : (span : Span) (p : Position) → old.next ≡ Some span → IsAtMost at p → IsBelow p span.low → answers p ≡ None
  none_yet span p some le low =
      let one = first_left to_come old.next old.spans h.list span some h.left in
      sym (h.same p le) ∙ ap (λ (xs : List Span). span_answer xs p) one.1
      ∙ none_before number_spans span one.0 p (subst AreInOrder one.1 h.order) low

  -- and nothing without a next span
  none_more : (p : Position) → old.next ≡ None → IsAtMost at p → answers p ≡ None
  none_more p none le =
      sym (h.same p le) ∙ ap (λ (xs : List Span). span_answer xs p) (none_left to_come old.next old.spans h.list none h.left)

  module _ {X : Type 0} (tell : Answer → X) (told : X) (span : Span) (some : old.next ≡ Some span) where
    -- nothing is said before it
    unsaid_before : (low p : Position) → (low ≡ span.low) ⊎ (low ≡ at) → IsAtMost at p → IsBelow p low
        → Says tell told answers p → ⊥
    unsaid_before low p (inl same) le lt = none_says tell told answers p (none_yet span p some le (subst (IsBelow p) same lt))
    unsaid_before low p (inr same) le lt = absurd (not_both (subst (IsBelow p) same lt) le)

    -- nor up to its end, if it doesn't say it
    unsaid_with : (p : Position) → (tell span.answer ≡ told → ⊥) → IsAtMost at p → IsBelow p span.high
        → Says tell told answers p → ⊥
    unsaid_with p other le lt says = elim (order_cases p span.low) [
      | inl early ↦ none_says tell told answers p (none_yet span p some le early) says
      | inr late ↦ other (said_answer tell told answers p span.answer (answers_in span p some le late lt) says)
    ]

    -- if it does, it says so where it begins, or at the position from which on it is asked
    said_first : (low : Position) → (low ≡ span.low) ⊎ (low ≡ at) → IsAtMost span.low low → IsAtMost at low → IsBelow at span.high
        → tell span.answer ≡ told → Says tell told answers low
    said_first low either past from ends same =
        some_says tell told answers low span.answer (answers_in span low some from past (is_below either)) same
      where
        is_below : (low ≡ span.low) ⊎ (low ≡ at) → IsBelow low span.high
        is_below (inl here) =
            let one = first_left to_come old.next old.spans h.list span some h.left in
            subst (λ (q : Position). IsBelow q span.high) (sym here) (first_lasts span one.0 (subst AreInOrder one.1 h.order))
        is_below (inr here) = subst (λ (q : Position). IsBelow q span.high) (sym here) ends

-- ---- one sequence that is asked for one answer

module _ {S X : Type 0} (to_come : S → List Span → Type 0) (tell : Answer → X) (told : X) (old : SequenceSpans S) (at whole : Position)
    (answers : Position → Option Answer) (h : SaysFrom to_come tell told old at whole answers) where
  -- the spans that are left, by themselves
  pub left_alone : AnswersFrom to_come old at (span_answer h.list)
  left_alone = record { list = h.list; left = h.left; order = h.order; same = λ p le. refl }

  pub says_later : (to : Position) → IsAtMost at to → SaysFrom to_come tell told old to whole answers
  says_later to le = record {
    list = h.list;
    left = h.left;
    order = h.order;
    says = λ p past. h.says p (at_most_trans le past);
    said = λ p past. h.said p (at_most_trans le past);
    same = h.same;
  }

  pub whole_later : (end : Position) → (later : Position) × IsAtMost end later × SaysFrom to_come tell told old at later answers
  whole_later end = elim (order_cases whole end) [
    | inl early ↦ (
      end,
      at_most_itself end,
      record {
        list = h.list;
        left = h.left;
        order = h.order;
        says = h.says;
        said = h.said;
        same = λ p le. h.same p (at_most_trans (below_is_at_most early) le);
      },
    )
    | inr late ↦ (whole, late, h)
  ]

  -- spans are passed that the position doesn't need
  pub says_passed : (new : SequenceSpans S) (to : Position) → IsAtMost at to → IsAtMost to whole
      → AnswersFrom to_come new to (span_answer h.list) → SaysFrom to_come tell told new to whole answers
  says_passed new to le upto from = record {
    list = from.list;
    left = from.left;
    order = from.order;
    says = λ p past says. h.says p (at_most_trans le past) (sym (ap (option_map tell) (from.same p past)) ∙ says);
    said = λ p past says. ap (option_map tell) (from.same p past) ∙ h.said p (at_most_trans le past) says;
    same = λ p past. from.same p (at_most_trans upto past) ∙ h.same p past;
  }

  -- those that end at or below it
  pub says_on : (new : SequenceSpans S) → IsAtMost at whole
      → ((answers : Position → Option Answer) → AnswersFrom to_come old at answers → AnswersFrom to_come new at answers)
      → SaysFrom to_come tell told new at whole answers
  says_on new upto kept = says_passed new at (at_most_itself at) upto (kept (span_answer h.list) left_alone)

  -- nothing is said if no span is left
  pub unsaid_after : (p : Position) → old.next ≡ None → IsAtMost at p → Says tell told answers p → ⊥
  unsaid_after p none le says =
      none_says tell told (span_answer h.list) p (none_more to_come old at (span_answer h.list) left_alone p none le) (h.said p le says)

  module _ (span : Span) (some : old.next ≡ Some span) where
    -- nor before the next span
    pub unsaid_below : (low p : Position) → (low ≡ span.low) ⊎ (low ≡ at) → IsAtMost at p → IsBelow p low
        → Says tell told answers p → ⊥
    unsaid_below low p either le lt says =
        unsaid_before to_come old at (span_answer h.list) left_alone tell told span some low p either le lt (h.said p le says)

    -- nor in it, if it doesn't say it
    pub unsaid_within : (p : Position) → (tell span.answer ≡ told → ⊥) → IsAtMost at p → IsBelow p span.high
        → Says tell told answers p → ⊥
    unsaid_within p other le lt says =
        unsaid_with to_come old at (span_answer h.list) left_alone tell told span some p other le lt (h.said p le says)

    -- if it does, it is said in it
    pub says_within : (p : Position) → tell span.answer ≡ told → IsAtMost at p → IsAtMost span.low p → IsBelow p span.high
        → Says tell told answers p
    says_within p same le low high =
        h.says p le (some_says tell told (span_answer h.list) p span.answer
        (answers_in to_come old at (span_answer h.list) left_alone span p some le low high) same)

    -- from where it begins
    pub says_first : (low : Position) → (low ≡ span.low) ⊎ (low ≡ at) → IsAtMost span.low low → IsAtMost at low
        → IsBelow at span.high → tell span.answer ≡ told → Says tell told answers low
    says_first low either past from ends same =
        h.says low from (said_first to_come old at (span_answer h.list) left_alone tell told span some low either past from ends same)

  -- the next span is passed, which doesn't say this
  pub says_without : (new : SequenceSpans S) (span : Span) → old.next ≡ Some span → IsAtMost span.high whole
      → (tell span.answer ≡ told → ⊥)
      → ((list : List Span) → to_come old.spans list → GivesFirstSpan (to_come new.spans) list new.next)
      → SaysFrom to_come tell told new at whole answers
  says_without new span some upto other gives =
      let one = first_left to_come old.next old.spans h.list span some h.left in
      let order : AreInOrder (span ∷ one.0) = subst AreInOrder one.1 h.order in
      let after : (p : Position) → IsAtMost span.high p → span_answer h.list p ≡ span_answer one.0 p =
      λ p past. ap (λ (xs : List Span). span_answer xs p) one.1 ∙ answer_after number_spans span one.0 p past in
      record {
        list = one.0;
        left = given_left to_come one.0 new.next new.spans (gives one.0 one.2);
        order = rest_in_order number_spans span one.0 order;
        says = λ p le says. elim (order_cases p span.high) [
          | inl early ↦ absurd (none_says tell told (span_answer one.0) p (rest_none number_spans span one.0 p order early) says)
          | inr late ↦ h.says p le (ap (option_map tell) (after p late) ∙ says)
        ];
        said = λ p le says. elim (order_cases p span.high) [
          | inl early ↦ absurd (unsaid_with to_come old at (span_answer h.list) left_alone tell told span some p other le early
              (h.said p le says))
          | inr late ↦ sym (ap (option_map tell) (after p late)) ∙ h.said p le says
        ];
        same = λ p le. sym (after p (at_most_trans upto le)) ∙ h.same p le;
      }

-- the same, whatever the answers are from which position on
pub said_since : {S X : Type 0} (to_come : S → List Span → Type 0) (tell : Answer → X) (told : X) (old new : SequenceSpans S)
    (at end whole : Position) (answers : Position → Option Answer) → IsAtMost at end
    → ((answers : Position → Option Answer) → AnswersFrom to_come old at answers → AnswersFrom to_come new at answers)
    → SaysFrom to_come tell told old at whole answers
    → (later : Position) × IsAtMost end later × SaysFrom to_come tell told new at later answers
said_since to_come tell told old new at end whole answers le kept h =
    let wider = whole_later to_come tell told old at whole answers h end in
    (wider.0, wider.1, says_on to_come tell told old at wider.0 answers wider.2 new (at_most_trans le wider.1) kept)

-- the span after one that ends above a position does too
next_ends : {S : Type 0} (to_come : S → List Span → Type 0) (at : Position) (span : Span) (next : Option Span) (spans : S)
    (rest : List Span) → SpansAreLeft to_come next spans rest → AreInOrder (span ∷ rest) → IsBelow at span.high
    → IfSome next (λ other. IsBelow at other.high)
next_ends to_come at span None spans rest left order lt = tt
next_ends to_come at span (Some other) spans [] left order lt = cc left
next_ends to_come at span (Some other) spans (first ∷ more) left order lt =
    subst (λ (s : Span). IsBelow at s.high) (sym (same_Some other first left.0))
    (below_at_most (below_at_most lt order.1) (below_is_at_most (first_lasts first more order.2)))

pub ends_later : {S X : Type 0} (to_come : S → List Span → Type 0) (tell : Answer → X) (told : X) (old new : SequenceSpans S)
    (at whole : Position) (answers : Position → Option Answer) (h : SaysFrom to_come tell told old at whole answers) (span : Span)
    → old.next ≡ Some span → IsBelow at span.high
    → ((list : List Span) → to_come old.spans list → GivesFirstSpan (to_come new.spans) list new.next)
    → IfSome new.next (λ other. IsBelow at other.high)
ends_later to_come tell told old new at whole answers h span some lt gives =
    let one = first_left to_come old.next old.spans h.list span some h.left in
    next_ends to_come at span new.next new.spans one.0 (given_left to_come one.0 new.next new.spans (gives one.0 one.2))
    (subst AreInOrder one.1 h.order) lt

-- ---- several sequences

module _ {S X : Type 0} (to_come : S → List Span → Type 0) (tell : Answer → X) (told : X) where
  pub still_itself : (sequences : List (SequenceSpans S)) (at end : Position) → StillSay to_come tell told sequences sequences at at end
  still_itself sequences at end = record { count = refl; each = λ k d whole answers lt upto h. h }

  pub still_then : (old now new : List (SequenceSpans S)) (low at to end : Position) → StillSay to_come tell told old now low at end
      → StillSay to_come tell told now new at to end → StillSay to_come tell told old new low to end
  still_then old now new low at to end one other = record {
    count = other.count ∙ one.count;
    each = λ k d whole answers lt upto h.
        other.each k d whole answers (omega (arith, lt, one.count)) upto (one.each k d whole answers lt upto h);
  }

  -- all of them went on
  pub still_later : (old now : List (SequenceSpans S)) (low at to end : Position) → StillSay to_come tell told old now low at end
      → IsAtMost at to → StillSay to_come tell told old now low to end
  still_later old now low at to end still le = record {
    count = still.count;
    each = λ k d whole answers lt upto h.
        says_later to_come tell told (get_or now k d) at whole answers (still.each k d whole answers lt upto h) to le;
  }

  -- one of them went on
  pub still_set : (old now : List (SequenceSpans S)) (low at to end : Position) (i : ℕ) (new : SequenceSpans S)
      → StillSay to_come tell told old now low at end → i < length now → IsAtMost at to
      → ((d : SequenceSpans S) (whole : Position) (answers : Position → Option Answer) → IsAtMost end whole
      → SaysFrom to_come tell told (get_or now i d) at whole answers → SaysFrom to_come tell told new to whole answers)
      → StillSay to_come tell told old (set now i new) low to end
  still_set old now low at to end i new still inside le goes = record {
    count = length-set now i new ∙ still.count;
    each = λ k d whole answers lt upto h. elim (cases_eq k i) [
      | inl same ↦ subst (λ (n : ℕ). SaysFrom to_come tell told (get_or (set now i new) n d) to whole answers) (sym same)
          (subst (λ (s : SequenceSpans S). SaysFrom to_come tell told s to whole answers) (sym (get_or-set_same now i new d inside))
          (goes d whole answers upto (subst (λ (n : ℕ). SaysFrom to_come tell told (get_or now n d) at whole answers) same
          (still.each k d whole answers lt upto h))))
      | inr other ↦ subst (λ (s : SequenceSpans S). SaysFrom to_come tell told s to whole answers)
          (sym (get_or-set_other now i k new d other))
          (says_later to_come tell told (get_or now k d) at whole answers (still.each k d whole answers lt upto h) to le)
    ];
  }

  -- an element of a list is the same with any default
  pub moved : (sequences : List (SequenceSpans S)) (i : ℕ) (d e : SequenceSpans S) (at whole : Position)
      (answers : Position → Option Answer) → i < length sequences → SaysFrom to_come tell told (get_or sequences i d) at whole answers
      → SaysFrom to_come tell told (get_or sequences i e) at whole answers
  moved sequences i d e at whole answers inside h =
      subst (λ (s : SequenceSpans S). SaysFrom to_come tell told s at whole answers) (get_or_default sequences i d e inside) h

  pub one_says : (sequences : List (SequenceSpans S)) (i : ℕ) (e : SequenceSpans S) (at p : Position) → i < length sequences
      → ((whole : Position) (answers : Position → Option Answer)
      → SaysFrom to_come tell told (get_or sequences i e) at whole answers → Says tell told answers p)
      → OneSays to_come tell told sequences at p
  one_says sequences i e at p inside says =
      (i, inside, λ d whole answers h. says whole answers (moved sequences i d e at whole answers inside h))

  module _ (old now : List (SequenceSpans S)) (low at end : Position) (still : StillSay to_come tell told old now low at end) where
    -- each of them says this from `at` on if it said it from `low` on
    each_still : (k : ℕ) (d : SequenceSpans S) (whole : Position) (answers : Position → Option Answer) → k < length old
        → SaysFrom to_come tell told (get_or old k d) low whole answers
        → (later : Position) × SaysFrom to_come tell told (get_or now k d) at later answers
    each_still k d whole answers lt h =
        let wider = whole_later to_come tell told (get_or old k d) low whole answers h end in
        (wider.0, still.each k d wider.0 answers lt wider.1 wider.2)

    -- The last of those that were asked doesn't say it either.
    pub last_unsaid : (k i : ℕ) (d e : SequenceSpans S) (to whole : Position) (answers : Position → Option Answer) → k ≡ i
        → i < length now → IsAtMost low at → IsAtMost at to → IsAtMost to low
        → (IsAtMost to at → (whole : Position) (answers : Position → Option Answer)
        → SaysFrom to_come tell told (get_or now i e) at whole answers → Says tell told answers at → ⊥)
        → SaysFrom to_come tell told (get_or old k d) low whole answers → Says tell told answers low → ⊥
    last_unsaid k i d e to whole answers same inside past on back unsaid h says =
        let here = each_still k d whole answers (omega (arith, inside, same, still.count)) h in
        unsaid (at_most_trans back past) here.0 answers
        (moved now i d e at here.0 answers inside
        (subst (λ (n : ℕ). SaysFrom to_come tell told (get_or now n d) at here.0 answers) same here.1))
        (subst (Says tell told answers) (same_position low at (at_most_trans on back) past) says)

    pub one_said : (p : Position) → OneSays to_come tell told now at p → OneSays to_come tell told old low p
    one_said p says =
        let inside : says.0 < length old = omega (arith, says.1, still.count) in (
          says.0,
          inside,
          λ d whole answers h. (let here = each_still says.0 d whole answers inside h in says.2 d here.0 answers here.1),
        )

    pub none_said : NoneSays to_come tell told now at at → NoneSays to_come tell told old low at
    none_said unsaid k d whole answers lt h =
        let here = each_still k d whole answers lt h in
        unsaid k d here.0 answers (omega (arith, lt, still.count)) here.1

    -- what is said up to a position, and from it on
    pub said_on : (to : Position) → ((p : Position) → IsAtMost low p → IsBelow p at → OneSays to_come tell told old low p)
        → ((p : Position) → IsAtMost at p → IsBelow p to → OneSays to_come tell told now at p)
        → (p : Position) → IsAtMost low p → IsBelow p to → OneSays to_come tell told old low p
    said_on to one other p le lt = elim (order_cases p at) [ inl early ↦ one p le early | inr late ↦ one_said p (other p late lt) ]
