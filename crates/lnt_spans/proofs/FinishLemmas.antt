-- What a table is judged to be, once no record of it follows.
use Rattle.std.proofs.Common.{◌≡◌, ◌∙◌, ℕ, ◌+◌, ◌^◌, ◌≤◌, List, inl, inr, refl, ap, subst, sym, Some, None, Option, Ok}
use Rattle.std.proofs.Common.{arith, is_some, option_map}
use Rattle.std.specs.Option.{option_or}
use Rattle.lnt_spans.specs.declared.merge.Merge.{Merge}
use Rattle.lnt_spans.specs.declared.scope.Scope.TheVariants.{Answered}
use Rattle.lnt_spans.specs.Remaining.{Ahead, IsAhead}
use Rattle.lnt_spans.specs.AnyStretches.{Stretch}
use Rattle.lnt_spans.specs.Partial.{CountsTo, IsRightWherever, addresses_answered, addresses_of}
use Rattle.lnt_spans.specs.Partial.{is_answered, where_answered, where_missed, whole}
use Rattle.lnt_spans.specs.Differences.{IsFirstDifference}
use Rattle.lnt_spans.specs.Merged.{AreCounted, AreMergedBy, ArePassed, HasGap, HasMerged, IsJudged, answer_told, until}
use Rattle.lnt_spans.specs.Positions.{IsAtMost, Position}
use Rattle.lnt_spans.specs.Spans.{span_answer, Answer, Span}
use Rattle.lnt_spans.proofs.AheadLaws.{none_left}
use Rattle.lnt_spans.proofs.CountLemmas.{addresses_of_spans, count_either, most_addresses, one_if}
use Rattle.lnt_spans.proofs.PartialLemmas.{answered_and_missed, table_addresses}
use Rattle.lnt_spans.proofs.PositionLaws.{order_cases}
use Rattle.lnt_spans.proofs.MergedLemmas.{gap_begins, missed_here, none_from}
use Rattle.lnt_spans.proofs.MergedLemmas.{until_below, until_from}
use Rattle.std.proofs.lemmas.Grind.{common_steps}

-- ---- at all positions

-- none was found, so the spans that are left count
none_found : {D X : Type 0} (tell : Answer → X) (value_of : D → Stretch X) (spans : List Span) (by_table : Position → Option X)
    (to : Position) (AreLeft : List Span → Type 0) (missed : ℕ) (gap mistake : Option D) → option_or gap mistake ≡ None
    → AreMergedBy (option_map value_of mistake) (option_map value_of gap) tell spans by_table to AreLeft missed
    → AreCounted tell spans by_table to AreLeft missed × HasGap None tell spans by_table to
none_found tell value_of spans by_table to AreLeft missed None None e m = m
none_found tell value_of spans by_table to AreLeft missed (Some gap) mistake e m = cc e
none_found tell value_of spans by_table to AreLeft missed None (Some mistake) e m = cc e

-- the next span is the first difference
pub first_ahead : {S D X : Type 0} (to_come : S → List Span → Type 0) (tell : Answer → X) (value_of : D → Stretch X) (merge : Merge S D)
    (spans : List Span) (by_table : Position → Option X) (span : Span) (first : D) → option_or merge.gap merge.mistake ≡ None
    → merge.spans.next ≡ Some span
    → value_of first ≡ record { position = span.low; by_section = Some (tell span.answer); by_table = None }
    → HasMerged to_come tell value_of merge spans by_table → IsFirstDifference (answer_told tell spans) by_table (value_of first)
first_ahead to_come tell value_of merge spans by_table span first none is e m =
    let now = none_found tell value_of spans by_table merge.at (IsAhead to_come merge.spans) merge.missed merge.gap merge.mistake none
    m.merged in
    gap_begins to_come tell spans by_table merge.spans merge.at span (value_of first) is (λ p k l. m.ended p k) e now.0.passed now.1

-- ---- at the positions at which the table answers

-- the table is right everywhere
right_ended : {X : Type 0} (tell : Answer → X) (spans : List Span) (by_table : Position → Option X) (at : Position)
    (AreLeft : List Span → Type 0) → ArePassed tell spans by_table at AreLeft → ((p : Position) → IsAtMost at p → by_table p ≡ None)
    → IsRightWherever by_table (answer_told tell spans)
right_ended tell spans by_table at AreLeft passed ended p = elim (order_cases p at) [
  | inl early ↦ passed.right p early
  | inr late ↦ inl (ended p late)
]

-- the addresses at which the table answers, and those that it misses, are all at which the section does
all_found : {X : Type 0} (by_table by_section : Position → Option X) (answered missed all : ℕ) → IsRightWherever by_table by_section
    → answered ≡ addresses_answered by_table → missed ≡ addresses_answered (where_missed by_table by_section)
    → (answered + missed ≤ 2 ^ 64 → all ≡ answered + missed) → all ≡ addresses_answered by_section
all_found by_table by_section answered missed all right is misses sum =
    let both = table_addresses by_table by_section (addresses_answered (where_answered by_table by_section)) (addresses_answered by_section)
    right (record { both = refl; section = refl }) in
    let parts = answered_and_missed by_table by_section in
    let added = sum (omega (arith, both, parts, is, misses, most_addresses by_section)) in
    omega (arith, both, parts, is, misses, added)

-- the addresses at which the table doesn't answer are those below a position, and those of the spans that are left there
missed_rest : {X : Type 0} (tell : Answer → X) (spans : List Span) (by_table : Position → Option X) (at : Position)
    (AreLeft : List Span → Type 0) (passed : ArePassed tell spans by_table at AreLeft)
    → ((p : Position) → IsAtMost at p → by_table p ≡ None)
    → addresses_answered (where_missed by_table (answer_told tell spans))
    ≡ addresses_answered (until at (where_missed by_table (answer_told tell spans))) + addresses_of passed.rest
missed_rest {X} tell spans by_table at AreLeft passed ended =
    count_either (is_answered missed) (is_answered (until at missed)) (is_answered (span_answer passed.rest)) (2 ^ 64) (λ a. here (whole a))
    ∙ ap (λ (n : ℕ). addresses_answered (until at missed) + n) (addresses_of_spans passed.rest passed.order)
  where
    missed : Position → Option X
    missed = where_missed by_table (answer_told tell spans)

    is_some_told : (answer : Option Answer) → is_some (option_map tell answer) ≡ is_some answer
    is_some_told None = refl
    is_some_told (Some answer) = refl

    counted : {Y : Type 0} → Option Y → ℕ
    counted answer = one_if (is_some answer)

    here : (p : Position) → counted (missed p) ≡ counted (until at missed p) + counted (span_answer passed.rest p)
    here p = elim (order_cases p at) [
      | inl early ↦
          let before : counted (until at missed p) ≡ counted (missed p) = ap counted (until_below at p missed early) in
          let none : counted (span_answer passed.rest p) ≡ 0 = ap counted (none_from passed.rest p at passed.order passed.from early) in
          omega (arith, before, none)
      | inr late ↦
          let none : counted (until at missed p) ≡ 0 = ap counted (until_from at p missed late) in
          let rest : counted (missed p) ≡ counted (span_answer passed.rest p) =
          ap counted (missed_here by_table (answer_told tell spans) p (ended p late) ∙ ap (option_map tell) (passed.same p late))
          ∙ ap one_if (is_some_told (span_answer passed.rest p)) in
          omega (arith, none, rest)
    ]

-- the positions at which the table answers are all right, and those of the section are counted
pub right_answered : {S D X : Type 0} (to_come : S → List Span → Type 0) (tell : Answer → X) (value_of : D → Stretch X)
    (merge : Merge S D) (spans : List Span) (by_table : Position → Option X) (missed all : ℕ) → merge.mistake ≡ None
    → ((total : ℕ) (list : List Span) → CountsTo (IsAhead to_come) total merge.spans merge.missed list → missed ≡ total)
    → (merge.answered + missed ≤ 2 ^ 64 → all ≡ merge.answered + missed)
    → HasMerged to_come tell value_of merge spans by_table
    → IsJudged Answered value_of (answer_told tell spans) by_table (Ok (record { answered = merge.answered; all = all }))
right_answered {S} {D} {X} to_come tell value_of merge spans by_table missed all none counts sum m =
    (right, record { both = answered; section = all_found by_table section merge.answered missed all right m.answered misses sum })
  where
    section : Position → Option X
    section = answer_told tell spans

    now : AreCounted tell spans by_table merge.at (IsAhead to_come merge.spans) merge.missed
    now = (subst (λ (mistake : Option D). AreMergedBy (option_map value_of mistake) (option_map value_of merge.gap) tell spans by_table
        merge.at (IsAhead to_come merge.spans) merge.missed) none m.merged).0

    right : IsRightWherever by_table section
    right = right_ended tell spans by_table merge.at (IsAhead to_come merge.spans) now.passed m.ended

    total : addresses_answered (where_missed by_table section)
        ≡ addresses_answered (until merge.at (where_missed by_table section)) + addresses_of now.passed.rest
    total = missed_rest tell spans by_table merge.at (IsAhead to_come merge.spans) now.passed m.ended

    misses : missed ≡ addresses_answered (where_missed by_table section)
    misses = counts (addresses_answered (where_missed by_table section)) now.passed.rest (record {
      coming = now.passed.left;
      counted = omega (arith, total, now.counted);
      most = most_addresses (where_missed by_table section);
    })

    answered : merge.answered ≡ addresses_answered (where_answered by_table section)
    answered = m.answered ∙ sym (table_addresses by_table section (addresses_answered (where_answered by_table section))
        (addresses_answered section) right (record { both = refl; section = refl }))
