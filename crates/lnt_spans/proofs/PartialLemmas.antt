-- Tables that are right wherever they answer.
use Rattle.std.proofs.Common.{◌≡◌, ◌≢◌, ◌∙◌, ◌↔◌, ℕ, ◌+◌, ◌^◌, ◌<◌, ◌≤◌, is_some, IsSome}
use Rattle.std.proofs.Common.{List, [], ◌∷◌, Option, None, ◌⊎◌, inl, inr, sym, subst, arith, ⊎_elim}
use Rattle.std.specs.List.{AllByRecursion}
use Rattle.std.proofs.lemmas.Bool.{cases_lt, false≢true}
use Rattle.lnt_spans.specs.declared.answer.Answer.{Answer}
use Rattle.lnt_spans.specs.AnyStretches.{AreAllStretches, AreAnswers, BeginsStretch, IsInOne, Stretch, Position}
use Rattle.lnt_spans.specs.Partial.{addresses_answered, is_answered, whole, AreAllMistakes, AreCounts, IsFirstMistake, IsRightWherever}
use Rattle.lnt_spans.specs.Partial.{where_answered, where_missed, where_none, where_some}
use Rattle.lnt_spans.specs.Differences.{IsLeastDifference, stretch_of, Difference}
use Rattle.lnt_spans.specs.Laws.{AnswerAlike, AnswersAddresses, ChangesAtInstructions}
use Rattle.lnt_spans.proofs.CountLemmas.{count_either, no_addresses, one_if, passed_same, same_addresses}
use Rattle.std.proofs.lemmas.Grind.{common_steps}

-- ---- one position

alike_from_right : {X : Type 0} (table section : Option X) → (table ≡ None) ⊎ (table ≡ section) → where_some table section ≡ table
alike_from_right table section h = grind (arith, common_steps, false≢true)

right_from_alike : {X : Type 0} (table section : Option X) → where_some table section ≡ table → (table ≡ None) ⊎ (table ≡ section)
right_from_alike table section e = grind (arith, common_steps)

-- where the table answers, the section's answer is its own
own_answer : {X : Type 0} (table section : Option X) → IsSome table → where_some table section ≡ section
own_answer table section h = grind (arith, common_steps, false≢true)

-- where the two sides differ, the table answers
answered_from_differ : {X : Type 0} (table section : Option X) → table ≢ where_some table section → IsSome table
answered_from_differ table section h = grind (arith, common_steps)

-- ---- the whole relation

pub right_as_answered : {X : Type 0} (by_table by_section : Position → Option X)
    → IsRightWherever by_table by_section ↔ AnswerAlike (where_answered by_table by_section) by_table
right_as_answered by_table by_section = grind (arith, common_steps, alike_from_right, right_from_alike)

-- ---- the first mistake, and all stretches of mistakes

pub first_mistake : (by_table by_section : Position → Option Answer) (difference : Difference)
    → IsFirstMistake by_table by_section (stretch_of difference)
    ↔ IsLeastDifference (where_answered by_table by_section) by_table difference
first_mistake by_table by_section difference =
    grind (arith, common_steps, own_answer, alike_from_right, answered_from_differ, right_from_alike)

-- where the table answers, the two answers are those of the whole relation
answers_there : {X : Type 0} (by_table by_section : Position → Option X) (section table : Option X) (p : Position) → IsSome table
    → AreAnswers by_section by_table section table p → AreAnswers (where_answered by_table by_section) by_table section table p
answers_there by_table by_section section table p some h = grind (arith, common_steps, own_answer)

answers_back : {X : Type 0} (by_table by_section : Position → Option X) (section table : Option X) (p : Position) → IsSome table
    → AreAnswers (where_answered by_table by_section) by_table section table p → AreAnswers by_section by_table section table p
answers_back by_table by_section section table p some h = grind (arith, common_steps, own_answer)

-- a stretch at which the table answers
abbrev pub BeginsMistake : {X : Type 0} → (Position → Option X) → (Position → Option X) → Stretch X → Type 0
BeginsMistake by_table by_section stretch = IsSome stretch.by_table × BeginsStretch by_section by_table stretch

begins_back : {X : Type 0} (by_table by_section : Position → Option X) (stretch : Stretch X)
    → BeginsStretch (where_answered by_table by_section) by_table stretch
    → BeginsMistake by_table by_section stretch
begins_back by_table by_section stretch h =
    let some : IsSome stretch.by_table = subst IsSome h.here.table
    (answered_from_differ (by_table stretch.position) (by_section stretch.position)
    (λ e. h.differ (sym h.here.table ∙ e ∙ h.here.section))) in (
      some,
      record {
        here = answers_back by_table by_section stretch.by_section stretch.by_table stretch.position some h.here;
        differ = h.differ;
        longest = λ p l stay. h.longest p l
            (λ q from to. answers_there by_table by_section stretch.by_section stretch.by_table q some (stay q from to));
      },
    )

begins_there : {X : Type 0} (by_table by_section : Position → Option X) (stretch : Stretch X)
    → BeginsMistake by_table by_section stretch
    → BeginsStretch (where_answered by_table by_section) by_table stretch
begins_there by_table by_section stretch h = record {
  here = answers_there by_table by_section stretch.by_section stretch.by_table stretch.position h.0 h.1.here;
  differ = h.1.differ;
  longest = λ p l stay. h.1.longest p l
      (λ q from to. answers_back by_table by_section stretch.by_section stretch.by_table q h.0 (stay q from to));
}

-- ---- all of them

each_back : {X : Type 0} (by_table by_section : Position → Option X) (stretches : List (Stretch X))
    → AllByRecursion (BeginsStretch (where_answered by_table by_section) by_table) stretches
    → AllByRecursion (BeginsMistake by_table by_section) stretches
each_back by_table by_section [] h = tt
each_back by_table by_section (stretch ∷ stretches) h =
    (begins_back by_table by_section stretch h.0, each_back by_table by_section stretches h.1)

each_there : {X : Type 0} (by_table by_section : Position → Option X) (stretches : List (Stretch X))
    → AllByRecursion (BeginsMistake by_table by_section) stretches
    → AllByRecursion (BeginsStretch (where_answered by_table by_section) by_table) stretches
each_there by_table by_section [] h = tt
each_there by_table by_section (stretch ∷ stretches) h =
    (begins_there by_table by_section stretch h.0, each_there by_table by_section stretches h.1)

in_back : {X : Type 0} (by_table by_section : Position → Option X) (stretches : List (Stretch X)) (p : Position)
    → AllByRecursion (BeginsMistake by_table by_section) stretches
    → IsInOne (where_answered by_table by_section) by_table stretches p → IsInOne by_section by_table stretches p
in_back by_table by_section [] p each h = h
in_back by_table by_section (stretch ∷ stretches) p each (inl h) = inl (record {
  past = h.past;
  stay = λ q from to. answers_back by_table by_section stretch.by_section stretch.by_table q each.0.0 (h.stay q from to);
  here = answers_back by_table by_section stretch.by_section stretch.by_table p each.0.0 h.here;
})
in_back by_table by_section (stretch ∷ stretches) p each (inr h) = inr (in_back by_table by_section stretches p each.1 h)

in_there : {X : Type 0} (by_table by_section : Position → Option X) (stretches : List (Stretch X)) (p : Position)
    → AllByRecursion (BeginsMistake by_table by_section) stretches
    → IsInOne by_section by_table stretches p → IsInOne (where_answered by_table by_section) by_table stretches p
in_there by_table by_section [] p each h = h
in_there by_table by_section (stretch ∷ stretches) p each (inl h) = inl (record {
  past = h.past;
  stay = λ q from to. answers_there by_table by_section stretch.by_section stretch.by_table q each.0.0 (h.stay q from to);
  here = answers_there by_table by_section stretch.by_section stretch.by_table p each.0.0 h.here;
})
in_there by_table by_section (stretch ∷ stretches) p each (inr h) = inr (in_there by_table by_section stretches p each.1 h)

pub all_mistakes : {X : Type 0} (by_table by_section : Position → Option X) (stretches : List (Stretch X))
    → AreAllMistakes by_table by_section stretches
    ↔ AreAllStretches (where_answered by_table by_section) by_table stretches
all_mistakes {X} by_table by_section stretches =
    grind (arith, common_steps, each_there, alike_from_right, in_there, each_back, right_from_alike, in_back)

-- ---- how much is answered

answered_or_missed : {X : Type 0} (table section : Option X)
    → one_if (is_some section) ≡ one_if (is_some (where_some table section)) + one_if (is_some (where_none table section))
answered_or_missed table section = grind (arith, common_steps)

pub answered_and_missed : {X : Type 0} (by_table by_section : Position → Option X) → addresses_answered by_section
    ≡ addresses_answered (where_answered by_table by_section) + addresses_answered (where_missed by_table by_section)
answered_and_missed by_table by_section = grind (arith, common_steps, count_either, answered_or_missed)

pub whole_table : {X : Type 0} (by_table by_section : Position → Option X) (of_both of_section : ℕ) → AnswerAlike by_section by_table
    → AreCounts by_table by_section of_both of_section
    → IsRightWherever by_table by_section × (of_both ≡ of_section)
whole_table by_table by_section of_both of_section alike counts = grind (arith, common_steps, same_addresses, alike_from_right)

pub table_addresses : {X : Type 0} (by_table by_section : Position → Option X) (of_both of_section : ℕ)
    → IsRightWherever by_table by_section → AreCounts by_table by_section of_both of_section → of_both ≡ addresses_answered by_table
table_addresses by_table by_section of_both of_section right counts = grind (arith, common_steps, same_addresses, alike_from_right)

pub empty_table : {X : Type 0} (by_table by_section : Position → Option X) (of_both of_section : ℕ)
    → ((p : Position) → by_table p ≡ None) → AreCounts by_table by_section of_both of_section
    → IsRightWherever by_table by_section × (of_both ≡ 0)
empty_table by_table by_section of_both of_section none counts = grind (arith, common_steps, no_addresses)

fewer_answered : {X : Type 0} (table section : Option X) → one_if (is_some (where_some table section)) ≤ one_if (is_some section)
fewer_answered table section = grind (arith, common_steps)

alike_from_answered : {X : Type 0} (table section : Option X) → (table ≡ None) ⊎ (table ≡ section)
    → is_some (where_some table section) ≡ is_some section → section ≡ table
alike_from_answered table section h e = grind (arith, common_steps, false≢true)

alike_from_none : {X : Type 0} (table section : Option X) → (table ≡ None) ⊎ (table ≡ section) → section ≡ None → section ≡ table
alike_from_none table section h e = grind (arith, common_steps)

pub all_answered : {X : Type 0} (by_table by_section : Position → Option X) (of_both of_section : ℕ)
    → IsRightWherever by_table by_section → AreCounts by_table by_section of_both of_section → of_both ≡ of_section
    → ChangesAtInstructions by_table → ChangesAtInstructions by_section → AnswersAddresses by_section → AnswerAlike by_section by_table
all_answered by_table by_section of_both of_section right counts same table section fits p =
    ⊎_elim
    (λ (l : p.address < 2 ^ 64).
    section p
    ∙ alike_from_answered (by_table (whole p.address)) (by_section (whole p.address)) (right (whole p.address))
    (passed_same (is_answered (where_answered by_table by_section)) (is_answered by_section) (2 ^ 64)
    (λ a. fewer_answered (by_table (whole a)) (by_section (whole a)))
    (sym counts.both ∙ same ∙ counts.section) p.address l)
    ∙ sym (table p))
    (λ (l : 2 ^ 64 ≤ p.address). alike_from_none (by_table p) (by_section p) (right p) (fits p l))
    (cases_lt p.address (2 ^ 64))
