-- What a bisection of spans in order knows of the spans that it has ruled out.
use Rattle.std.proofs.Common.{◌≡◌, ℕ, ◌+◌, ◌<◌, ◌≤◌, true, false, List, Option, Some, None, sym, ap, subst, arith, length, get_or, ⊎_elim}
use Rattle.std.specs.Option.{option_map}
use Rattle.std.proofs.lemmas.List.Elements.{Contains-get_or}
use Rattle.std.proofs.lemmas.Bool.{cases_eq, cases_lt}
use Rattle.std.proofs.lemmas.List.{get_or_default}
use Rattle.lnt_spans.specs.Positions.{IsBelow, IsAtMost, Position}
use Rattle.lnt_spans.specs.Spans.{number_spans, span_answer, AreInOrder, Span}
use Rattle.lnt_spans.specs.SpanKinds.{is_held}
use Rattle.lnt_spans.proofs.PositionLaws.{at_most_trans, below_at_most, below_is_at_most, not_both}
use Rattle.lnt_spans.proofs.EachTwoLaws.{find_only, find_none, each_two_from_pairs}
use Rattle.lnt_spans.proofs.BetweenLaws.{InSpan, in_span, test_in_span, ends_before, none_empty}
use Rattle.lnt_spans.specs.Stepping.{IsBracket}
use Rattle.std.proofs.lemmas.Grind.{common_steps}

pub bracket_below : (spans : List Span) (p : Position) (low high middle : ℕ) → AreInOrder spans → IsBracket spans p low high → low ≤ middle
    → middle < high
    → (d : Span) → IsBelow p (get_or spans middle d).low → IsBracket spans p low middle
bracket_below spans p low high middle o b h k e here =
    let within = b.within in
    let side : (d : Span)
    → IsBelow p (get_or spans middle d).low = λ d. subst (λ (s : Span). IsBelow p s.low) (get_or_default spans middle e d (omega arith))
    here in
    record {
      upto = h;
      within = omega arith;
      before = b.before;
      past = λ i d le l.
          ⊎_elim
          (λ (e : middle ≡ i). subst (λ (m : ℕ). IsBelow p (get_or spans m d).low) e (side d))
          (λ (ne : middle ≡ i → ⊥).
          below_at_most (side d)
          (at_most_trans (below_is_at_most (none_empty spans o middle d (omega arith))) (ends_before spans o middle i d (omega arith) l)))
          (cases_eq middle i);
    }

pub bracket_above : (spans : List Span) (p : Position) (low high middle : ℕ) → AreInOrder spans → IsBracket spans p low high → low ≤ middle
    → middle < high
    → (d : Span) → IsAtMost (get_or spans middle d).high p → IsBracket spans p (middle + 1) high
bracket_above spans p low high middle o b h k e here =
    let within = b.within in
    let side : (d : Span)
    → IsAtMost (get_or spans middle d).high p = λ d. subst (λ (s : Span). IsAtMost s.high p) (get_or_default spans middle e d (omega arith))
    here in
    record {
      upto = omega arith;
      within = b.within;
      past = b.past;
      before = λ i d lt.
          ⊎_elim
          (λ (e : middle ≡ i). subst (λ (m : ℕ). IsAtMost (get_or spans m d).high p) e (side d))
          (λ (ne : middle ≡ i → ⊥).
          at_most_trans (ends_before spans o i middle d (omega arith) (omega arith))
          (at_most_trans (below_is_at_most (none_empty spans o middle d (omega arith))) (side d)))
          (cases_eq middle i);
    }

pub found_inside : (spans : List Span) (p : Position) (middle : ℕ) (d : Span) → AreInOrder spans → middle < length spans
    → IsAtMost (get_or spans middle d).low p × IsBelow p (get_or spans middle d).high
    → Some (get_or spans middle d).answer ≡ span_answer spans p
found_inside spans p middle d o l h =
    let span = get_or spans middle d in
    let one = find_only (is_held number_spans p) spans span
    (each_two_from_pairs (λ s t. is_held number_spans p s ≡ true → is_held number_spans p t ≡ true → ⊥) (λ s t n x y. n y x) spans
    (λ i j e lt lj x y. not_both (in_span p (get_or spans i e) x).below
    (at_most_trans (ends_before spans o i j e lt lj) (in_span p (get_or spans j e) y).from)))
    (Contains-get_or spans middle d l) (test_in_span p span (record { from = h.0; below = h.1 })) in
    sym (ap (λ (q : Option Span). option_map (λ (s : Span). s.answer) q) one)

not_inside : (p : Position) (s : Span) → (InSpan p s → ⊥) → is_held number_spans p s ≡ false
not_inside p s h = grind (arith, common_steps, in_span)

pub found_nowhere : (spans : List Span) (p : Position) (low high : ℕ) → IsBracket spans p low high → high ≤ low → None ≡ span_answer spans p
found_nowhere spans p low high b h =
    let none = find_none (is_held number_spans p) spans
    (λ k d l.
    not_inside p (get_or spans k d)
    (λ i.
    ⊎_elim
    (λ (lt : k < low). not_both i.below (b.before k d lt))
    (λ (le : low ≤ k). not_both (b.past k d (omega arith) l) i.from)
    (cases_lt k low))) in
    sym (ap (λ (q : Option Span). option_map (λ (s : Span). s.answer) q) none)
