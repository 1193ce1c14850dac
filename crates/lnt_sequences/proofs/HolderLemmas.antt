-- The extent that holds a position, found by bisection, and what its sequence answers.
use Rattle.std.proofs.Common.{◌≡◌, ◌≢◌, ℕ, ◌+◌, ◌-◌, ◌<◌, ◌≤◌, true, false, List, Option, None, sym, ap, subst, arith, length, get_or}
use Rattle.std.proofs.Common.{⊎_elim, All, IsPermutation, option_and_then, option_map}
use Rattle.std.proofs.lemmas.Bool.{cases_eq, cases_lt}
use Rattle.std.proofs.lemmas.List.{get_or_default}
use Rattle.std.proofs.lemmas.List.Elements.{Contains-get_or}
use Rattle.std.proofs.lemmas.List.Sorted.{All-permutation, Contains-permutation, IsPermutation-sym}
use Rattle.lnt_spans.specs.declared.position.Position.{Position}
use Rattle.lnt_spans.specs.Positions.{IsBelow, IsAtMost}
use Rattle.lnt_spans.proofs.EachTwoLaws.{each_two_from_pairs, find_none, find_only}
use Rattle.lnt_spans.proofs.PositionLaws.{at_most_trans, below_at_most, below_is_at_most, not_both}
use Rattle.lnt_sequences.specs.Extents.{AnswersFor, AreSettled, extents_of, HolderAnswers, IsHolder, IsHolderAt, IsIn, NoneHolds, Extent}
use Rattle.lnt_sequences.specs.Rules.{AreApart}
use Rattle.lnt_sequences.specs.Sequences.{answer_in, answer_of, holds, Placed, row_at}
use Rattle.lnt_sequences.proofs.ExtentLemmas.{all_back, holds_from_test, IsEmpty, IsSketch, not_held, of_sequence, sketch, test_from_holds}
use Rattle.lnt_sequences.proofs.OverlapLemmas.{ends_before}
use Rattle.std.proofs.lemmas.Grind.{common_steps}

-- ---- what is known of the places on both sides

pub record IsBracket (extents : List Extent) (p : Position) (low high : ℕ) : Type 0 where
  pub upto : low ≤ high
  pub within : high ≤ length extents
  pub before : (k : ℕ) (d : Extent) → k < low → IsAtMost (get_or extents k d).high p
  pub past : (k : ℕ) (d : Extent) → high ≤ k → k < length extents → IsBelow p (get_or extents k d).low

in_turn : (extents : List Extent) → AreSettled extents → (i j : ℕ) (d : Extent) → i < j → j < length extents
    → IsAtMost (get_or extents i d).high (get_or extents j d).low
in_turn extents s i j d lt l = ends_before extents s.sorted (length extents - 1) s.apart i j d (omega arith) lt l

pub bracket_below : (extents : List Extent) (p : Position) (low high middle : ℕ) → AreSettled extents → IsBracket extents p low high
    → low ≤ middle → middle < high → (d : Extent) → IsBelow p (get_or extents middle d).low → IsBracket extents p low middle
bracket_below extents p low high middle o b h k e here =
    let within = b.within in
    let side : (d : Extent) → IsBelow p (get_or extents middle d).low = λ d. subst (λ (s : Extent). IsBelow p s.low)
    (get_or_default extents middle e d (omega arith)) here in
    record {
      upto = h;
      within = omega arith;
      before = b.before;
      past = λ i d le l. ⊎_elim (λ (e : middle ≡ i). subst (λ (m : ℕ). IsBelow p (get_or extents m d).low) e (side d))
          (λ (ne : middle ≡ i → ⊥). below_at_most (side d)
          (at_most_trans (below_is_at_most (o.some middle d (omega arith))) (in_turn extents o middle i d (omega arith) l)))
          (cases_eq middle i);
    }

pub bracket_above : (extents : List Extent) (p : Position) (low high middle : ℕ) → AreSettled extents → IsBracket extents p low high
    → low ≤ middle → middle < high → (d : Extent) → IsAtMost (get_or extents middle d).high p → IsBracket extents p (middle + 1) high
bracket_above extents p low high middle o b h k e here =
    let within = b.within in
    let side : (d : Extent) → IsAtMost (get_or extents middle d).high p = λ d. subst (λ (s : Extent). IsAtMost s.high p)
    (get_or_default extents middle e d (omega arith)) here in
    record {
      upto = omega arith;
      within = b.within;
      past = b.past;
      before = λ i d lt. ⊎_elim (λ (e : middle ≡ i). subst (λ (m : ℕ). IsAtMost (get_or extents m d).high p) e (side d))
          (λ (ne : middle ≡ i → ⊥). at_most_trans (in_turn extents o i middle d (omega arith) (omega arith))
          (at_most_trans (below_is_at_most (o.some middle d (omega arith))) (side d)))
          (cases_eq middle i);
    }

pub found_inside : (extents : List Extent) (p : Position) (middle : ℕ) (e : Extent) → middle < length extents
    → IsAtMost (get_or extents middle e).low p → IsBelow p (get_or extents middle e).high → IsHolderAt extents p middle
found_inside extents p middle e l from below = (
  l,
  λ d. subst (IsHolder extents p) (get_or_default extents middle e d l)
      (record { contained = Contains-get_or extents middle e l; holds = record { from = from; below = below } }),
)

pub found_nowhere : (extents : List Extent) (p : Position) (low high : ℕ) → IsBracket extents p low high → high ≤ low → NoneHolds extents p
found_nowhere extents p low high b h = grind (arith, common_steps, not_both, cases_lt)

-- ---- the sequence that holds a position

pub held_once : (sequences : List Placed) (p : Position) → AreApart sequences
    → (i j : ℕ) (d : Placed) → i ≢ j → i < length sequences → j < length sequences → holds p (get_or sequences i d).rows ≡ true
    → holds p (get_or sequences j d).rows ≡ true → ⊥
held_once sequences p apart =
    each_two_from_pairs (λ (a b : Placed). holds p a.rows ≡ true → holds p b.rows ≡ true → ⊥) (λ a b n x y. n y x) sequences
    (λ i j d lt l x y. apart i j d lt l p (holds_from_test (get_or sequences i d).rows p x)
    (holds_from_test (get_or sequences j d).rows p y))

pub answer_none : (sequences : List Placed) (extents : List Extent) (p : Position) → IsPermutation (extents_of sequences) extents
    → NoneHolds extents p → answer_in sequences p ≡ None
answer_none sequences extents p permuted none =
    let before : NoneHolds (extents_of sequences) p = All-permutation (λ (e : Extent). IsIn p e → ⊥) extents (extents_of sequences)
    (IsPermutation-sym (extents_of sequences) extents permuted) none in
    let each = all_back (λ (e : Extent). IsIn p e → ⊥) sequences before in
    let all : All (λ (s : Placed). holds p s.rows ≡ false) sequences = λ k d l. not_held (get_or sequences k d).rows p (λ h. ⊎_elim
    (λ (empty : IsEmpty (get_or sequences k d)). empty.none p h)
    (λ (one : (e : Extent) × IsSketch (get_or sequences k d) e). each k d l one.0 one.1 (one.1.into p h))
    (sketch (get_or sequences k d))) in
    ap (λ (o : Option Placed). option_and_then (λ (placed : Placed). option_map (answer_of placed.id.unit) (row_at p placed.rows)) o)
    (find_none (λ (s : Placed). holds p s.rows) sequences all)

answer_some : (sequences : List Placed) (extents : List Extent) (p : Position) (extent : Extent)
    → IsPermutation (extents_of sequences) extents → AreApart sequences → IsHolder extents p extent → AnswersFor sequences p extent
answer_some sequences extents p extent permuted apart is =
    let found = of_sequence sequences extent
    (Contains-permutation extents (extents_of sequences) extent (IsPermutation-sym (extents_of sequences) extents permuted) is.contained) in
    let one = find_only (λ (s : Placed). holds p s.rows) sequences found.0 (held_once sequences p apart) found.1
    (test_from_holds found.0.rows p (found.2.back p is.holds)) in
    record {
      placed = found.0;
      contained = found.1;
      id_is = sym found.2.id;
      answer_is = ap (λ (o : Option Placed). option_and_then
          (λ (placed : Placed). option_map (answer_of placed.id.unit) (row_at p placed.rows)) o) one;
    }

pub holder_answers : HolderAnswers
holder_answers = record { none = answer_none; some = answer_some }
