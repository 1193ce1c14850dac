-- What sequences that share no position answer is what the last row says, at or before the position, of the one that holds it.
use Rattle.std.proofs.Common.{◌≡◌, ℕ, Bool, true, false, cond, List, [], ◌∷◌, get_or, Option, Some, None, refl, sym, ap, ◌∙◌, subst, ⊎_elim}
use Rattle.std.specs.Prelude.{MatchOption}
use Rattle.std.specs.List.{AllByRecursion, Contains}
use Rattle.std.specs.Option.{option_map, option_and_then, option_or}
use Rattle.std.proofs.lemmas.Bool.{cases_eq}
use Rattle.std.proofs.lemmas.List.{get_or_default}
use Rattle.std.proofs.lemmas.List.Elements.{Contains-get_or}
use Rattle.lnt_machine.specs.declared.row.Row.{Row}
use Rattle.lnt_spans.specs.declared.answer.Answer.{Answer}
use Rattle.lnt_spans.specs.declared.position.Position.{Position}
use Rattle.lnt_spans.specs.Positions.{IsBelow, is_at_most}
use Rattle.lnt_spans.proofs.EachTwoLaws.{each_two_from_pairs, find_none, find_only}
use Rattle.lnt_spans.proofs.PositionLaws.{at_most_from_test, below_from_not_at_most}
use Rattle.lnt_sequences.specs.Laws.{AnswersAsHolder, IsLastAt}
use Rattle.lnt_sequences.specs.Rules.{AreApart}
use Rattle.lnt_sequences.specs.Sequences.{answer_in, answer_of, holds, Holds, Placed, position_of, row_at}
use Rattle.lnt_sequences.proofs.ExtentLemmas.{Apart, not_held, test_from_holds}
use Rattle.lnt_sequences.proofs.HolderLemmas.{held_once}
use Rattle.lnt_sequences.proofs.RowLemmas.{holds_some, row_at_cons}

-- ---- the last row

abbrev pub AreAbove : Position → List Row → Type 0
AreAbove p rows = AllByRecursion (λ later. IsBelow p (position_of later)) rows

pub last_found : (p : Position) (rows : List Row) → MatchOption (row_at p rows) (AreAbove p rows) (IsLastAt p rows)
last_found p [] = tt
last_found p (row ∷ rows) =
    subst (λ (o : Option Row). MatchOption o (AreAbove p (row ∷ rows)) (IsLastAt p (row ∷ rows))) (sym (row_at_cons p row rows))
    (one_more (row_at p rows) (is_at_most (position_of row) p) refl (last_found p rows))
  where
    one_more : (o : Option Row) (t : Bool) → is_at_most (position_of row) p ≡ t → MatchOption o (AreAbove p rows) (IsLastAt p rows)
        → MatchOption (option_or o (cond t (Some row) None)) (AreAbove p (row ∷ rows)) (IsLastAt p (row ∷ rows))
    one_more (Some r) t e h =
        record {
          before = row ∷ h.before;
          past = h.past;
          rows_are = ap (λ (xs : List Row). row ∷ xs) h.rows_are;
          at = h.at;
          above = h.above;
        }
    one_more None true e h = record { before = []; past = rows; rows_are = refl; at = at_most_from_test (position_of row) p e; above = h }
    one_more None false e h = (below_from_not_at_most (position_of row) p e, h)

-- ---- the sequence

one_alone : (sequences : List Placed) (one other : Placed) (p : Position) → AreApart sequences → Contains sequences one
    → Contains sequences other → Holds one.rows p → Holds other.rows p → one ≡ other
one_alone sequences one other p apart a b h k =
    let two = each_two_from_pairs Apart (λ s t f q x y. f q y x) sequences apart in
    let other_at : get_or sequences b.0 one ≡ other = get_or_default sequences b.0 one other b.1 ∙ b.2 in
    ⊎_elim (λ (e : a.0 ≡ b.0). sym a.2 ∙ ap (λ (n : ℕ). get_or sequences n one) e ∙ other_at) (λ (ne : (a.0 ≡ b.0) → ⊥).
    absurd (two a.0 b.0 one ne a.1 b.1 p (subst (λ (s : Placed). Holds s.rows p) (sym a.2) h)
    (subst (λ (s : Placed). Holds s.rows p) (sym other_at) k))) (cases_eq a.0 b.0)

said_by : Position → Option Placed → Option Answer
said_by p found = option_and_then (λ (placed : Placed). option_map (answer_of placed.id.unit) (row_at p placed.rows)) found

held : (sequences : List Placed) (placed : Placed) (p : Position) → AreApart sequences → Contains sequences placed → Holds placed.rows p
    → (row : Row) × IsLastAt p placed.rows row × (answer_in sequences p ≡ Some (answer_of placed.id.unit row))
unfolding said_by
held sequences placed p apart c h =
    let test = test_from_holds placed.rows p h in
    let one = find_only (λ (s : Placed). holds p s.rows) sequences placed (held_once sequences p apart) c test in
    let row = holds_some placed.rows p test in (
      row.0,
      subst (λ (o : Option Row). MatchOption o (AreAbove p placed.rows) (IsLastAt p placed.rows)) row.1 (last_found p placed.rows),
      ap (said_by p) one ∙ ap (λ (o : Option Row). option_map (answer_of placed.id.unit) o) row.1,
    )

none : (sequences : List Placed) (p : Position) → ((placed : Placed) → Contains sequences placed → Holds placed.rows p → ⊥)
    → answer_in sequences p ≡ None
unfolding said_by
none sequences p h = ap (said_by p) (find_none (λ (s : Placed). holds p s.rows) sequences
    (λ k d l. not_held (get_or sequences k d).rows p (h (get_or sequences k d) (Contains-get_or sequences k d l))))

pub answers_as_holder : AnswersAsHolder
answers_as_holder = record { one_alone = one_alone; held = held; none = none }
