-- What the spans of a sequence answer is what its rows answer.
use Rattle.lnt_spans.specs.SpanKinds.{is_held}
use Rattle.std.proofs.Common.{◌≡◌, ℕ, suc, Bool, true, false, cond, ◌&&◌, List, [], ◌∷◌, ◌++◌, Option, Some, None, refl, sym, ◌∙◌, arith}
use Rattle.std.specs.List.{find}
use Rattle.std.specs.Option.{option_map, option_and_then, option_or}
use Rattle.std.proofs.lemmas.List.{reverse-append}
use Rattle.std.proofs.lemmas.List.Folds.{find-append}
use Rattle.lnt_machine.specs.declared.row.Row.{Row}
use Rattle.lnt_spans.specs.declared.answer.Answer.{Answer}
use Rattle.lnt_spans.specs.declared.position.Position.{Position}
use Rattle.lnt_spans.specs.declared.span.Span.{Span}
use Rattle.lnt_spans.specs.Positions.{IsBelow, IsAtMost, is_below, is_at_most}
use Rattle.lnt_spans.specs.Spans.{span_answer, number_spans}
use Rattle.lnt_spans.proofs.BetweenLaws.{AreBetween, between_from, none_below}
use Rattle.lnt_spans.proofs.PositionLaws.{at_most_below, at_most_from_test, at_most_itself, at_most_trans}
use Rattle.lnt_spans.proofs.PositionLaws.{below_at_most, below_from_not_at_most, below_from_test, test_at_most}
use Rattle.lnt_spans.proofs.PositionLaws.{test_below, test_not_at_most, test_not_below}
use Rattle.lnt_sequences.specs.RowSpans.{span_between, spans_after, row_spans, spans_of}
use Rattle.lnt_sequences.specs.Rules.{AreOrdered, IsOrdered}
use Rattle.lnt_sequences.specs.Sequences.{answer_in, answer_of, holds, Placed, position_of, row_at}
use Rattle.lnt_sequences.specs.Watching.{last_after}
use Rattle.lnt_sequences.proofs.WalkLaws.{last_row_is}
use Rattle.std.proofs.lemmas.Grind.{common_steps}

-- ---- one span

pub span_none : (unit : ℕ) (row next : Row) → IsAtMost (position_of next) (position_of row) → span_between unit row next ≡ []
span_none unit row next h = rw (test_not_below (position_of row) (position_of next) h) refl

-- positions never fall from a row on
abbrev pub IsRising : Row → List Row → Type 0
IsRising row [] = Unit {0}
IsRising row (next ∷ rows) = IsAtMost (position_of row) (position_of next) × IsRising next rows

-- ---- rows

pub rising_from_ordered : (row : Row) (rows : List Row) → IsOrdered (row ∷ rows) → IsRising row rows
rising_from_ordered row [] o = tt
rising_from_ordered row (next ∷ rows) o =
    (o 0 1 row (omega arith) (omega arith), rising_from_ordered next rows (λ i j d l m. o (suc i) (suc j) d (omega arith) (omega arith)))

pub rising_last : (row : Row) (rows : List Row) → IsRising row rows → IsAtMost (position_of row) (position_of (last_after row rows))
rising_last row [] h = at_most_itself (position_of row)
rising_last row (next ∷ rows) h = at_most_trans h.0 (rising_last next rows h.1)

-- ---- the spans are in order

step_between : (unit : ℕ) (row next : Row) (spans : List Span) (c : Position) (t : Bool) → is_below (position_of row) (position_of next) ≡ t
    → IsAtMost (position_of row) (position_of next) → AreBetween (position_of next) spans c
    → AreBetween (position_of row) (cond t (record { low = position_of row; high = position_of next; answer = answer_of unit row } ∷ []) []
    ++ spans) c
step_between unit row next spans c true e h k =
    (at_most_itself (position_of row), below_from_test (position_of row) (position_of next) e, k)
step_between unit row next spans c false e h k = between_from (position_of row) (position_of next) c spans h k

pub after_between : (unit : ℕ) (row : Row) (rows : List Row) → IsRising row rows
    → AreBetween (position_of row) (spans_after unit row rows) (position_of (last_after row rows))
after_between unit row [] h = at_most_itself (position_of row)
after_between unit row (next ∷ rows) h = step_between unit row next (spans_after unit next rows) (position_of (last_after next rows))
    (is_below (position_of row) (position_of next)) refl h.0 (after_between unit next rows h.1)

-- ---- the last row at or before a position

pub row_at_cons : (p : Position) (row : Row) (rows : List Row)
    → row_at p (row ∷ rows) ≡ option_or (row_at p rows) (cond (is_at_most (position_of row) p) (Some row) None)
row_at_cons p row rows = grind (arith, common_steps, reverse-append, find-append)

or_some : (o : Option Row) (row : Row) → (found : Row) × (option_or o (Some row) ≡ Some found)
or_some None row = (row, refl)
or_some (Some x) row = (x, refl)

pub some_at : (p : Position) (row : Row) (rows : List Row) → IsAtMost (position_of row) p → (found : Row)
    × (row_at p (row ∷ rows) ≡ Some found)
some_at p row rows h =
    let some = or_some (row_at p rows) row in
    (some.0, row_at_cons p row rows ∙ rw (test_at_most (position_of row) p h) some.1)

pub none_at : (p : Position) (row : Row) (rows : List Row) → IsRising row rows → IsBelow p (position_of row) → row_at p (row ∷ rows) ≡ None
none_at p row [] h k = row_at_cons p row [] ∙ rw (test_not_at_most (position_of row) p k) refl
none_at p row (next ∷ rows) h k = row_at_cons p row (next ∷ rows)
    ∙ rw (test_not_at_most (position_of row) p k, none_at p next rows h.1 (below_at_most k h.0)) refl

-- what one span more answers
pub span_answer-append : (xs ys : List Span) (p : Position) → span_answer (xs ++ ys) p ≡ option_or (span_answer xs p) (span_answer ys p)
span_answer-append [] ys p = refl
span_answer-append (span ∷ xs) ys p = step_append span xs ys p (is_held number_spans p span) (span_answer-append xs ys p)
  where
    step_append : (span : Span) (xs ys : List Span) (p : Position) (t : Bool)
        → span_answer (xs ++ ys) p ≡ option_or (span_answer xs p) (span_answer ys p)
        → option_map (λ (s : Span). s.answer) (cond t (Some span) (find (is_held number_spans p) (xs ++ ys)))
        ≡ option_or (option_map (λ (s : Span). s.answer) (cond t (Some span) (find (is_held number_spans p) xs))) (span_answer ys p)
    step_append span xs ys p true h = refl
    step_append span xs ys p false h = h

-- where the next row is at or before p, the span before it doesn't hold p
pass : (unit : ℕ) (row next : Row) (p : Position) (t : Bool) → IsAtMost (position_of next) p
    → span_answer (cond t (record { low = position_of row; high = position_of next; answer = answer_of unit row } ∷ []) []) p ≡ None
pass unit row next p false h = refl
pass unit row next p true h = rw (test_not_below p (position_of next) h) (both_none (is_at_most (position_of row) p))
  where
    both_none : (b : Bool) → option_map (λ (s : Span). s.answer)
        (cond (b && false) (Some (record { low = position_of row; high = position_of next; answer = answer_of unit row })) None) ≡ None
    both_none true = refl
    both_none false = refl

pub after_answers : (unit : ℕ) (row : Row) (rows : List Row) (p : Position) → IsRising row rows → IsAtMost (position_of row) p
    → span_answer (spans_after unit row rows) p ≡ cond (is_below p (position_of (last_after row rows)))
    (option_map (answer_of unit) (row_at p (row ∷ rows))) None
after_answers unit row [] p h k = rw (test_not_below p (position_of row) k) refl
after_answers unit row (next ∷ rows) p h k = by_next (is_at_most (position_of next) p) refl (λ at. after_answers unit next rows p h.1 at)
  where
    by_next : (t : Bool) → is_at_most (position_of next) p ≡ t → (IsAtMost (position_of next) p
        → span_answer (spans_after unit next rows) p ≡ cond (is_below p (position_of (last_after next rows)))
        (option_map (answer_of unit) (row_at p (next ∷ rows))) None)
        → span_answer (spans_after unit row (next ∷ rows)) p ≡ cond (is_below p (position_of (last_after next rows)))
        (option_map (answer_of unit) (row_at p (row ∷ next ∷ rows))) None
    by_next true e rest =
        let at = at_most_from_test (position_of next) p e in
        let found = some_at p next rows at in
        let same : row_at p (row ∷ next ∷ rows) ≡ row_at p (next ∷ rows) = row_at_cons p row (next ∷ rows) ∙ rw found.1 refl in
        span_answer-append (span_between unit row next) (spans_after unit next rows) p
        ∙ rw (pass unit row next p (is_below (position_of row) (position_of next)) at, same) (rest at)
    by_next false e rest =
        let above = below_from_not_at_most (position_of next) p e in
        let one : row_at p (row ∷ next ∷ rows) ≡ Some row = row_at_cons p row (next ∷ rows)
        ∙ rw (none_at p next rows h.1 above, test_at_most (position_of row) p k) refl in
        rw (
          one,
          test_below p (position_of (last_after next rows)) (below_at_most above (rising_last next rows h.1)),
          test_below
              (position_of row) (position_of next) (at_most_below k above),
          test_at_most (position_of row) p k,
          test_below p (position_of next)
              above,
        ) refl

-- ---- A sequence answers by its spans as by its rows.

abbrev pub sequence_answer : ℕ → List Row → Position → Option Answer
sequence_answer unit rows p = cond (holds p rows) (option_map (answer_of unit) (row_at p rows)) None

abbrev pub IsRisingList : List Row → Type 0
IsRisingList [] = Unit {0}
IsRisingList (row ∷ rows) = IsRising row rows

pub rising_list : (rows : List Row) → IsOrdered rows → IsRisingList rows
rising_list [] o = tt
rising_list (row ∷ rows) o = rising_from_ordered row rows o

pub holds_is : (row : Row) (rows : List Row) (p : Position)
    → holds p (row ∷ rows) ≡ (is_at_most (position_of row) p && is_below p (position_of (last_after row rows)))
holds_is row rows p = grind (arith, common_steps, last_row_is)

pub row_spans_answer : (unit : ℕ) (rows : List Row) (p : Position) → IsRisingList rows
    → span_answer (row_spans unit rows) p ≡ sequence_answer unit rows p
row_spans_answer unit [] p h = refl
row_spans_answer unit (row ∷ rows) p h = by_first (is_at_most (position_of row) p) refl
  where
    by_first : (t : Bool) → is_at_most (position_of row) p ≡ t
        → span_answer (spans_after unit row rows) p ≡ sequence_answer unit (row ∷ rows) p
    by_first true e = rw (holds_is row rows p, e) (after_answers unit row rows p h (at_most_from_test (position_of row) p e))
    by_first false e = rw (holds_is row rows p, e)
        (none_below (position_of row) (position_of (last_after row rows)) (spans_after unit row rows) p (after_between unit row rows h)
        (below_from_not_at_most (position_of row) p e))

-- where it holds p, there is a row at or before p
pub holds_some : (rows : List Row) (p : Position) → holds p rows ≡ true → (found : Row) × (row_at p rows ≡ Some found)
holds_some [] p h = absurd cc
holds_some (row ∷ rows) p h = some_at p row rows (at_most_from_test (position_of row) p
    (first_true (is_at_most (position_of row) p) (is_below p (position_of (last_after row rows))) (sym (holds_is row rows p) ∙ h)))
  where
    first_true : (a b : Bool) → (a && b) ≡ true → a ≡ true
    first_true true b e = refl
    first_true false b e = e

pub spans_answer : (sequences : List Placed) → AreOrdered sequences → (p : Position)
    → span_answer (spans_of sequences) p ≡ answer_in sequences p
spans_answer [] o p = refl
spans_answer (placed ∷ sequences) o p = span_answer-append (row_spans placed.id.unit placed.rows) (spans_of sequences) p
    ∙ rw (row_spans_answer placed.id.unit placed.rows p (rising_list placed.rows o.0), spans_answer sequences o.1 p)
    (one_more (holds p placed.rows) (find (λ (q : Placed). holds p q.rows) sequences) (λ e. holds_some placed.rows p e))
  where
    one_more : (t : Bool) (others : Option Placed) → (t ≡ true → (found : Row) × (row_at p placed.rows ≡ Some found))
        → option_or (cond t (option_map (answer_of placed.id.unit) (row_at p placed.rows)) None)
        (option_and_then (λ (q : Placed). option_map (answer_of q.id.unit) (row_at p q.rows)) others)
        ≡ option_and_then (λ (q : Placed). option_map (answer_of q.id.unit) (row_at p q.rows)) (cond t (Some placed) others)
    one_more false others some = refl
    one_more true others some = let found = some refl in rw found.1 refl
