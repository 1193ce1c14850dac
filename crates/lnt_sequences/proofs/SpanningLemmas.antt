-- The spans of a sequence, row by row.
use Rattle.std.proofs.Common.{◌≡◌, ℕ, List, [], ◌∷◌, ◌++◌, Option, Some, None, refl, sym, ap, ◌∙◌, subst}
use Rattle.lnt_machine.specs.declared.row.Row.{Row}
use Rattle.lnt_machine.specs.Walking.{GivesFirstRow, GivesRow, SequenceWalk, WillGive}
use Rattle.lnt_spans.specs.declared.span.Span.{Span}
use Rattle.lnt_spans.specs.Positions.{IsAtMost, IsBelow}
use Rattle.lnt_spans.proofs.PositionLaws.{test_below, test_not_below}
use Rattle.lnt_sequences.specs.RowSpans.{span_between, spans_after, GivesSpan, HasSpans, spans_left}
use Rattle.lnt_sequences.specs.Sequences.{answer_of, position_of}

-- the first row
pub spans_first : (unit : ℕ) (spans : List Span) (old new : SequenceWalk) (last : Option Row) (row : Row) → HasSpans unit spans old last
    → GivesRow old (Some row) new → last ≡ None → HasSpans unit spans new (Some row)
spans_first unit spans old new last row has gives none =
    by_rows has.rows (has.spans_are ∙ ap (λ (l : Option Row). spans_left unit l has.rows) none) (gives has.rows has.to_come)
  where
    by_rows : (rows : List Row) → spans ≡ spans_left unit None rows → GivesFirstRow rows (Some row) new → HasSpans unit spans new (Some row)
    by_rows [] are g = absurd g
    by_rows (first ∷ others) are g = record {
      rows = others;
      to_come = g.1;
      spans_are = are ∙ ap (λ (r : Row). spans_after unit r others) (sym g.0);
    }

after_last : (unit : ℕ) (spans : List Span) (old new : SequenceWalk) (last : Option Row) (previous row : Row)
    → HasSpans unit spans old last → GivesRow old (Some row) new → last ≡ Some previous
    → (others : List Row) × WillGive others new × (spans ≡ span_between unit previous row ++ spans_after unit row others)
after_last unit spans old new last previous row has gives some =
    by_rows has.rows (has.spans_are ∙ ap (λ (l : Option Row). spans_left unit l has.rows) some) (gives has.rows has.to_come)
  where
    by_rows : (rows : List Row) → spans ≡ spans_left unit (Some previous) rows → GivesFirstRow rows (Some row) new
        → (others : List Row) × WillGive others new × (spans ≡ span_between unit previous row ++ spans_after unit row others)
    by_rows [] are g = absurd g
    by_rows (first ∷ others) are g = (
      others,
      g.1,
      are
          ∙ ap (λ (r : Row). span_between unit previous r ++ spans_after unit r others) (sym g.0),
    )

-- a row at a higher position
pub spans_here : (unit : ℕ) (spans : List Span) (old new : SequenceWalk) (last : Option Row) (previous row : Row)
    → HasSpans unit spans old last → GivesRow old (Some row) new → last ≡ Some previous → IsBelow (position_of previous) (position_of row)
    → GivesSpan unit spans (Some (record { low = position_of previous; high = position_of row; answer = answer_of unit previous })) new
    (Some row)
spans_here unit spans old new last previous row has gives some below =
    let found = after_last unit spans old new last previous row has gives some in
    let test = test_below (position_of previous) (position_of row) below in
    let are : spans ≡ record { low = position_of previous; high = position_of row; answer = answer_of unit previous } ∷ spans_after unit
    row found.0 = found.2 ∙ rw test refl in
    subst (λ (list : List Span). GivesSpan unit list
    (Some (record { low = position_of previous; high = position_of row; answer = answer_of unit previous })) new (Some row)) (sym are)
    (refl, record { rows = found.0; to_come = found.1; spans_are = refl })

-- one that isn't
pub spans_pass : (unit : ℕ) (spans : List Span) (old new : SequenceWalk) (last : Option Row) (previous row : Row)
    → HasSpans unit spans old last → GivesRow old (Some row) new → last ≡ Some previous
    → IsAtMost (position_of row) (position_of previous) → HasSpans unit spans new (Some row)
spans_pass unit spans old new last previous row has gives some at =
    let found = after_last unit spans old new last previous row has gives some in
    let test = test_not_below (position_of previous) (position_of row) at in
    record { rows = found.0; to_come = found.1; spans_are = found.2 ∙ rw test refl }

-- no row is left
pub spans_end : (unit : ℕ) (spans : List Span) (old new : SequenceWalk) (last after : Option Row) → HasSpans unit spans old last
    → GivesRow old None new → GivesSpan unit spans None new after
spans_end unit spans old new last after has gives =
    subst (λ (list : List Span). GivesSpan unit list None new after)
    (sym (by_rows has.rows last has.spans_are (gives has.rows has.to_come))) tt
  where
    by_rows : (rows : List Row) (last : Option Row) → spans ≡ spans_left unit last rows → GivesFirstRow rows None new → spans ≡ []
    by_rows [] None are g = are
    by_rows [] (Some row) are g = are
    by_rows (first ∷ others) last are g = absurd g
