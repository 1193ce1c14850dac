-- The spans of a sequence: one for each two consecutive rows at ascending positions.
use Rattle.std.specs.Prelude.{ℕ, cond, List, [], ◌∷◌, ◌++◌, flat_map, ◌≡◌, length, Option, Some, None, ◌≤◌, IsPermutation}
use Rattle.lnt_machine.specs.declared.row.Row.{Row}
use Rattle.lnt_spans.specs.declared.span.Span.{Span}
use Rattle.lnt_spans.specs.Positions.{is_below, IsAtMost}
use Rattle.lnt_sequences.specs.Sequences.{position_of, answer_of, Placed, answer_in}
use Rattle.lnt_machine.specs.Walking.{SequenceWalk, WillGive}
use Rattle.std.specs.List.{AllZip, Contains}
use Rattle.lnt_spans.specs.declared.position.Position.{Position}
use Rattle.lnt_spans.specs.Spans.{AreInOrder, span_answer}
use Rattle.lnt_sequences.specs.Extents.{AreSettled, extents_of, Extent}
use Rattle.lnt_sequences.specs.Rules.{AreApart, AreOrdered}
use Rattle.lnt_sequences.specs.Watching.{last_after}

-- the span from a row up to the next, if it isn't empty
abbrev pub span_between : ℕ → Row → Row → List Span
span_between unit row next = cond (is_below (position_of row) (position_of next))
    (record { low = position_of row; high = position_of next; answer = answer_of unit row } ∷ []) []

-- the spans of a row and the rows after it
abbrev pub spans_after : ℕ → Row → List Row → List Span
spans_after unit row [] = []
spans_after unit row (next ∷ rows) = span_between unit row next ++ spans_after unit next rows

abbrev pub row_spans : ℕ → List Row → List Span
row_spans unit [] = []
row_spans unit (row ∷ rows) = spans_after unit row rows

-- the spans of sequences, one after another
abbrev pub spans_of : List Placed → List Span
spans_of sequences = flat_map (λ (placed : Placed). row_spans placed.id.unit placed.rows) sequences

-- ---- the spans of a sequence, made one after another from its rows

-- the spans of the rows that are still to come, after the last one so far
abbrev pub spans_left : ℕ → Option Row → List Row → List Span
spans_left unit None rows = row_spans unit rows
spans_left unit (Some row) rows = spans_after unit row rows

-- at most this many rows are
abbrev pub rows_left : SequenceWalk → ℕ
rows_left walk = cond walk.ended 0 (length walk.walk.at.rest)

-- these spans are still to come
pub record HasSpans (unit : ℕ) (spans : List Span) (walk : SequenceWalk) (last : Option Row) : Type 0 where
  pub rows : List Row
  pub to_come : WillGive rows walk
  pub spans_are : spans ≡ spans_left unit last rows

-- The first of them was given, and the others are to come; or there is none.
abbrev pub GivesSpan : ℕ → List Span → Option Span → SequenceWalk → Option Row → Type 0
GivesSpan unit [] None walk last = Unit {0}
GivesSpan unit (span ∷ spans) (Some made) walk last = (made ≡ span) × HasSpans unit spans walk last
GivesSpan unit _ _ walk last = ⊥

-- ---- sequences one after another, and that their spans are in order

-- Each has rows and begins no earlier than the one before it ends, the first not below `low`, the last not beyond `high`.
abbrev pub StandInTurn : Position → List Placed → Position → Type 0
StandInTurn low [] high = IsAtMost low high
StandInTurn low (placed ∷ sequences) high = (row : Row) × (rows : List Row) × (placed.rows ≡ row ∷ rows) × IsAtMost low (position_of row)
    × StandInTurn (position_of (last_after row rows)) sequences high

-- Ordered sequences one after another have spans in order.
abbrev pub SpansInTurn : Type 0
SpansInTurn = (low high : Position) (sequences : List Placed) → StandInTurn low sequences high → AreOrdered sequences
    → AreInOrder (spans_of sequences)

-- ---- the sequences that settled extents are of, in their order

-- It is the sequence whose extent that is.
pub record IsExtentOf (sequences : List Placed) (extent : Extent) (placed : Placed) : Type 0 where
  pub contained : Contains sequences placed
  pub id_is : placed.id ≡ extent.id

-- The sequences of the entries, in this order, have spans in order. These are the spans of all sequences, and answer as all do.
-- There is at least one span for each of the entries.
pub record HaveSpansInOrder (sequences : List Placed) (entries : List Extent) : Type 0 where
  pub in_turn : List Placed
  pub each : AllZip (IsExtentOf sequences) entries in_turn
  pub permuted : IsPermutation (spans_of sequences) (spans_of in_turn)
  pub in_order : AreInOrder (spans_of in_turn)
  pub answers : (p : Position) → span_answer (spans_of in_turn) p ≡ answer_in sequences p
  pub count : length entries ≤ length (spans_of in_turn)

-- The same for ordered sequences of which no two hold the same position, and for their settled extents.
abbrev pub EntriesInTurn : Type 0
EntriesInTurn = (sequences : List Placed) (entries : List Extent) → AreSettled entries → IsPermutation (extents_of sequences) entries
    → AreApart sequences → AreOrdered sequences → HaveSpansInOrder sequences entries
