-- All spans of an index, one after another: a sequence is decoded when its spans come next.
use Rattle.std.specs.Prelude.{◌≡◌, ℕ, ◌+◌, ◌≤◌, List, [], ◌∷◌, ◌++◌, length, Option, Some, None, IsPermutation, option_map}
use Rattle.std.specs.List.{AllZip}
use Rattle.lnt_machine.specs.declared.row.Row.{Row}
use Rattle.lnt_machine.specs.Walking.{KeptProgram, SequenceWalk}
use Rattle.lnt_spans.specs.declared.position.Position.{Position}
use Rattle.lnt_spans.specs.declared.span.Span.{Span}
use Rattle.lnt_spans.specs.Spans.{FitSpans, AreInOrder, span_answer}
use Rattle.lnt_sequences.specs.declared.extent.Extent.{Extent}
use Rattle.lnt_sequences.specs.RowSpans.{spans_of, HasSpans, rows_left}
use Rattle.lnt_sequences.specs.Sequences.{answer_of, Holds, kept_sequences, line_answer, Placed, row_at, Selection}
use Rattle.lnt_lines.specs.Contents.{AreWhole}
use Rattle.lnt_lines.specs.Indexed.{IsSequenceIn}

-- the units and their programs, the entries of the sequences that haven't begun, and the rest of the current one, in the
-- unit at an offset, with its last row so far
pub record Cursor : Type 0 where
  pub units : List ℕ
  pub programs : List KeptProgram
  pub entries : List Extent
  pub unit : ℕ
  pub rows : Option SequenceWalk
  pub last : Option Row

-- The spans of the sequences that haven't begun are these.
pub record ComeLater (spans : List Span) (cursor : Cursor) : Type 0 where
  pub sequences : List Placed
  pub each : AllZip (λ entry placed. (placed.id ≡ entry.id) × IsSequenceIn cursor.units cursor.programs entry.id placed.rows) cursor.entries
      sequences
  pub spans_are : spans ≡ spans_of sequences

-- Those of the current sequence that are still to come are these.
abbrev pub ComeHere : List Span → Cursor → Type 0
ComeHere spans cursor = elim cursor.rows [ None ↦ spans ≡ [] | Some rows ↦ HasSpans cursor.unit spans rows cursor.last ]

-- These spans are still to come.
pub record AreToCome (cursor : Cursor) (spans : List Span) : Type 0 where
  pub here : List Span
  pub later : List Span
  pub come_here : ComeHere here cursor
  pub come_later : ComeLater later cursor
  pub spans_are : spans ≡ here ++ later

-- What is to come are the spans of the kept sequences of these units, each once: they are in order, answer as the rows do at
-- every position, have all parts of an answer, and are no fewer than this many. Each of their numbers has at most 64 bits.
pub record GivesAllOf (selection : Selection) (count : ℕ) (cursor : Cursor) : Type 0 where
  pub spans : List Span
  pub to_come : AreToCome cursor spans
  pub spans_are : IsPermutation (spans_of (kept_sequences selection)) spans
  pub in_order : AreInOrder spans
  pub answers : (p : Position) → span_answer spans p ≡ line_answer selection p
  pub whole : AreWhole spans
  pub enough : count ≤ length spans
  pub fits : FitSpans spans

-- What is to come are the spans of this sequence: they are in order, and answer as its rows do at the positions that it holds, and
-- nowhere else.
pub record GivesSequence (placed : Placed) (cursor : Cursor) : Type 0 where
  pub spans : List Span
  pub to_come : AreToCome cursor spans
  pub in_order : AreInOrder spans
  pub held : (p : Position) → Holds placed.rows p → span_answer spans p ≡ option_map (answer_of placed.id.unit) (row_at p placed.rows)
  pub unheld : (p : Position) → (Holds placed.rows p → ⊥) → span_answer spans p ≡ None

-- ---- how many there are at most

-- more than the bytes of any of the programs
abbrev pub room_of : List KeptProgram → ℕ
room_of [] = 1
room_of (kept ∷ programs) = length kept.program + room_of programs

-- this many spans for each of the sequences
abbrev pub room_for : ℕ → List Extent → ℕ
room_for room [] = 0
room_for room (entry ∷ entries) = room + room_for room entries

abbrev pub rows_here : Option SequenceWalk → ℕ
rows_here None = 0
rows_here (Some rows) = rows_left rows

-- at most this many spans are to come
abbrev pub most_left : Cursor → ℕ
most_left cursor = rows_here cursor.rows + room_for (room_of cursor.programs) cursor.entries
