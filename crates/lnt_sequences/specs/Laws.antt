-- What the laws of sequences, their spans and their extents say.
use Rattle.std.specs.Prelude.{◌≡◌, ◌≢◌, ℕ, ◌^◌, ◌<◌, true, false, List, ◌∷◌, ◌++◌, get_or, length, None, Some, Option, option_map}
use Rattle.std.specs.List.{AllByRecursion, AllPairs, Contains}
use Rattle.lnt_wire.specs.declared.format.Format.{Format}
use Rattle.lnt_wire.specs.declared.format.Order.{Order}
use Rattle.lnt_unit.specs.Converting.{IsConverted}
use Rattle.lnt_header.specs.declared.unit_parts.UnitParts.{UnitParts}
use Rattle.lnt_machine.specs.declared.row.Row.{Row}
use Rattle.lnt_machine.specs.Matrix.{rows, Runs}
use Rattle.lnt_spans.specs.declared.answer.Answer.{Answer}
use Rattle.lnt_spans.specs.declared.position.Position.{Position}
use Rattle.lnt_spans.specs.Positions.{IsAtMost, IsBelow}
use Rattle.lnt_spans.specs.Spans.{span_answer}
use Rattle.lnt_sequences.specs.declared.collected.Collected.{Collected}
use Rattle.lnt_sequences.specs.declared.watch.MissingFile.{MissingFile}
use Rattle.lnt_sequences.specs.Evidence.{IsFall, IsMissingFile}
use Rattle.lnt_sequences.specs.Extents.{IsFirstOverlap, Overlap}
use Rattle.lnt_sequences.specs.RowSpans.{row_spans, spans_of}
use Rattle.lnt_sequences.specs.Rules.{AreApart, AreDistinct, AreOrdered, HaveFiles, IsOrdered}
use Rattle.lnt_sequences.specs.Sequences.{Placed, Holds, answer_in, answer_of, hold_alike, kept_sequences, line_answer}
use Rattle.lnt_sequences.specs.Sequences.{live_in, live_of, live_sequences, position_of, row_at, Selection}
use Rattle.lnt_sequences.specs.Watching.{Collects, CollectsRows}

-- The spans of ordered sequences answer as their rows do.
abbrev pub SpansAnswer : Type 0
SpansAnswer = (sequences : List Placed) → AreOrdered sequences → (p : Position) → span_answer (spans_of sequences) p ≡ answer_in sequences p

-- The spans of an ordered sequence hold what it holds, and answer there as its last row at or before the position.
abbrev pub SequenceSpans : Type 0
SequenceSpans = (unit : ℕ) (rows : List Row) (p : Position) → IsOrdered rows
    → (Holds rows p → span_answer (row_spans unit rows) p ≡ option_map (answer_of unit) (row_at p rows))
    × ((Holds rows p → ⊥) → span_answer (row_spans unit rows) p ≡ None)

-- Sequences that overlap aren't apart.
abbrev pub OverlapIsNotApart : Type 0
OverlapIsNotApart = (sequences : List Placed) (overlap : Overlap) → IsFirstOverlap sequences overlap → AreApart sequences → ⊥

-- Sequences of which a row falls aren't ordered.
abbrev pub FallIsNotOrdered : Type 0
FallIsNotOrdered =
    (dead : Option ℕ) (sequences : List Placed) (index : ℕ) → IsFall dead sequences index → AreOrdered (live_of dead sequences) → ⊥

-- If a row names a missing file, they don't have their files.
abbrev pub MissingFileIsNotThere : Type 0
MissingFileIsNotThere = (dead : Option ℕ) (files : ℕ) (sequences : List Placed) (missing : MissingFile)
    → IsMissingFile dead files sequences missing → HaveFiles files (live_of dead sequences) → ⊥

-- If a unit's program runs, what is collected from all its rows is collected from its live sequences.
abbrev pub CollectedUnit : Type 0
CollectedUnit =
    (dead : Option ℕ) (unit : ℕ × UnitParts) (collected : Collected) (sequences : List Placed) → Runs unit.1 → length (rows unit.1) < 2 ^ 64
    → CollectsRows dead unit.0 collected sequences (rows unit.1) → Collects collected (sequences ++ live_in dead unit)

-- The live sequences of units at different offsets have different ids.
abbrev pub DistinctSequences : Type 0
DistinctSequences = (dead : Option ℕ) (units : List (ℕ × UnitParts)) → AllPairs (λ one other. one.0 ≢ other.0) units
    → AreDistinct (live_sequences dead units)

-- The kept sequences are live. If copies aren't skipped, they are all of the live ones. If copies are skipped, of units at
-- different offsets no two that hold a position begin and end at the same ones.
pub record KeptSequences : Type 0 where
  pub all : (selection : Selection) → kept_sequences (record selection { skip = false }) ≡ live_sequences selection.dead selection.units
  pub live : (selection : Selection) (placed : Placed) → Contains (kept_sequences selection) placed
      → Contains (live_sequences selection.dead selection.units) placed
  pub differ : (selection : Selection) → AllPairs (λ one other. one.0 ≢ other.0) selection.units → AllPairs (λ (one : Placed)
      (other : Placed). hold_alike one.rows other.rows ≡ false) (kept_sequences (record selection { skip = true }))

-- The row is the last of the rows, in their order, at or before p: those after it are above p.
pub record IsLastAt (p : Position) (rows : List Row) (row : Row) : Type 0 where
  pub before : List Row
  pub past : List Row
  pub rows_are : rows ≡ before ++ row ∷ past
  pub at : IsAtMost (position_of row) p
  pub above : AllByRecursion (λ later. IsBelow p (position_of later)) past

-- If sequences share no position, at most one holds p, and they answer at p what its last row at or before p says. If none holds
-- p, there is no answer.
pub record AnswersAsHolder : Type 0 where
  pub one_alone : (sequences : List Placed) (one other : Placed) (p : Position) → AreApart sequences → Contains sequences one
      → Contains sequences other → Holds one.rows p → Holds other.rows p → one ≡ other
  pub held : (sequences : List Placed) (placed : Placed) (p : Position) → AreApart sequences → Contains sequences placed
      → Holds placed.rows p → (row : Row) × IsLastAt p placed.rows row × (answer_in sequences p ≡ Some (answer_of placed.id.unit row))
  pub none : (sequences : List Placed) (p : Position) → ((placed : Placed) → Contains sequences placed → Holds placed.rows p → ⊥)
      → answer_in sequences p ≡ None

-- The one offset is that of a unit of the one section, and the other that of the unit with the same place in the other section.
pub record StandAlike (units others : List (ℕ × UnitParts)) (offset other : ℕ) : Type 0 where
  pub place : ℕ
  pub within : place < length units
  pub unit_is : (d : ℕ × UnitParts) → offset ≡ (get_or units place d).0
  pub other_is : (d : ℕ × UnitParts) → other ≡ (get_or others place d).0

-- The answers are the same except the units' offsets, which correspond.
pub record IsAlike (units others : List (ℕ × UnitParts)) (answer other : Answer) : Type 0 where
  pub stand : StandAlike units others answer.unit other.unit
  pub same : other ≡ record answer { unit = other.unit }

-- Both sections have such answers, or neither has one.
abbrev pub AreAlike : List (ℕ × UnitParts) → List (ℕ × UnitParts) → Option Answer → Option Answer → Type 0
AreAlike units others None None = Unit {0}
AreAlike units others (Some answer) (Some other) = IsAlike units others answer other
AreAlike units others _ _ = ⊥

-- A section and what it was converted to answer alike at every position.
abbrev pub ConvertedAnswers : Type 0
ConvertedAnswers =
    (order : Order) (section : List ℕ) (format : Format) (to : Order) (result : List ℕ) → (c : IsConverted order section format to result)
    → (selection : Selection) (p : Position) → AreAlike c.units c.others (line_answer (record selection { units = c.units }) p)
    (line_answer (record selection { units = c.others }) p)
