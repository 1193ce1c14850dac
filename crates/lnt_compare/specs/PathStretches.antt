-- All stretches at which a section and a table by path answer differently, each as a difference: its first position, and the
-- two answers that stay the same from there on.
use Rattle.std.specs.Prelude.{List, Option, map, option_map, ◌≡◌, ◌≢◌, [], ◌∷◌}
use Rattle.lnt_compare.specs.declared.path_tables.answer.AnswerByPath.{AnswerByPath}
use Rattle.lnt_records.specs.PathSpans.{PathAnswer, PathSpan}
use Rattle.lnt_spans.specs.declared.position.Position.{Position}
use Rattle.lnt_spans.specs.AnyStretches.{AreAllStretches, Stretch}
use Rattle.lnt_compare.specs.declared.path_tables.answer.DifferenceByPath.{DifferenceByPath}
use Rattle.std.specs.List.{AllByRecursion, Contains}
use Rattle.lnt_spans.specs.Positions.{IsAtMost}

-- the value of an answer that is held
abbrev pub told_path_answer : AnswerByPath → PathAnswer
told_path_answer answer = record { path = answer.path.items; line = answer.line; column = answer.column }

-- a difference as a stretch
abbrev pub stretch_of : DifferenceByPath → Stretch PathAnswer
stretch_of difference = record {
  position = difference.position;
  by_section = option_map told_path_answer difference.by_section;
  by_table = option_map told_path_answer difference.by_table;
}

abbrev pub stretches_of : List DifferenceByPath → List (Stretch PathAnswer)
stretches_of differences = map stretch_of differences

-- The differences are exactly the stretches, in ascending order.
abbrev pub ArePathStretches : (Position → Option PathAnswer) → (Position → Option PathAnswer) → List DifferenceByPath → Type 0
ArePathStretches by_section by_table differences = AreAllStretches by_section by_table (stretches_of differences)

-- ---- spans that begin or end inside an instruction, which a table by path can't express

-- the span by path begins and ends at operation index 0, like a span for which IsOfInstructions holds
abbrev pub IsPathSpanOfInstructions : PathSpan → Type 0
IsPathSpanOfInstructions span = (span.low.op ≡ 0) × (span.high.op ≡ 0)

-- all positions where a span begins or ends
abbrev pub path_borders : List PathSpan → List Position
path_borders [] = []
path_borders (span ∷ spans) = span.low ∷ span.high ∷ path_borders spans

-- This is the least position where a span begins or ends with an operation index other than 0.
pub record IsLeastOperation (spans : List PathSpan) (position : Position) : Type 0 where
  pub border : Contains (path_borders spans) position
  pub op : position.op ≢ 0
  pub least : AllByRecursion (λ p. p.op ≢ 0 → IsAtMost position p) (path_borders spans)
