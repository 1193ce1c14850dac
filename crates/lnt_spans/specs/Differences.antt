-- Where a section and a table first answer differently.
use Rattle.std.specs.Prelude.{List, Option, map, ◌≡◌, ◌≢◌}
use Rattle.lnt_spans.specs.declared.answer.Answer.{Answer}
pub use Rattle.lnt_spans.specs.declared.difference.Difference.{Difference}
use Rattle.lnt_spans.specs.AnyStretches.{AreAllStretches, Stretch, Position}
use Rattle.lnt_spans.specs.Positions.{IsBelow}

-- ---- all stretches at which a section and a table answer differently, each as a difference: its first position, and the two
-- answers that stay the same from there on.

-- a difference as a stretch
abbrev pub stretch_of : Difference → Stretch Answer
stretch_of difference =
    record { position = difference.position; by_section = difference.by_section; by_table = difference.by_table }

abbrev pub stretches_of : List Difference → List (Stretch Answer)
stretches_of differences = map stretch_of differences

-- The differences are exactly the stretches, in ascending order.
abbrev pub AreStretches : (Position → Option Answer) → (Position → Option Answer) → List Difference → Type 0
AreStretches by_section by_table differences = AreAllStretches by_section by_table (stretches_of differences)

-- ---- the first difference

-- At this position the two sides answer differently, with the answers given here, and at every lower one they answer alike.
pub record IsFirstDifference {X : Type 0} (by_section by_table : Position → Option X) (first : Stretch X) : Type 0 where
  pub section : first.by_section ≡ by_section first.position
  pub table : first.by_table ≡ by_table first.position
  pub differ : first.by_table ≢ first.by_section
  pub least : (p : Position) → IsBelow p first.position → by_section p ≡ by_table p

-- the same of answers by number
abbrev pub IsLeastDifference : (Position → Option Answer) → (Position → Option Answer) → Difference → Type 0
IsLeastDifference by_section by_table difference = IsFirstDifference by_section by_table (stretch_of difference)
