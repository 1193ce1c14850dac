-- What the laws of comparisons say.
use Rattle.std.specs.Prelude.{◌≡◌, ℕ, List, Option, ◌++◌}
use Rattle.lnt_spans.specs.declared.position.Position.{Position}
use Rattle.lnt_compare.specs.declared.outcome.Compared.{Compared}
use Rattle.lnt_compare.specs.Comparisons.{IsComparisonOf, TableKind, stretch_told}
use Rattle.lnt_spans.specs.AnyStretches.{AreAllStretches, AreFirstStretches, Stretch}
use Rattle.lnt_spans.specs.Differences.{IsFirstDifference}
use Rattle.lnt_records.specs.PathSpans.{PathAnswer}

-- For given bytes, and what a section answers, all true comparisons say the same, wherever their differences are held.
abbrev pub OneComparison : {V X Y D : Type 0} → TableKind V X Y D → Type 0
OneComparison {V} {X} {Y} {D} kind = (bytes : List ℕ) (section : V → Position → Option Y) (one other : Compared D)
    → IsComparisonOf kind section bytes one → IsComparisonOf kind section bytes other
    → stretch_told kind.stretch one ≡ stretch_told kind.stretch other

-- Two ways to answer have at most one first difference: one position, with one answer of each.
abbrev pub OneLeastPathDifference : Type 0
OneLeastPathDifference = (by_section by_table : Position → Option PathAnswer) (one other : Stretch PathAnswer)
    → IsFirstDifference by_section by_table one → IsFirstDifference by_section by_table other → one ≡ other

-- The first stretches begin every list of all of them.
abbrev pub FirstStretchesBegin : Type 0
FirstStretchesBegin = (f g : Position → Option PathAnswer) (first all : List (Stretch PathAnswer)) → AreFirstStretches f g first
    → AreAllStretches f g all → (more : List (Stretch PathAnswer)) × (all ≡ first ++ more)
