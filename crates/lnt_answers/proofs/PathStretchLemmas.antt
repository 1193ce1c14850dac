-- The stretches at which a table by path answers otherwise than the rows of units, given one after another.
use Rattle.std.proofs.Common.{◌≡◌, ℕ, List, [], map, Option, Some, None, IfSome, subst}
use Rattle.lnt_spans.specs.declared.position.Position.{Position}
use Rattle.lnt_spans.specs.declared.span.Span.{Span}
use Rattle.lnt_sequences.specs.Copies.{IsAnyAnswer}
use Rattle.lnt_sequences.specs.Sequences.{Selection}
use Rattle.lnt_lines.specs.Indexed.{Indexed}
use Rattle.lnt_records.specs.Faults.{IsUnnumbered}
use Rattle.lnt_compare.specs.declared.path_tables.held.HeldSpan.{HeldSpan}
use Rattle.lnt_compare.specs.declared.path_tables.path_differences.DifferencesByPath.{DifferencesByPath}
use Rattle.lnt_records.specs.declared.path_records.version.PathVersion.{PathVersion}
use Rattle.lnt_compare.specs.Held.{held_span}
use Rattle.lnt_records.specs.PathSpans.{PathAnswer, StandInOrder, path_answer, path_span_answer}
use Rattle.lnt_records.specs.PathTables.{IsPathTableOf}
use Rattle.lnt_compare.specs.Differing.{HasFoundStretchesByPath}
use Rattle.lnt_table.specs.Headline.{indexed_path, told_path}
use Rattle.lnt_answers.specs.PrintedStretches.{IsSoByPath, OfAnswers}

-- It holds of whatever two answers the differences are.
abbrev pub ForPathDifferences : {S : Type 0} → (S → List Span → Type 0) → (ℕ → ℕ → List ℕ) → DifferencesByPath S
    → (Position → Option PathAnswer → Type 0) → OfAnswers PathAnswer → Type 0
ForPathDifferences to_come path differences said IsSo = (f g : Position → Option PathAnswer)
    → HasFoundStretchesByPath to_come path differences f g [] → IsSo said f g

-- No stretch was given yet, of a table with these spans.
abbrev pub HasStarted : {S : Type 0} → (S → List Span → Type 0) → Indexed → DifferencesByPath S → PathVersion → Selection
    → List HeldSpan → Type 0
HasStarted to_come index differences version selection spans = StandInOrder (map held_span spans)
    → HasFoundStretchesByPath to_come (indexed_path index) differences (told_path version index selection)
    (path_span_answer (map held_span spans)) []

-- The slice has the held spans, and the paths are those of the index. So it holds of the differences from the units' rows.
pub for_path_units : {S : Type 0} (to_come : S → List Span → Type 0) (index : Indexed) (path : ℕ → ℕ → List ℕ)
    (differences : DifferencesByPath S) (version : PathVersion) (spans slice : List HeldSpan) (selection : Selection)
    (table : Option (List ℕ)) (IsSo : OfAnswers PathAnswer) → slice ≡ spans
    → path ≡ indexed_path index → IfSome table (λ text. IsUnnumbered text × IsPathTableOf version text (map held_span spans))
    → StandInOrder (map held_span spans) → HasStarted to_come index differences version selection slice
    → ForPathDifferences to_come path differences (IsAnyAnswer (path_answer version (indexed_path index)) selection) IsSo
    → IfSome table (λ text. IsSoByPath index selection text IsSo)
for_path_units to_come index path differences version spans slice selection None IsSo same by is order started p = tt
for_path_units to_come index path differences version spans slice selection (Some text) IsSo same by is order started p = record {
  version = version;
  table = map held_span spans;
  is_table = is.1;
  so = subst (λ (q : ℕ → ℕ → List ℕ). ForPathDifferences to_come q differences
      (IsAnyAnswer (path_answer version (indexed_path index)) selection) IsSo) by p (told_path version index selection)
      (path_span_answer (map held_span spans))
      (subst (HasStarted to_come index differences version selection) same started order);
}
