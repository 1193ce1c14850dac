-- A table by path that was read and is held.
use Rattle.std.specs.Prelude.{ℕ, List, map, Vec, ◌≡◌, ◌+◌, cond, length, [], ◌∷◌, Option, Some, None}
use Rattle.std.specs.Global.{Global}
use Rattle.lnt_compare.specs.declared.path_tables.held.HeldSpan.{HeldSpan}
use Rattle.lnt_records.specs.declared.path_records.version.PathVersion.{PathVersion}
use Rattle.lnt_compare.specs.declared.outcome.TableRead.{TableRead}
use Rattle.lnt_compare.specs.declared.outcome.TableRead.TheVariants as held
use Rattle.lnt_compare.specs.PathStretches.{told_path_answer}
use Rattle.lnt_records.specs.Faults.{IsPathFault}
use Rattle.lnt_records.specs.PathSpans.{PathSpan, StandInOrder, whole, PathAnswer, path_span_answer}
use Rattle.lnt_records.specs.PathTables.{IsPathTableOf}
use Rattle.lnt_spans.specs.declared.position.Position.{Position}
use Rattle.lnt_spans.specs.Positions.{IsBelow, IsAtMost, is_below}

-- the span of a held span, which begins and ends at operation index 0
abbrev pub held_span : HeldSpan → PathSpan
held_span span = record { low = whole span.low; high = whole span.high; answer = told_path_answer span.answer }

-- the version and the spans of a table by path, or its first fault
abbrev pub HeldTable : Type 0
HeldTable = TableRead (PathVersion × Vec HeldSpan Global)

-- Either the bytes are a table by path of this version with these spans, or this is their first fault.
abbrev pub IsHeld : List ℕ → HeldTable → Type 0
IsHeld bytes (held.Fault told) = IsPathFault bytes told
IsHeld bytes (held.Table (version, spans)) = IsPathTableOf version bytes (map held_span spans.items)

-- The held spans are in order, and none is empty.
abbrev pub HoldsInOrder : HeldTable → Type 0
HoldsInOrder (held.Fault told) = Unit {0}
HoldsInOrder (held.Table (version, spans)) = StandInOrder (map held_span spans.items)

-- ---- the spans that a table by path has left, run by run

-- The first span, if there is one, ends after p.
abbrev pub PathsEndAfter : Position → List PathSpan → Type 0
PathsEndAfter p [] = Unit {0}
PathsEndAfter p (span ∷ spans) = IsBelow p span.high

-- The spans that a table has left answer as the function does from `at` on.
pub record IsTableAt (table : List HeldSpan) (at : Position) (answers : Position → Option PathAnswer) : Type 0 where
  pub order : StandInOrder (map held_span table)
  pub past : PathsEndAfter at (map held_span table)
  pub same : (p : Position) → IsAtMost at p → path_span_answer (map held_span table) p ≡ answers p

-- where the table's answer at a position may end
abbrev pub held_end : Position → List HeldSpan → Option Position
held_end at [] = None
held_end at (held ∷ table) = Some (cond (is_below at (whole held.low)) (whole held.low) (whole held.high))

-- 1 if a gap lies between the position and the first span, else 0
abbrev pub held_gap : Position → List HeldSpan → ℕ
held_gap at [] = 0
held_gap at (held ∷ table) = cond (is_below at (whole held.low)) 1 0

-- an upper bound on the runs of one answer that are left
abbrev pub held_runs : Position → List HeldSpan → ℕ
held_runs at table = length table + length table + held_gap at table
