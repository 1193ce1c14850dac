use Rattle.std.specs.Prelude.{◌≡◌, ◌+◌, ◌++◌, ◌∷◌, ℕ, List, length}
use Rattle.std.specs.List.{AllByRecursion}
use Rattle.lnt_spans.specs.declared.span.Span.{Span}
use Rattle.lnt_csv.specs.Reading.{HasRead, bytes_left, known_length}
use Rattle.lnt_records.specs.Reading.{IsNarrow, IsReadFor}
use Rattle.lnt_records.specs.Table.{Fields}
use Rattle.lnt_records.proofs.taking.take_records.Given as goal

abbrev pub invariant-loop-row : goal.invariant-loop-row
invariant-loop-row g l = (prefix : List ℕ) × (first : Fields) × (more : List Fields) × IsReadFor prefix l.text
    × HasRead l.reader prefix (first ∷ more) × AllByRecursion IsNarrow more
    × g.T.TakesRecords.is_right l.taker l.state × (l.number ≡ l.fn.number + length more)
    × ((spans : List Span) (passed : List Fields) → g.T.TakesRecords.judges l.taker l.fn.state spans passed → l.fn.number ≡ length passed
    → g.T.TakesRecords.judges l.taker l.state spans (passed ++ more))

abbrev pub decreases-loop-row : goal.decreases-loop-row
decreases-loop-row g l = known_length (bytes_left l.reader)
