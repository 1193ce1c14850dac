-- The rules that the sequences of a good section keep to.
use Rattle.std.specs.Prelude.{◌≡◌, ◌≢◌, ◌<◌, ℕ, false, List}
use Rattle.std.specs.List.{AllByRecursion, AllPairs}
use Rattle.lnt_machine.specs.declared.row.Row.{Row}
use Rattle.lnt_spans.specs.declared.position.Position.{Position}
use Rattle.lnt_spans.specs.Positions.{IsAtMost}
use Rattle.lnt_sequences.specs.Sequences.{position_of, Placed, Holds}

-- Positions never fall: of any two rows, the earlier one's position isn't above the later one's.
abbrev pub IsOrdered : List Row → Type 0
IsOrdered rows = AllPairs (λ earlier later. IsAtMost (position_of earlier) (position_of later)) rows

abbrev pub AreOrdered : List Placed → Type 0
AreOrdered sequences = AllByRecursion (λ (placed : Placed). IsOrdered placed.rows) sequences

-- Each row except the end row names a file below this count.
abbrev pub FilesExist : ℕ → List Row → Type 0
FilesExist files rows = AllByRecursion (λ row. row.end_sequence ≡ false → row.file < files) rows

abbrev pub HaveFiles : ℕ → List Placed → Type 0
HaveFiles files sequences = AllByRecursion (λ (placed : Placed). FilesExist files placed.rows) sequences

-- No position is held by two of the sequences.
abbrev pub AreApart : List Placed → Type 0
AreApart sequences = AllPairs (λ one other. (p : Position) → Holds one.rows p → Holds other.rows p → ⊥) sequences

-- No two have the same id.
abbrev pub AreDistinct : List Placed → Type 0
AreDistinct sequences = AllPairs (λ one other. one.id ≢ other.id) sequences
