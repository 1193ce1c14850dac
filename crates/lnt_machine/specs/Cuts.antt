-- Rows divided into sequences, and those whose sequence hasn't ended (DWARF 5, section 6.2.2). Bodies here and in lnt_lines
-- speak of it, and no public contract.
use Rattle.std.specs.Prelude.{◌≡◌, Bool, true, false, List, [], ◌∷◌, ◌++◌}
use Rattle.std.specs.List.{AllByRecursion}
use Rattle.lnt_machine.specs.Matrix.{joined_rows, Row, Sequence}

-- whether there is a row
abbrev pub are_some : List Row → Bool
are_some [] = false
are_some (row ∷ rows) = true

-- rows that don't end their sequence
abbrev pub AreOpen : List Row → Type 0
AreOpen rows = AllByRecursion (λ row. row.end_sequence ≡ false) rows

-- The last row ends the sequence, and no other does.
pub record IsEnded (sequence : Sequence) : Type 0 where
  pub body : List Row
  pub last : Row
  pub rows_are : sequence.rows ≡ body ++ last ∷ []
  pub body_open : AreOpen body
  pub ends : last.end_sequence ≡ true

-- The rows are those of sequences, and rows after the last end row.
pub record IsCut (rows : List Row) (ended : List Sequence) (left : List Row) : Type 0 where
  pub joined : rows ≡ joined_rows ended ++ left
  pub each : AllByRecursion IsEnded ended
  pub past : AreOpen left
