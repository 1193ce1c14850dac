-- Rows that break a rule, by their index among all rows of the sequences of their unit.
use Rattle.std.specs.Prelude.{◌≡◌, ℕ, ◌<◌, ◌≤◌, true, false, List, ◌∷◌, ◌++◌, length, Option, Some, flat_map}
use Rattle.lnt_machine.specs.declared.row.Row.{Row}
use Rattle.lnt_spans.specs.Positions.{IsBelow}
use Rattle.lnt_sequences.specs.declared.watch.MissingFile.{MissingFile}
use Rattle.lnt_sequences.specs.Sequences.{position_of, last_row, is_live, Placed}

-- the rows of sequences, one after another
abbrev pub rows_of : List Placed → List Row
rows_of sequences = flat_map (λ placed. placed.rows) sequences

-- The row with this index is in the sequence, after these rows of it.
pub record StandsIn (sequences : List Placed) (placed : Placed) (before : List Row) (row : Row) (index : ℕ) : Type 0 where
  pub earlier : List Placed
  pub later : List Placed
  pub after : List Row
  pub sequences_are : sequences ≡ earlier ++ placed ∷ later
  pub rows_are : placed.rows ≡ before ++ row ∷ after
  pub index_is : index ≡ length (rows_of earlier ++ before)

-- ---- positions that fall

-- The row's position is below that of the row before it, in the same live sequence.
pub record IsFall (dead : Option ℕ) (sequences : List Placed) (index : ℕ) : Type 0 where
  pub placed : Placed
  pub before : List Row
  pub previous : Row
  pub row : Row
  pub stands : StandsIn sequences placed before row index
  pub live : is_live dead placed ≡ true
  pub previous_is : last_row before ≡ Some previous
  pub falls : IsBelow (position_of row) (position_of previous)

-- It does, and no earlier row's does.
pub record IsFirstFall (dead : Option ℕ) (sequences : List Placed) (index : ℕ) : Type 0 where
  pub fall : IsFall dead sequences index
  pub first : (earlier : ℕ) → earlier < index → IsFall dead sequences earlier → ⊥

-- ---- missing files

-- The row of a live sequence isn't an end row, and names a file that isn't below this count.
pub record IsMissingFile (dead : Option ℕ) (files : ℕ) (sequences : List Placed) (missing : MissingFile) : Type 0 where
  pub placed : Placed
  pub before : List Row
  pub row : Row
  pub stands : StandsIn sequences placed before row missing.row
  pub live : is_live dead placed ≡ true
  pub no_end : row.end_sequence ≡ false
  pub file_is : missing.file ≡ row.file
  pub outside : files ≤ missing.file

-- It does, and no earlier row does.
pub record IsFirstMissingFile (dead : Option ℕ) (files : ℕ) (sequences : List Placed) (missing : MissingFile) : Type 0 where
  pub file : IsMissingFile dead files sequences missing
  pub first : (earlier : MissingFile) → earlier.row < missing.row → IsMissingFile dead files sequences earlier → ⊥
