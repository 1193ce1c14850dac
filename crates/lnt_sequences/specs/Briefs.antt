-- The rows of a sequence in few bytes each, and what is kept of a sequence for later lookups.
use Rattle.std.specs.Prelude.{◌≡◌, List, ◌++◌, Option, IfSome, All, ◌+◌, ◌-◌, ◌<◌, ◌≤◌, ℕ, true, [], ◌∷◌, length, get_or, Some}
use Rattle.lnt_machine.specs.declared.row.Row.{Row}
use Rattle.lnt_machine.specs.Walking.{WillGive, SequenceWalk}
use Rattle.lnt_spans.specs.declared.position.Position.{Position}
use Rattle.lnt_spans.specs.Positions.{IsAtMost, IsBelow}
use Rattle.lnt_sequences.specs.declared.checkpoints.Checkpoint.{Checkpoint}
use Rattle.lnt_sequences.specs.declared.checkpoints.Checkpoints.{Checkpoints}
use Rattle.lnt_sequences.specs.Sequences.{last_row, position_of, answer_of}
use Rattle.std.specs.List.{AllZip}
use Rattle.lnt_spans.specs.declared.answer.Answer.{Answer}
use Rattle.lnt_sequences.specs.declared.brief.BriefRow.{BriefRow}
use Rattle.lnt_sequences.specs.declared.brief.BriefRows.{BriefRows}
use Rattle.lnt_sequences.specs.declared.row_cache.RowCache.{RowCache}

-- ---- places in the rows of one sequence, from which lookups continue

-- The place is between two rows of these, or before or after all: it has the last of those before it, and those after it.
pub record IsCheckpointIn (rows : List Row) (checkpoint : Checkpoint) : Type 0 where
  pub seen : List Row
  pub left : List Row
  pub rows_are : rows ≡ seen ++ left
  pub last_is : checkpoint.last ≡ last_row seen
  pub to_come : WillGive left checkpoint.after

-- so is each checkpoint
abbrev pub AreCheckpointsIn : List Row → Checkpoints → Type 0
AreCheckpointsIn rows checkpoints = All (IsCheckpointIn rows) checkpoints.checkpoints.items

-- the row, if there is one, isn't above p
abbrev pub IsNotAbove : Option Row → Position → Type 0
IsNotAbove last p = IfSome last (λ row. IsAtMost (position_of row) p)

-- ---- one row

-- its position, with its address counted from the base
abbrev pub place_of : BriefRow → Position
place_of brief = record { address = brief.address; op = brief.op_index }

-- the position from which this place counts
abbrev pub onto : ℕ → Position → Position
onto base place = record { address = base + place.address; op = place.op }

-- what it says, in the unit at this offset
abbrev pub brief_answer : ℕ → BriefRow → Answer
brief_answer unit brief = record {
  unit = unit;
  file = brief.file;
  line = brief.line;
  column = brief.column;
  is_stmt = brief.is_stmt;
  more = Some (record { isa = 0; discriminator = brief.discriminator });
}

-- The row is at the same position, and says the same.
pub record IsInBrief (base : ℕ) (row : Row) (brief : BriefRow) : Type 0 where
  pub position_is : position_of row ≡ onto base (place_of brief)
  pub answer_is : (unit : ℕ) → answer_of unit row ≡ brief_answer unit brief

-- ---- the rows of a sequence

-- The first of these rows are kept, or all of them.
pub record AreInBrief (rows : List Row) (brief : BriefRows) : Type 0 where
  pub kept : List Row
  pub others : List Row
  pub rows_are : rows ≡ kept ++ others
  pub kept_are : AllZip (IsInBrief brief.base) kept brief.rows.items
  pub none_other : brief.is_whole ≡ true → others ≡ []

-- The first of these rows are kept, and the others are to come.
pub record AreKept (rows : List Row) (brief : BriefRows) (walk : SequenceWalk) : Type 0 where
  pub kept : List Row
  pub others : List Row
  pub rows_are : rows ≡ kept ++ others
  pub kept_are : AllZip (IsInBrief brief.base) kept brief.rows.items
  pub to_come : WillGive others walk

-- the others were to come when they were kept
abbrev pub WereKept : List Row → BriefRows → Type 0
WereKept rows brief = (walk : SequenceWalk) × AreKept rows brief walk

-- one row more is kept
pub record IsAdded (row : Row) (old new : BriefRows) : Type 0 where
  pub one : BriefRow
  pub in_brief : IsInBrief old.base row one
  pub added : new.rows.items ≡ old.rows.items ++ one ∷ []

-- The number of rows at or below a place is between these two: the last of the first rows isn't above the place, and the row after the
-- second is.
pub record IsBetween (rows : List BriefRow) (at : Position) (found : ℕ × ℕ) : Type 0 where
  pub upto : found.0 ≤ found.1
  pub within : found.1 ≤ length rows
  pub last : (d : BriefRow) → 0 < found.0 → IsAtMost (place_of (get_or rows (found.0 - 1) d)) at
  pub next : (d : BriefRow) → found.1 < length rows → IsBelow at (place_of (get_or rows found.1 d))

-- The last of the first `count` rows isn't above a place, and the row after it is.
abbrev pub IsReached : List BriefRow → Position → ℕ → Type 0
IsReached rows at count = IsBetween rows at (count, count)

-- So it is with a position, and there is a row after it, unless all rows are kept.
pub record IsReachedIn (brief : BriefRows) (p : Position) (count : ℕ) : Type 0 where
  pub place : Position
  pub position_is : p ≡ onto brief.base place
  pub reached : IsReached brief.rows.items place count
  pub known : (brief.is_whole ≡ true → ⊥) → count < length brief.rows.items

-- ---- what is kept of a sequence

pub record IsCacheOf (rows : List Row) (cache : RowCache) : Type 0 where
  pub in_brief : AreInBrief rows cache.brief
  pub checkpointed : AreCheckpointsIn rows cache.checkpoints

-- neither rows nor checkpoints
abbrev pub KeepsNothing : RowCache → Type 0
KeepsNothing cache = (cache.brief.rows.items ≡ []) × (cache.checkpoints.checkpoints.items ≡ [])
