-- What a watch has seen of a unit's rows, and what is collected from them, row by row as a watch remembers them.
--
-- A caller needs only Collects, HasSeen, HasSeenAll and CollectsRows. What they mean once all rows of a unit were seen is
-- said without a watch, in the contracts of `missing_file` and `falls` and in the law `collected_unit`.
use Rattle.std.specs.Prelude.{◌≡◌, ℕ, ◌+◌, ◌^◌, ◌<◌, Bool, false, not, cond, ◌&&◌, nat_le, List, [], ◌∷◌, ◌++◌, length, Option, Some, None}
use Rattle.std.specs.Prelude.{◌-◌, min}
use Rattle.std.specs.Option.{option_or}
use Rattle.lnt_machine.specs.declared.row.Row.{Row}
use Rattle.lnt_machine.specs.Matrix.{joined_rows, sequences_of}
use Rattle.lnt_spans.specs.Positions.{is_below}
use Rattle.lnt_sequences.specs.declared.collected.Collected.{Collected}
use Rattle.lnt_sequences.specs.declared.watch.Current.{Current}
use Rattle.lnt_sequences.specs.declared.watch.MissingFile.{MissingFile}
use Rattle.lnt_sequences.specs.declared.watch.Watch.{Watch}
use Rattle.lnt_sequences.specs.Extents.{extent_between, extents_of, Extent}
use Rattle.lnt_sequences.specs.Sequences.{begins_live, position_of, Placed}

-- It is collected of these sequences: the extents of the nonempty ones.
pub record Collects (collected : Collected) (sequences : List Placed) : Type 0 where
  pub extents : collected.extents.items ≡ extents_of sequences

-- ---- one more row

-- the sequence that hasn't ended, with one more row
abbrev pub grown : Option ℕ → Option Current → Row → Current
grown dead None row = record { live = begins_live dead row; low = position_of row; last = position_of row }
grown dead (Some current) row = record current { last = position_of row }

-- the extent that ends at a row
abbrev pub extent_from : ℕ → ℕ → Option Current → Row → List Extent
extent_from unit index None row = []
extent_from unit index (Some current) row =
    cond row.end_sequence (extent_between (record { unit = unit; index = index }) current.low (position_of row)) []

-- whether a row's position is below that of the row before it in its sequence
abbrev pub falls_after : Option Current → Row → Bool
falls_after None row = false
falls_after (Some current) row = is_below (position_of row) current.last

-- whether a row that isn't an end row names a file that isn't below this count
abbrev pub names_no_file : ℕ → Row → Bool
names_no_file files row = not row.end_sequence && nat_le files row.file

-- ---- rows, one after another

-- the progress through the rows of a unit: how many there were, how many sequences have ended, and the rows of the one that
-- hasn't
pub record RowsSoFar : Type 0 where
  pub rows : ℕ
  pub ended : ℕ
  pub begun : List Row

abbrev pub start : RowsSoFar
start = record { rows = 0; ended = 0; begun = [] }

-- one row further, which ends its sequence or doesn't
abbrev pub closed : RowsSoFar → RowsSoFar
closed walk = record { rows = walk.rows + 1; ended = walk.ended + 1; begun = [] }

abbrev pub longer : RowsSoFar → Row → RowsSoFar
longer walk row = record { rows = walk.rows + 1; ended = walk.ended; begun = walk.begun ++ row ∷ [] }

abbrev pub next : RowsSoFar → Row → RowsSoFar
next walk row = cond row.end_sequence (closed walk) (longer walk row)

abbrev pub walked : RowsSoFar → List Row → RowsSoFar
walked walk [] = walk
walked walk (row ∷ rows) = walked (next walk row) rows

-- what each row shows, where it stands
abbrev pub shown : {A : Type 0} → (RowsSoFar → Row → List A) → RowsSoFar → List Row → List A
shown show walk [] = []
shown show walk (row ∷ rows) = show walk row ++ shown show (next walk row) rows

-- what the first row shows that shows anything
abbrev pub first_shown : {A : Type 0} → (RowsSoFar → Row → Option A) → RowsSoFar → List Row → Option A
first_shown show walk [] = None
first_shown show walk (row ∷ rows) = option_or (show walk row) (first_shown show (next walk row) rows)

-- ---- what a row shows

-- the last of a row and the rows after it
abbrev pub last_after : Row → List Row → Row
last_after row [] = row
last_after row (next ∷ rows) = last_after next rows

-- the sequence that hasn't ended, by its rows so far
abbrev pub current_of : Option ℕ → List Row → Option Current
current_of dead [] = None
current_of dead (row ∷ rows) =
    Some (record { live = begins_live dead row; low = position_of row; last = position_of (last_after row rows) })

-- whether a row's sequence is live
abbrev pub is_in_live : Option ℕ → RowsSoFar → Row → Bool
is_in_live dead walk row = (grown dead (current_of dead walk.begun) row).live

abbrev pub extent_shown : Option ℕ → ℕ → RowsSoFar → Row → List Extent
extent_shown dead unit walk row = cond (is_in_live dead walk row) (extent_from unit walk.ended (current_of dead walk.begun) row) []

abbrev pub fall_shown : Option ℕ → RowsSoFar → Row → Option ℕ
fall_shown dead walk row = cond (is_in_live dead walk row && falls_after (current_of dead walk.begun) row) (Some walk.rows) None

abbrev pub file_shown : Option ℕ → ℕ → RowsSoFar → Row → Option MissingFile
file_shown dead files walk row =
    cond (is_in_live dead walk row && names_no_file files row) (Some (record { row = walk.rows; file = row.file })) None

-- ---- what was seen, and what is collected

-- what a watch that was made with these has remembered of rows
pub record Remembers (dead : Option ℕ) (unit files : ℕ) (watch : Watch) (rows : List Row) : Type 0 where
  pub dead_is : watch.dead ≡ dead
  pub unit_is : watch.unit ≡ unit
  pub files_is : watch.files ≡ files
  pub rows_is : watch.rows ≡ (walked start rows).rows
  pub ended_is : watch.ended ≡ (walked start rows).ended
  pub current_is : watch.current ≡ current_of dead (walked start rows).begun
  pub falls_is : watch.falls ≡ first_shown (fall_shown dead) start rows
  pub file_is : watch.missing_file ≡ first_shown (file_shown dead files) start rows

-- The watch was made with this marker, offset and number of files, and has seen these rows, in this order. There are fewer
-- than 2^64 of them: nothing is claimed of more.
abbrev pub HasSeen : Option ℕ → ℕ → ℕ → Watch → List Row → Type 0
HasSeen dead unit files watch rows = length rows < 2 ^ 64 → Remembers dead unit files watch rows

-- It has seen these rows, and each of them is in a sequence: none is after the last end row. This holds if a unit's program
-- runs and these are all rows of the unit.
pub record HasSeenAll (dead : Option ℕ) (unit files : ℕ) (watch : Watch) (rows : List Row) : Type 0 where
  pub seen : HasSeen dead unit files watch rows
  pub closed : joined_rows (sequences_of rows) ≡ rows
  pub few : length rows < 2 ^ 64

-- what is collected of sequences, and of rows of the unit at an offset
pub record CollectsBoth (dead : Option ℕ) (unit : ℕ) (collected : Collected) (sequences : List Placed) (rows : List Row) : Type 0 where
  pub extents : collected.extents.items ≡ extents_of sequences ++ shown (extent_shown dead unit) start rows

-- It is collected of these sequences, and of these rows of the unit at an offset, as far as they are live. There are fewer
-- than 2^64 of them: nothing is claimed of more.
abbrev pub CollectsRows : Option ℕ → ℕ → Collected → List Placed → List Row → Type 0
CollectsRows dead unit collected sequences rows = length rows < 2 ^ 64 → CollectsBoth dead unit collected sequences rows

-- ---- what the bodies of this crate do to a watch with one row. No public contract speaks of it.

-- a watch that has looked at one more row, of a sequence that is live or not
abbrev pub noted : Watch → Row → Bool → Watch
noted watch row live = record watch {
  falls = option_or watch.falls (cond (live && falls_after watch.current row) (Some watch.rows) None);
  missing_file = option_or watch.missing_file
      (cond (live && names_no_file watch.files row) (Some (record { row = watch.rows; file = row.file })) None);
}

-- one more, up to the greatest number
abbrev pub counted : ℕ → ℕ
counted n = min (n + 1) (2 ^ 64 - 1)

-- a watch that counts one more row, with which its sequence is as given
abbrev pub gone_on : Watch → Row → Current → Watch
gone_on watch row current = record watch {
  rows = counted watch.rows;
  ended = cond row.end_sequence (counted watch.ended) watch.ended;
  current = cond row.end_sequence None (Some current);
}
