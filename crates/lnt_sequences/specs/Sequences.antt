-- The sequences of a section, and what their rows answer.
use Rattle.std.specs.Prelude.{◌≡◌, ℕ, Bool, true, false, not, ◌&&◌, ◌||◌, ◌==◌, nat_lt, List, [], ◌∷◌, map, reverse, Option, Some, None}
use Rattle.std.specs.List.{enumerate_from, filter, find, flat_map, list_any}
use Rattle.std.specs.Option.{option_map, option_and_then}
use Rattle.lnt_header.specs.declared.unit_parts.UnitParts.{UnitParts}
use Rattle.lnt_machine.specs.declared.row.Row.{Row}
use Rattle.lnt_machine.specs.Matrix.{rows, sequences_of}
use Rattle.lnt_spans.specs.declared.answer.Answer.{Answer}
use Rattle.lnt_spans.specs.declared.position.Position.{Position}
use Rattle.lnt_spans.specs.Positions.{IsBelow, IsAtMost, is_below, is_at_most}
pub use Rattle.lnt_sequences.specs.declared.sequence.SeqId.{SeqId}

-- the position of a row
abbrev pub position_of : Row → Position
position_of row = record { address = row.address; op = row.op_index }

-- ---- the sequences of a section

-- a sequence of a section
pub record Placed : Type 0 where
  pub id : SeqId
  pub rows : List Row

-- the sequences that rows make, in a unit at an offset
abbrev pub placed_rows : ℕ → List Row → List Placed
placed_rows unit rows =
    map (λ p. record { id = record { unit = unit; index = p.0 }; rows = p.1.rows }) (enumerate_from 0 (sequences_of rows))

-- the sequences of the unit at an offset
abbrev pub placed_in : ℕ × UnitParts → List Placed
placed_in unit = placed_rows unit.0 (rows unit.1)

-- whether rows that begin with this one are live: if there is a marker, their address isn't it
abbrev pub begins_live : Option ℕ → Row → Bool
begins_live None row = true
begins_live (Some marker) row = not (row.address == marker)

-- If a marker is given, a sequence whose first row has that address is dead.
abbrev pub are_live : Option ℕ → List Row → Bool
are_live dead [] = true
are_live dead (row ∷ rows) = begins_live dead row

abbrev pub is_live : Option ℕ → Placed → Bool
is_live dead placed = are_live dead placed.rows

-- those that are live
abbrev pub live_of : Option ℕ → List Placed → List Placed
live_of dead sequences = filter (is_live dead) sequences

-- the live sequences of a unit
abbrev pub live_in : Option ℕ → ℕ × UnitParts → List Placed
live_in dead unit = live_of dead (placed_in unit)

-- the live sequences of a section, unit by unit
abbrev pub live_sequences : Option ℕ → List (ℕ × UnitParts) → List Placed
live_sequences dead units = flat_map (live_in dead) units

-- ---- the positions that a sequence holds

abbrev pub first_row : List Row → Option Row
first_row [] = None
first_row (row ∷ rows) = Some row

abbrev pub last_row : List Row → Option Row
last_row [] = None
last_row (row ∷ []) = Some row
last_row (row ∷ next ∷ rows) = last_row (next ∷ rows)

-- A sequence holds the positions from that of its first row up to that of its end row.
pub record Holds (rows : List Row) (p : Position) : Type 0 where
  pub first : Row
  pub last : Row
  pub first_is : first_row rows ≡ Some first
  pub last_is : last_row rows ≡ Some last
  pub from : IsAtMost (position_of first) p
  pub below : IsBelow p (position_of last)

-- the same as a test
abbrev pub holds : Position → List Row → Bool
holds p rows = elim (first_row rows) [
  | None ↦ false
  | Some first ↦ elim (last_row rows) [ None ↦ false | Some last ↦ is_at_most (position_of first) p && is_below p (position_of last) ]
]

-- ---- copies

-- whether a sequence comes before another: in an earlier unit, or earlier in the same one
abbrev pub stands_before : SeqId → SeqId → Bool
stands_before one other = nat_lt one.unit other.unit || (one.unit == other.unit && nat_lt one.index other.index)

-- whether two positions are one
abbrev pub is_same : Position → Position → Bool
is_same p q = p.address == q.address && p.op == q.op

-- whether what begins and ends with the first two rows holds a position, and begins and ends where the other two do
abbrev pub ends_alike : Option Row → Option Row → Option Row → Option Row → Bool
ends_alike (Some first) (Some last) (Some other) (Some other_last) = is_below (position_of first) (position_of last) &&
    (is_same (position_of first) (position_of other) && is_same (position_of last) (position_of other_last))
ends_alike _ _ _ _ = false

-- whether two sequences hold a position, and begin and end at the same ones
abbrev pub hold_alike : List Row → List Row → Bool
hold_alike rows others = ends_alike (first_row rows) (last_row rows) (first_row others) (last_row others)

-- A sequence that holds a position is a copy if an earlier one begins and ends at the same positions.
abbrev pub is_copy : List Placed → Placed → Bool
is_copy sequences placed =
    list_any (λ (earlier : Placed). stands_before earlier.id placed.id && hold_alike placed.rows earlier.rows) sequences

-- the sequences that are kept of these: all, or all but the copies if these are skipped
abbrev pub kept_of : Bool → List Placed → List Placed
kept_of false sequences = sequences
kept_of true sequences = filter (λ placed. not (is_copy sequences placed)) sequences

-- the units of a section, each with its offset, and which of their sequences count: the marker of the dead ones, if there is one,
-- and whether copies are skipped
pub record Selection : Type 0 where
  pub dead : Option ℕ
  pub skip : Bool
  pub units : List (ℕ × UnitParts)

-- the kept sequences among the live ones of a section
abbrev pub kept_sequences : Selection → List Placed
kept_sequences selection = kept_of selection.skip (live_sequences selection.dead selection.units)

-- ---- what rows answer

-- what a row says, in the unit at this offset
abbrev pub answer_of : ℕ → Row → Answer
answer_of unit row = record {
  unit = unit;
  file = row.file;
  line = row.line;
  column = row.column;
  is_stmt = row.is_stmt;
  more = Some (record { isa = row.isa; discriminator = row.discriminator });
}

-- the last of the rows, in their order, whose position isn't above p
abbrev pub row_at : Position → List Row → Option Row
row_at p rows = find (λ row. is_at_most (position_of row) p) (reverse rows)

-- What sequences answer at p: what that row says, in the first sequence that holds p; nothing if none holds it.
abbrev pub answer_in : List Placed → Position → Option Answer
answer_in sequences p = option_and_then (λ (placed : Placed). option_map (answer_of placed.id.unit) (row_at p placed.rows))
    (find (λ placed. holds p placed.rows) sequences)

-- What the rows of a section answer at p: those of its kept sequences.
abbrev pub line_answer : Selection → Position → Option Answer
line_answer selection p = answer_in (kept_sequences selection) p
