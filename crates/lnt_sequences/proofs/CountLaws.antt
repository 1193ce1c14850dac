-- The kept sequences of units have no more spans than the units have rows, all together.
use Rattle.std.proofs.Common.{ℕ, ◌+◌, ◌≤◌, Bool, true, false, not, cond, List, [], ◌∷◌, Option, length, ap, arith, filter, flat_map}
use Rattle.std.proofs.Common.{length-append}
use Rattle.std.proofs.lemmas.List.Concat.{flat_map-append}
use Rattle.lnt_header.specs.declared.unit_parts.UnitParts.{UnitParts}
use Rattle.lnt_machine.specs.declared.row.Row.{Row}
use Rattle.lnt_machine.specs.declared.row.Sequence.{Sequence}
use Rattle.lnt_machine.specs.Matrix.{joined_rows, rows}
use Rattle.lnt_machine.proofs.SequenceLaws.{joined_within}
use Rattle.lnt_sequences.specs.RowSpans.{row_spans, span_between, spans_after, spans_of}
use Rattle.lnt_sequences.specs.Sequences.{is_copy, kept_of, kept_sequences, live_in, live_sequences, Placed, Selection}
use Rattle.lnt_sequences.proofs.WalkLaws.{placed_from}
use Rattle.std.proofs.lemmas.Grind.{common_steps}

-- ---- one sequence

-- between two rows stands one span at most
between_within : (unit : ℕ) (row next : Row) → length (span_between unit row next) ≤ 1
between_within unit row next = grind (arith, common_steps)

after_within : (unit : ℕ) (row : Row) (rows : List Row) → length (spans_after unit row rows) ≤ length rows
after_within unit row [] = omega arith
after_within unit row (next ∷ rows) =
    omega (
      arith,
      between_within unit row next,
      after_within unit next rows,
      length-append (span_between unit row next) (spans_after unit next rows),
    )

row_spans_within : (unit : ℕ) (rows : List Row) → length (row_spans unit rows) ≤ length rows
row_spans_within unit rows = grind (arith, common_steps, after_within)

-- ---- some of the sequences

-- those that pass a test have no more spans than all
filter_within : (test : Placed → Bool) (ss : List Placed) → length (spans_of (filter test ss)) ≤ length (spans_of ss)
filter_within test [] = omega arith
filter_within test (s ∷ ss) = by_test (test s) (filter_within test ss)
  where
    by_test : (t : Bool) → length (spans_of (filter test ss)) ≤ length (spans_of ss)
        → length (spans_of (cond t (s ∷ filter test ss) (filter test ss))) ≤ length (spans_of (s ∷ ss))
    by_test true le =
        omega (
          arith,
          le,
          length-append (row_spans s.id.unit s.rows) (spans_of (filter test ss)),
          length-append (row_spans s.id.unit s.rows) (spans_of ss),
        )
    by_test false le = omega (arith, le, length-append (row_spans s.id.unit s.rows) (spans_of ss))

kept_within : (skip : Bool) (ss : List Placed) → length (spans_of (kept_of skip ss)) ≤ length (spans_of ss)
kept_within false ss = omega arith
kept_within true ss = filter_within (λ (s : Placed). not (is_copy ss s)) ss

-- ---- those of units

placed_within : (unit k : ℕ) (ss : List Sequence) → length (spans_of (placed_from unit k ss)) ≤ length (joined_rows ss)
placed_within unit k [] = omega arith
placed_within unit k (s ∷ ss) =
    omega (
      arith,
      row_spans_within unit s.rows,
      placed_within unit (k + 1) ss,
      length-append (row_spans unit s.rows) (spans_of (placed_from unit (k + 1) ss)),
      length-append s.rows (joined_rows ss),
    )

-- the rows of units, one after another
abbrev pub rows_of_units : List (ℕ × UnitParts) → List Row
rows_of_units units = flat_map (λ (unit : ℕ × UnitParts). rows unit.1) units

unit_within : (dead : Option ℕ) (unit : ℕ × UnitParts) → length (spans_of (live_in dead unit)) ≤ length (rows unit.1)
unit_within dead unit = grind (arith, common_steps, filter_within, placed_within, joined_within)

live_within : (dead : Option ℕ) (units : List (ℕ × UnitParts))
    → length (spans_of (live_sequences dead units)) ≤ length (rows_of_units units)
live_within dead [] = omega arith
live_within dead (unit ∷ units) =
    let both =
    flat_map-append (λ (placed : Placed). row_spans placed.id.unit placed.rows) (live_in dead unit) (live_sequences dead units) in
    omega (
      arith,
      ap length both,
      length-append (spans_of (live_in dead unit)) (spans_of (live_sequences dead units)),
      unit_within dead unit,
      live_within dead units,
      length-append (rows unit.1) (rows_of_units units),
    )

-- The kept sequences have no more spans than the units have rows.
pub spans_within_rows : (selection : Selection) → length (spans_of (kept_sequences selection)) ≤ length (rows_of_units selection.units)
spans_within_rows selection =
    let live = live_sequences selection.dead selection.units in
    omega (arith, kept_within selection.skip live, live_within selection.dead selection.units)
