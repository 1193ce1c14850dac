-- What holds of the offset and of every row of each unit holds so of kept sequences, and of what spans between their rows say.
use Rattle.std.proofs.Common.{ℕ, ◌+◌, Bool, true, false, not, List, [], ◌∷◌, ◌++◌, Option, arith}
use Rattle.std.specs.List.{All, AllByRecursion}
use Rattle.std.proofs.lemmas.List.Elements.{All-append, All-filter, All-from_recursion, All-nil, recursion_from_All}
use Rattle.lnt_header.specs.declared.unit_parts.UnitParts.{UnitParts}
use Rattle.lnt_machine.specs.declared.row.Row.{Row}
use Rattle.lnt_machine.specs.declared.row.Sequence.{Sequence}
use Rattle.lnt_machine.specs.Matrix.{sequences}
use Rattle.lnt_machine.proofs.SequenceLaws.{EachRow}
use Rattle.lnt_spans.specs.declared.span.Span.{Span}
use Rattle.lnt_sequences.specs.RowSpans.{row_spans, span_between, spans_after, spans_of}
use Rattle.lnt_sequences.specs.Sequences.{answer_of, is_copy, is_live, kept_of, kept_sequences, live_in, live_sequences, Placed}
use Rattle.lnt_sequences.specs.Sequences.{placed_in, position_of, Selection}
use Rattle.lnt_sequences.proofs.WalkLaws.{placed_from}
use Rattle.std.proofs.lemmas.Grind.{common_steps}

-- U holds of the unit's offset, and P of each row of its sequences
pub record EachIn (U : ℕ → Type 0) (P : Row → Type 0) (unit : ℕ × UnitParts) : Type 0 where
  pub offset : U unit.0
  pub rows : AllByRecursion (EachRow P) (sequences unit.1)

-- the same of one sequence
record EachOf (U : ℕ → Type 0) (P : Row → Type 0) (placed : Placed) : Type 0 where
  offset : U placed.id.unit
  rows : AllByRecursion P placed.rows

-- ---- sequences

each_placed : (U : ℕ → Type 0) (P : Row → Type 0) (unit k : ℕ) (ss : List Sequence) → U unit → AllByRecursion (EachRow P) ss
    → AllByRecursion (EachOf U P) (placed_from unit k ss)
each_placed U P unit k [] offset all = tt
each_placed U P unit k (s ∷ ss) offset all = (record { offset = offset; rows = all.0 }, each_placed U P unit (k + 1) ss offset all.1)

each_live : (U : ℕ → Type 0) (P : Row → Type 0) (dead : Option ℕ) (units : List (ℕ × UnitParts)) → AllByRecursion (EachIn U P) units
    → All (EachOf U P) (live_sequences dead units)
each_live U P dead [] all = All-nil (EachOf U P)
each_live U P dead (unit ∷ units) all =
    let here = each_placed U P unit.0 0 (sequences unit.1) all.0.offset all.0.rows in
    All-append (EachOf U P) (live_in dead unit) (live_sequences dead units)
    (All-filter (is_live dead) (EachOf U P) (placed_in unit) (All-from_recursion (EachOf U P) (placed_in unit) here))
    (each_live U P dead units all.1)

each_kept : (U : ℕ → Type 0) (P : Row → Type 0) (skip : Bool) (ss : List Placed) → All (EachOf U P) ss → All (EachOf U P) (kept_of skip ss)
each_kept U P false ss all = all
each_kept U P true ss all = All-filter (λ (placed : Placed). not (is_copy ss placed)) (EachOf U P) ss all

-- ---- spans

-- Q holds of the span between two rows of which P holds, in a unit of whose offset U does.
abbrev pub Between : (ℕ → Type 0) → (Row → Type 0) → (Span → Type 0) → Type 0
Between U P Q = (unit : ℕ) (row next : Row) → U unit → P row → P next
    → Q (record { low = position_of row; high = position_of next; answer = answer_of unit row })

each_between : (U : ℕ → Type 0) (P : Row → Type 0) (Q : Span → Type 0) (unit : ℕ) (row next : Row) (later : List Span) → Between U P Q
    → U unit → P row → P next → AllByRecursion Q later → AllByRecursion Q (span_between unit row next ++ later)
each_between U P Q unit row next later between offset one other rest = grind (arith, common_steps)

each_after : (U : ℕ → Type 0) (P : Row → Type 0) (Q : Span → Type 0) (unit : ℕ) (row : Row) (rows : List Row) → Between U P Q → U unit
    → P row → AllByRecursion P rows → AllByRecursion Q (spans_after unit row rows)
each_after U P Q unit row [] between offset one all = tt
each_after U P Q unit row (next ∷ rows) between offset one all =
    each_between U P Q unit row next (spans_after unit next rows) between offset one all.0
    (each_after U P Q unit next rows between offset all.0 all.1)

each_row_span : (U : ℕ → Type 0) (P : Row → Type 0) (Q : Span → Type 0) (unit : ℕ) (rows : List Row) → Between U P Q → U unit
    → AllByRecursion P rows → AllByRecursion Q (row_spans unit rows)
each_row_span U P Q unit [] between offset all = tt
each_row_span U P Q unit (row ∷ rows) between offset all = each_after U P Q unit row rows between offset all.0 all.1

each_span : (U : ℕ → Type 0) (P : Row → Type 0) (Q : Span → Type 0) (ss : List Placed) → Between U P Q → AllByRecursion (EachOf U P) ss
    → All Q (spans_of ss)
each_span U P Q [] between all = All-nil Q
each_span U P Q (s ∷ ss) between all =
    let here = each_row_span U P Q s.id.unit s.rows between all.0.offset all.0.rows in
    All-append Q (row_spans s.id.unit s.rows) (spans_of ss) (All-from_recursion Q (row_spans s.id.unit s.rows) here)
    (each_span U P Q ss between all.1)

-- the spans of the kept sequences of units
pub each_kept_span : (U : ℕ → Type 0) (P : Row → Type 0) (Q : Span → Type 0) (selection : Selection) → Between U P Q
    → AllByRecursion (EachIn U P) selection.units → All Q (spans_of (kept_sequences selection))
each_kept_span U P Q selection between all =
    let live = each_live U P selection.dead selection.units all in
    let kept = each_kept U P selection.skip (live_sequences selection.dead selection.units) live in
    each_span U P Q (kept_sequences selection) between (recursion_from_All (EachOf U P) (kept_sequences selection) kept)
