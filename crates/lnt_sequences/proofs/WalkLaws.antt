-- Rows seen one after another, and the sequences that they are cut into.
use Rattle.std.proofs.Common.{◌≡◌, ℕ, ◌+◌, Bool, true, false, cond, List, [], ◌∷◌, ◌++◌, map, Option, Some, None, refl, sym, ap, ◌∙◌, arith}
use Rattle.std.proofs.Common.{append_assoc, length, add-zero, append-nil, length-append}
use Rattle.std.specs.List.{AllByRecursion, enumerate_from, filter, flat_map}
use Rattle.std.specs.Option.{option_or}
use Rattle.lnt_machine.specs.declared.row.Row.{Row}
use Rattle.lnt_machine.specs.declared.row.Sequence.{Sequence}
use Rattle.lnt_machine.specs.Cuts.{AreOpen, IsEnded}
use Rattle.lnt_machine.specs.Matrix.{joined_rows, onto_first, sequences_of}
use Rattle.lnt_spans.proofs.PositionLaws.{at_most_itself, test_not_below}
use Rattle.lnt_sequences.specs.declared.watch.Current.{Current}
use Rattle.lnt_sequences.specs.Extents.{extent_between, extent_of, Extent}
use Rattle.lnt_sequences.specs.Sequences.{are_live, is_live, last_row, Placed, position_of}
use Rattle.lnt_sequences.specs.Watching.{closed, current_of, extent_from, extent_shown, first_shown, grown, is_in_live}
use Rattle.lnt_sequences.specs.Watching.{last_after, longer, next, shown, RowsSoFar, walked}
use Rattle.std.proofs.lemmas.Grind.{common_steps}

-- ---- more rows

pub walked-append : (walk : RowsSoFar) (xs ys : List Row) → walked walk (xs ++ ys) ≡ walked (walked walk xs) ys
walked-append walk [] ys = refl
walked-append walk (row ∷ xs) ys = walked-append (next walk row) xs ys

pub shown-append : {A : Type 0} (show : RowsSoFar → Row → List A) (walk : RowsSoFar) (xs ys : List Row)
    → shown show walk (xs ++ ys) ≡ shown show walk xs ++ shown show (walked walk xs) ys
shown-append show walk [] ys = refl
shown-append {A} show walk (row ∷ xs) ys = ap (λ (all : List A). show walk row ++ all) (shown-append show (next walk row) xs ys)
    ∙ sym (append_assoc (show walk row) (shown show (next walk row) xs) (shown show (walked (next walk row) xs) ys))

or_assoc : {A : Type 0} (a b c : Option A) → option_or a (option_or b c) ≡ option_or (option_or a b) c
or_assoc a b c = grind (arith, common_steps)

or_none : {A : Type 0} (a : Option A) → option_or a None ≡ a
or_none a = grind (arith, common_steps)

pub first_shown-append : {A : Type 0} (show : RowsSoFar → Row → Option A) (walk : RowsSoFar) (xs ys : List Row)
    → first_shown show walk (xs ++ ys) ≡ option_or (first_shown show walk xs) (first_shown show (walked walk xs) ys)
first_shown-append show walk [] ys = refl
first_shown-append {A} show walk (row ∷ xs) ys =
    ap (λ (o : Option A). option_or (show walk row) o) (first_shown-append show (next walk row) xs ys)
    ∙ or_assoc (show walk row) (first_shown show (next walk row) xs) (first_shown show (walked (next walk row) xs) ys)

-- one more row
pub shown-push : {A : Type 0} (show : RowsSoFar → Row → List A) (walk : RowsSoFar) (xs : List Row) (row : Row)
    → shown show walk (xs ++ row ∷ []) ≡ shown show walk xs ++ show (walked walk xs) row
shown-push {A} show walk xs row = grind (arith, common_steps, shown-append, append-nil)

pub first_shown-push : {A : Type 0} (show : RowsSoFar → Row → Option A) (walk : RowsSoFar) (xs : List Row) (row : Row)
    → first_shown show walk (xs ++ row ∷ []) ≡ option_or (first_shown show walk xs) (show (walked walk xs) row)
first_shown-push {A} show walk xs row = grind (arith, common_steps, first_shown-append, or_none)

pub walked-rows : (walk : RowsSoFar) (rows : List Row) → (walked walk rows).rows ≡ walk.rows + length rows
walked-rows walk [] = omega arith
walked-rows walk (row ∷ rows) =
    let e = walked-rows (next walk row) rows in
    let f : (next walk row).rows ≡ walk.rows + 1 = by_end row.end_sequence in
    omega (arith, e, f)
  where
    by_end : (t : Bool) → (cond t (closed walk) (longer walk row)).rows ≡ walk.rows + 1
    by_end true = refl
    by_end false = refl

-- ---- the last row

pub last_row_is : (row : Row) (rows : List Row) → last_row (row ∷ rows) ≡ Some (last_after row rows)
last_row_is row [] = refl
last_row_is row (next ∷ rows) = last_row_is next rows

pub last_after-push : (row : Row) (rows : List Row) (more : Row) → last_after row (rows ++ more ∷ []) ≡ more
last_after-push row [] more = refl
last_after-push row (next ∷ rows) more = last_after-push next rows more

-- ---- the rows of a sequence

-- rows that don't end it
pub walked_open : (walk : RowsSoFar) (rows : List Row) → AreOpen rows
    → walked walk rows ≡ record { rows = walk.rows + length rows; ended = walk.ended; begun = walk.begun ++ rows }
walked_open walk [] o = rw (add-zero, append-nil) refl
walked_open walk (row ∷ rows) o = ap (λ (t : Bool). walked (cond t (closed walk) (longer walk row)) rows) o.0
    ∙ walked_open (longer walk row) rows o.1
    ∙ same (walk.rows + 1 + length rows) (walk.rows + length (row ∷ rows)) ((walk.begun ++ row ∷ []) ++ rows) (walk.begun ++ row ∷ rows)
    (omega arith) (append_assoc walk.begun (row ∷ []) rows)
  where
    same : (m n : ℕ) (xs ys : List Row) → m ≡ n → xs ≡ ys
        → ◌≡◌ {A = RowsSoFar} (record { rows = m; ended = walk.ended; begun = xs }) (record { rows = n; ended = walk.ended; begun = ys })
    same m n xs ys e f = rw (e, f) refl

-- all of its rows
pub walked_ended : (walk : RowsSoFar) (s : Sequence) → IsEnded s
    → walked walk s.rows ≡ record { rows = walk.rows + length s.rows; ended = walk.ended + 1; begun = [] }
walked_ended walk s e = grind (arith, common_steps, walked-append, walked_open, length-append)

-- ---- its extent

extents_quiet : (dead : Option ℕ) (unit index : ℕ) (live : Bool) (current : Option Current) (row : Row) → row.end_sequence ≡ false
    → cond live (extent_from unit index current row) [] ≡ []
extents_quiet dead unit index false current row e = refl
extents_quiet dead unit index true None row e = refl
extents_quiet dead unit index true (Some current) row e =
    ap (λ (t : Bool). cond t (extent_between (record { unit = unit; index = index }) current.low (position_of row)) []) e

extents_open : (dead : Option ℕ) (unit : ℕ) (walk : RowsSoFar) (rows : List Row) → AreOpen rows
    → shown (extent_shown dead unit) walk rows ≡ []
extents_open dead unit walk [] o = refl
extents_open dead unit walk (row ∷ rows) o = ap (λ (extents : List Extent). extents ++ shown (extent_shown dead unit) (next walk row) rows)
    (extents_quiet dead unit walk.ended (is_in_live dead walk row) (current_of dead walk.begun) row o.0)
    ∙ extents_open dead unit (next walk row) rows o.1

-- the extent of rows, if they are live
abbrev pub live_extent : Option ℕ → ℕ → ℕ → List Row → List Extent
live_extent dead unit index rows =
    cond (are_live dead rows) (extent_of (record { id = record { unit = unit; index = index }; rows = rows })) []

extents_last : (dead : Option ℕ) (unit index : ℕ) (begun : List Row) (row : Row) → row.end_sequence ≡ true
    → cond (grown dead (current_of dead begun) row).live (extent_from unit index (current_of dead begun) row) []
    ≡ live_extent dead unit index (begun ++ row ∷ [])
extents_last dead unit index begun row e = grind (arith, common_steps, test_not_below, at_most_itself, last_row_is, last_after-push)

pub extents_ended : (dead : Option ℕ) (unit : ℕ) (walk : RowsSoFar) (s : Sequence) → IsEnded s → walk.begun ≡ []
    → shown (extent_shown dead unit) walk s.rows ≡ live_extent dead unit walk.ended s.rows
extents_ended dead unit walk s e none = grind (arith, common_steps, walked_open, shown-push, extents_open, extents_last)

-- ---- all sequences of a unit

-- the sequences of a unit from an index on
abbrev pub placed_from : ℕ → ℕ → List Sequence → List Placed
placed_from unit index sequences =
    map (λ p. record { id = record { unit = unit; index = p.0 }; rows = p.1.rows }) (enumerate_from index sequences)

-- what the live ones show, one after another
pub whole : {A : Type 0} (show : RowsSoFar → Row → List A) (of : Placed → List A) (dead : Option ℕ) (unit : ℕ)
    → ((walk : RowsSoFar) (s : Sequence) → IsEnded s → walk.begun ≡ []
    → shown show walk s.rows ≡ cond (are_live dead s.rows) (of (record { id = record { unit = unit; index = walk.ended }; rows = s.rows }))
    []) → (index : ℕ) (ss : List Sequence) (walk : RowsSoFar) → AllByRecursion IsEnded ss → walk.begun ≡ [] → walk.ended ≡ index
    → shown show walk (joined_rows ss) ≡ flat_map of (filter (is_live dead) (placed_from unit index ss))
whole show of dead unit step index [] walk all none at = refl
whole {A} show of dead unit step index (s ∷ ss) walk all none at =
    let there = walked_ended walk s all.0 in
    shown-append show walk s.rows (joined_rows ss)
    ∙ ap (λ (prefix : List A). prefix ++ shown show (walked walk s.rows) (joined_rows ss)) (step walk s all.0 none)
    ∙ ap (λ (k : ℕ). cond (are_live dead s.rows) (of (record { id = record { unit = unit; index = k }; rows = s.rows })) [] ++ shown show
    (walked walk s.rows) (joined_rows ss)) at
    ∙ ap (λ (rest : List A). cond (are_live dead s.rows) (of (record { id = record { unit = unit; index = index }; rows = s.rows })) [] ++
    rest) (whole show of dead unit step (index + 1) ss (walked walk s.rows) all.1 (ap (λ (w : RowsSoFar). w.begun) there)
    (ap (λ (w : RowsSoFar). w.ended) there ∙ ap (λ (k : ℕ). k + 1) at))
    ∙ by_live (are_live dead s.rows) (record { id = record { unit = unit; index = index }; rows = s.rows })
    (filter (is_live dead) (placed_from unit (index + 1) ss))
  where
    by_live : (t : Bool) (placed : Placed) (rest : List Placed)
        → cond t (of placed) [] ++ flat_map of rest ≡ flat_map of (cond t (placed ∷ rest) rest)
    by_live true placed rest = refl
    by_live false placed rest = refl

-- ---- the sequences of any rows

onto_ended : (row : Row) (ss : List Sequence) → row.end_sequence ≡ false → AllByRecursion IsEnded ss
    → AllByRecursion IsEnded (onto_first row ss)
onto_ended row [] o all = tt
onto_ended row (s ∷ ss) o all = (
  record {
    body = row ∷ all.0.body;
    last = all.0.last;
    rows_are = ap (λ (rows : List Row). row ∷ rows) all.0.rows_are;
    body_open = (o, all.0.body_open);
    ends = all.0.ends;
  },
  all.1,
)

pub each_ended : (rows : List Row) → AllByRecursion IsEnded (sequences_of rows)
each_ended [] = tt
each_ended (row ∷ rows) = by_end row.end_sequence refl (each_ended rows)
  where
    by_end : (t : Bool) → row.end_sequence ≡ t → AllByRecursion IsEnded (sequences_of rows)
        → AllByRecursion IsEnded (cond t (record { rows = row ∷ [] } ∷ sequences_of rows) (onto_first row (sequences_of rows)))
    by_end true e all = (record { body = []; last = row; rows_are = refl; body_open = tt; ends = e }, all)
    by_end false e all = onto_ended row (sequences_of rows) e all
