-- What a watch remembers, and what is collected, one row more.
use Rattle.std.proofs.Common.{◌≡◌, ℕ, ◌+◌, ◌^◌, ◌<◌, ◌≤◌, Bool, true, false, cond, List, [], ◌∷◌, ◌++◌, Option, Some, None, refl, sym}
use Rattle.std.proofs.Common.{arith, append_assoc, length, length-append}
use Rattle.lnt_machine.specs.declared.row.Row.{Row}
use Rattle.lnt_sequences.specs.declared.collected.Collected.{Collected}
use Rattle.lnt_sequences.specs.declared.watch.Current.{Current}
use Rattle.lnt_sequences.specs.declared.watch.Watch.{Watch}
use Rattle.lnt_sequences.specs.Sequences.{Placed}
use Rattle.lnt_sequences.specs.Watching.{counted, gone_on, noted, closed, CollectsRows, current_of, extent_from, grown, HasSeen, longer}
use Rattle.lnt_sequences.specs.Watching.{next, RowsSoFar, walked}
use Rattle.lnt_sequences.proofs.WalkLaws.{first_shown-push, last_after-push, shown-push, walked-append, walked-rows}
use Rattle.std.proofs.lemmas.Grind.{common_steps}

-- ---- where the rows have come to

current-push : (dead : Option ℕ) (begun : List Row) (row : Row)
    → current_of dead (begun ++ row ∷ []) ≡ Some (grown dead (current_of dead begun) row)
current-push dead begun row = grind (arith, common_steps, last_after-push)

-- the walk with one more row: its fields, as a watch counts them
next-rows : (walk : RowsSoFar) (row : Row) (t : Bool) → (cond t (closed walk) (longer walk row)).rows ≡ walk.rows + 1
next-rows walk row true = refl
next-rows walk row false = refl

next-ended : (walk : RowsSoFar) (row : Row) (t : Bool) (ended : ℕ) → ended ≡ walk.ended → walk.ended + 1 < 2 ^ 64
    → cond t (counted ended) ended ≡ (cond t (closed walk) (longer walk row)).ended
next-ended walk row true ended e few = omega arith
next-ended walk row false ended e few = e

next-current : (dead : Option ℕ) (walk : RowsSoFar) (row : Row) (t : Bool)
    → cond t None (Some (grown dead (current_of dead walk.begun) row)) ≡ current_of dead (cond t (closed walk) (longer walk row)).begun
next-current dead walk row true = refl
next-current dead walk row false = sym (current-push dead walk.begun row)

-- no more sequences have ended than there were rows
pub ended_few : (walk : RowsSoFar) (rows : List Row) → (walked walk rows).ended ≤ walk.ended + length rows
ended_few walk [] = omega arith
ended_few walk (row ∷ rows) =
    let h = ended_few (next walk row) rows in
    let k = by_end row.end_sequence in
    omega (arith, h, k)
  where
    by_end : (t : Bool) → (cond t (closed walk) (longer walk row)).ended ≤ walk.ended + 1
    by_end true = omega arith
    by_end false = omega arith

-- ---- one more row

pub seen_more : (dead : Option ℕ) (unit files : ℕ) (rows : List Row) (old new : Watch) (row : Row) (current : Current)
    → current ≡ grown old.dead old.current row → new ≡ gone_on (noted old row current.live) row current
    → HasSeen dead unit files old rows → HasSeen dead unit files new (rows ++ row ∷ [])
seen_more dead unit files rows old new row current is e seen few =
    grind (arith, common_steps, length-append, walked-rows, ended_few, walked-append, next-rows, next-ended, next-current, first_shown-push)

-- ---- what is collected

pub collects_more : (dead : Option ℕ) (unit files : ℕ) (rows : List Row) (ss : List Placed) (watch : Watch) (old new : Collected)
    (row : Row) (current : Current) → current ≡ grown watch.dead watch.current row
    → new.extents.items ≡ old.extents.items ++ cond current.live (extent_from watch.unit watch.ended watch.current row) []
    → HasSeen dead unit files watch rows → CollectsRows dead unit old ss rows → CollectsRows dead unit new ss (rows ++ row ∷ [])
collects_more dead unit files rows ss watch old new row current is extents seen collects few =
    grind (arith, common_steps, length-append, cond, append_assoc, shown-push)
