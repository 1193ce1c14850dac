-- A machine that does the operations which a walk gives, from some place of a program on.
use Rattle.std.proofs.Common.{◌≡◌, ℕ, Bool, true, false, List, [], ◌∷◌, refl, sym, ap, subst, ◌∙◌, reverse, cond, Option, Some, None, drop}
use Rattle.std.proofs.Common.{true≢false, is_some, if◌then◌else◌}
use Rattle.std.specs.List.{cons_option}
use Rattle.lnt_wire.specs.declared.fault.Fault.{Fault}
use Rattle.lnt_header.specs.declared.numbers.NumberParts.{NumberParts}
use Rattle.lnt_header.specs.declared.op.Op.{Op}
use Rattle.lnt_header.specs.declared.op.OpView.{OpView}
use Rattle.lnt_header.specs.HeaderRules.{AreHeaderNumbers}
use Rattle.lnt_ops.proofs.LeftLaws.{left_at, left_ends, left_fails, left_next}
use Rattle.lnt_ops.specs.Walks.{Ends, Fails, GivesOperation, Walk}
use Rattle.lnt_machine.proofs.PartLaws.{stands_at_start}
use Rattle.lnt_machine.proofs.RanLaws.{no_row}
use Rattle.lnt_machine.specs.Matrix.{row_made, rows_after, Row}
use Rattle.lnt_machine.specs.Running.{first_sequence}
use Rattle.lnt_machine.specs.Registers.{IsLine, line}
use Rattle.lnt_machine.specs.State.{StandsAfter, MachineState, LeavesRange, Does}
use Rattle.lnt_machine.specs.Walking.{GivesFirstRow, GivesRow, HasRows, IsSequencePlace, LinesAfter, SequenceWalk, WillGive}
use Rattle.lnt_machine.specs.Stepping.{GivesNext}
use Rattle.lnt_machine.specs.Walking.WillGive.{none, some}

-- the rows from the next operation on
record IsDone (h : NumberParts) (rows : List Row) (made : Option Row) (machine : MachineState) (walk : Walk) : Type 0 where
  others : List Row
  rows_are : rows ≡ cons_option made others
  has : HasRows h others machine walk

-- the walk gives an operation
module _ {h : NumberParts} {rows : List Row} {view : OpView} {old new : Walk} {machine : MachineState} (has : HasRows h rows machine old)
    (step : GivesOperation view old new) where
  next_done : {machine' : MachineState} {made : Option Row} → Does view machine machine' made → IsDone h rows made machine' new
  next_done {machine'} {made} steps =
      let next = left_next h has.later view old new has.valid has.left step in
      let lines : LinesAfter h has.back (next.op ∷ next.others) = subst (LinesAfter h has.back) next.later_is has.lines in
      let made_is : made ≡ row_made h has.back next.op =
      steps.row_is has.back next.op has.stands next.stands ∙ ap (λ (g : NumberParts). row_made g has.back next.op) has.header_is in
      record {
        others = rows_after h (next.op ∷ has.back) next.others;
        rows_are = has.rows_are ∙ ap (rows_after h has.back) next.later_is
            ∙ ap (λ (m : Option Row). cons_option m (rows_after h (next.op ∷ has.back) next.others)) (sym made_is);
        has = record {
          back = next.op ∷ has.back;
          later = next.others;
          valid = has.valid;
          header_is = steps.numbers ∙ has.header_is;
          stands = steps.stands has.back next.op has.stands next.stands;
          left = next.left;
          lines = lines.1;
          rows_are = refl;
        };
      }

  -- it makes no row
  pub next_quiet : {machine' : MachineState} {made : Option Row} → Does view machine machine' made
      → ((row : Row) → made ≡ Some row → ⊥) → HasRows h rows machine' new
  next_quiet {machine'} {made} steps quiet =
      let one = next_done steps in
      subst (λ (list : List Row). HasRows h list machine' new) (sym (one.rows_are ∙ no_row made one.others quiet)) one.has

  -- it makes a row
  pub next_row : {machine' : MachineState} {made : Option Row} {row : Row} → Does view machine machine' made → made ≡ Some row
      → GivesNext h rows (Some row) machine' new
  next_row {machine'} {made} {row} steps is =
      let one = next_done steps in
      subst (λ (list : List Row). GivesNext h list (Some row) machine' new)
      (sym (one.rows_are ∙ ap (λ (m : Option Row). cons_option m one.others) is)) (refl, one.has)

  -- no line is out of range
  pub next_out : LeavesRange view machine → ⊥
  next_out leaves =
      let next = left_next h has.later view old new has.valid has.left step in
      let lines : LinesAfter h has.back (next.op ∷ next.others) = subst (LinesAfter h has.back) next.later_is has.lines in
      leaves has.back next.op has.stands next.stands
      (subst (λ (g : NumberParts). IsLine (line g (next.op ∷ has.back))) (sym has.header_is) lines.0)

-- no operation is left
pub next_ends : {h : NumberParts} {rows : List Row} {old new : Walk} {machine : MachineState} → HasRows h rows machine old → Ends old new
    → GivesNext h rows None machine new
next_ends {h} {rows} {old} {new} {machine} has ends =
    let empty : rows ≡ [] = has.rows_are ∙ ap (rows_after h has.back) (left_ends h has.later old new has.left ends) in
    subst (λ (list : List Row). GivesNext h list None machine new) (sym empty) tt

-- no operation is refused
pub next_fails : {h : NumberParts} {rows : List Row} {fault : Fault} {old new : Walk} {machine : MachineState} → HasRows h rows machine old
    → Fails fault old new → ⊥
next_fails {h} {rows} {fault} {old} {new} has fails = left_fails h has.later fault old new has.left fails

-- ---- a row that is put in place of another, if one is

pub row_put : (given : Bool) (row : Row) → given ≡ true → (if given then Some row else None) ≡ Some row
row_put given row is = ap (λ (g : Bool). if g then Some row else None) is

pub none_put : (given : Bool) (row : Row) → given ≡ false → (made : Row) → (if given then Some row else None) ≡ Some made → ⊥
none_put true row is made same = absurd (true≢false is)
none_put false row is made same = true≢false (sym (ap is_some same))

-- ---- one sequence

-- whether the sequence has ended with what was given
abbrev pub ended_by : Option Row → Bool
ended_by None = true
ended_by (Some row) = row.end_sequence

gives_by : (h : NumberParts) (all rows : List Row) (result : Option Row) (new : SequenceWalk) → GivesNext h all result new.machine new.walk
    → new.ended ≡ ended_by result
    → rows ≡ first_sequence all → GivesFirstRow rows result new
gives_by h [] rows None new gives ended are = subst (λ (list : List Row). GivesFirstRow list None new) (sym are) (none ended refl)
gives_by h [] rows (Some made) new gives ended are = absurd gives
gives_by h (row ∷ all) rows None new gives ended are = absurd gives
gives_by h (row ∷ all) rows (Some made) new gives ended are =
    subst (λ (list : List Row). GivesFirstRow list (Some made) new) (sym are)
    (gives.0, by_end row.end_sequence (ended ∙ ap (λ (r : Row). r.end_sequence) gives.0))
  where
    by_end : (t : Bool) → new.ended ≡ t → WillGive (cond t [] (first_sequence all)) new
    by_end true e = none e refl
    by_end false e = some h all e gives.1 refl

pub gives_some : (old new : SequenceWalk) (result : Option Row) → old.ended ≡ false
    → ((h : NumberParts) (rows : List Row) → HasRows h rows old.machine old.walk → GivesNext h rows result new.machine new.walk)
    → new.ended ≡ ended_by result → GivesRow old result new
gives_some old new result going gives ended rows (none e empty) = absurd (true≢false (sym e ∙ going))
gives_some old new result going gives ended rows (some h all e has are) = gives_by h all rows result new (gives h all has) ended are

-- a short operation without a row
pub short_quiet : (old new : SequenceWalk) → old.ended ≡ false → new.ended ≡ false
    → ((h : NumberParts) (rows : List Row) → HasRows h rows old.machine old.walk → HasRows h rows new.machine new.walk) → (rows : List Row)
    → WillGive rows old → WillGive rows new
short_quiet old new going on same rows (none e empty) = absurd (true≢false (sym e ∙ going))
short_quiet old new going on same rows (some h all e has are) = some h all on (same h all has) are

-- no line is out of range
pub short_out : (old : SequenceWalk) (view : OpView) (new : Walk) → old.ended ≡ false → GivesOperation view old.walk new
    → LeavesRange view old.machine → (rows : List Row) → WillGive rows old → ⊥
short_out old view new going step leaves rows (none e empty) = absurd (true≢false (sym e ∙ going))
short_out old view new going step leaves rows (some h all e has are) = next_out has step leaves

pub has_begun : (h : NumberParts) (program : List ℕ) (earlier later : List Op) (place : ℕ) (machine : MachineState) (walk : Walk)
    → AreHeaderNumbers h
    → IsSequencePlace h program earlier later place
    → machine.numbers ≡ h → StandsAfter machine [] → walk.numbers ≡ h → walk.failed ≡ false → walk.at.rest ≡ drop place program
    → HasRows h (rows_after h (reverse earlier) later) machine walk
has_begun h program earlier later place machine walk valid is header stands same going rest = record {
  back = reverse earlier;
  later = later;
  valid = valid;
  header_is = header;
  stands = stands_at_start machine (reverse earlier) is.start stands;
  left = left_at h program earlier later place walk is.place_is same going rest;
  lines = is.lines;
  rows_are = refl;
}

-- the rows of a sequence that begins
pub will_give : (h : NumberParts) (program : List ℕ) (earlier later : List Op) (place : ℕ) (walk : SequenceWalk) → AreHeaderNumbers h
    → IsSequencePlace h program earlier later place
    → walk.machine.numbers ≡ h → StandsAfter walk.machine [] → walk.walk.numbers ≡ h → walk.walk.failed ≡ false
    → walk.walk.at.rest ≡ drop place program → walk.ended ≡ false
    → WillGive (first_sequence (rows_after h (reverse earlier) later)) walk
will_give h program earlier later place walk valid is header stands same going rest ended =
    some h (rows_after h (reverse earlier) later) ended
    (has_begun h program earlier later place walk.machine walk.walk valid is header stands same going rest) refl
