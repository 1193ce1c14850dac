-- Walks over the rows of a unit's program, one by one (DWARF 5, sections 6.2.2 and 6.2.5).
use Rattle.std.specs.Prelude.{◌≡◌, ◌⊎◌, ℕ, Bool, true, false, List, [], ◌∷◌, Option, Some, None, Result, Ok, Err}
use Rattle.lnt_wire.specs.declared.fault.Fault.{Fault}
use Rattle.lnt_header.specs.declared.op.OpView.{OpView}
use Rattle.lnt_ops.specs.Walks as walks
use Rattle.lnt_ops.specs.Walks.{Walk, Ends, Fails, GivesEach}
use Rattle.lnt_machine.specs.declared.fault.RowFault.{RowFault}
use Rattle.lnt_machine.specs.declared.fault.RowFault.TheVariants.{Malformed, Run}
use Rattle.lnt_machine.specs.declared.fault.RunFault.TheVariants.{LineOutOfRange, OpenSequence, Memory}
use Rattle.lnt_machine.specs.declared.row.Row.{Row}
use Rattle.lnt_machine.specs.Running.{RunsOn, RunState}
use Rattle.lnt_machine.specs.State.{LeavesRange}

-- What a walk over rows is: the program as it is run, the walk over its operations, and whether it has ended, by a fault or
-- without one.
pub record RowWalk : Type 0 where
  pub run : RunState
  pub walk : Walk
  pub ended : Bool

-- The operations were run, one after another, and none appended a row.
abbrev pub RunsQuietly : List OpView → RunState → RunState → Type 0
RunsQuietly [] old new = new ≡ old
RunsQuietly (item ∷ items) old new = (next : RunState) × RunsOn item old next None × RunsQuietly items next new

-- The walk gave some operations, one after another, which were run and appended no row.
pub record RunsToRow (run : RunState) (walk : Walk) (run' : RunState) (walk' : Walk) : Type 0 where
  pub items : List OpView
  pub given : GivesEach items walk walk'
  pub quiet : RunsQuietly items run run'

-- The next operation that appends a row was run, and it appended this one.
pub record Makes (row : Row) (run : RunState) (walk : Walk) (run' : RunState) (walk' : Walk) : Type 0 where
  pub run_before : RunState
  pub walk_before : Walk
  pub passes : RunsToRow run walk run_before walk_before
  pub item : OpView
  pub step : walks.GivesOperation item walk_before walk'
  pub made : RunsOn item run_before run' (Some row)

-- The program ended, and no further operation appends a row. It is known whether rows follow the last end row.
pub record EndsWith (is_open : Bool) (run : RunState) (walk : Walk) (run' : RunState) (walk' : Walk) : Type 0 where
  pub walk_before : Walk
  pub passes : RunsToRow run walk run' walk_before
  pub ends : Ends walk_before walk'
  pub open_is : run'.is_open ≡ is_open

-- Before a further row was appended, bytes came that don't begin with an operation.
pub record Breaks (fault : Fault) (run : RunState) (walk : Walk) (run' : RunState) (walk' : Walk) : Type 0 where
  pub walk_before : Walk
  pub passes : RunsToRow run walk run' walk_before
  pub fails : Fails fault walk_before walk'

-- Before a further row was appended, an operation with this index came that leads out of the range of lines. It isn't run.
pub record LeavesLines (index : ℕ) (run : RunState) (walk : Walk) (run' : RunState) (walk' : Walk) : Type 0 where
  pub walk_before : Walk
  pub passes : RunsToRow run walk run' walk_before
  pub item : OpView
  pub step : walks.GivesOperation item walk_before walk'
  pub leaves : LeavesRange item run'.machine
  pub index_is : index ≡ run'.machine.count

-- what comes next that isn't a fault: a row, or the end with no rows open
abbrev pub Comes : Option Row → RunState → Walk → RunState → Walk → Type 0
Comes (Some row) run walk run' walk' = Makes row run walk run' walk'
Comes None run walk run' walk' = EndsWith false run walk run' walk'

-- the fault that comes next
abbrev pub Stops : RowFault → RunState → Walk → RunState → Walk → Type 0
Stops (Malformed fault) run walk run' walk' = Breaks fault run walk run' walk'
Stops (Run (LineOutOfRange index)) run walk run' walk' = LeavesLines index run walk run' walk'
Stops (Run OpenSequence) run walk run' walk' = EndsWith true run walk run' walk'
Stops (Run Memory) run walk run' walk' = ⊥

-- The walk continues, or has ended, and this holds for what came.
pub record Goes (ended : Bool) (old new : RowWalk) (IsSo : RunState → Walk → RunState → Walk → Type 0) : Type 0 where
  pub going : old.ended ≡ false
  pub ended_is : new.ended ≡ ended
  pub is_so : IsSo old.run old.walk new.run new.walk

-- One step of a walk over rows. After its end nothing comes, and the walk is unchanged.
abbrev pub RowStep : RowWalk → Option (Result Row RowFault) → RowWalk → Type 0
RowStep old None new = ((old.ended ≡ true) × (new ≡ old)) ⊎ Goes true old new (Comes None)
RowStep old (Some (Ok row)) new = Goes false old new (Comes (Some row))
RowStep old (Some (Err fault)) new = Goes true old new (Stops fault)
