-- Walks over the operations of a program, one by one.
use Rattle.std.specs.Prelude.{◌≡◌, ◌<◌, ◌⊎◌, Bool, true, false, List, [], ◌∷◌, length, Option, Some, None, Result, Ok, Err, ℕ, ◌++◌}
use Rattle.lnt_wire.specs.Reading.{At, Refuses}
use Rattle.lnt_wire.specs.declared.fault.Fault.{Fault}
use Rattle.lnt_header.specs.declared.numbers.NumberParts.{NumberParts}
use Rattle.lnt_header.specs.declared.op.OpView.{OpView}
use Rattle.lnt_ops.specs.OpBytes.{OpBytes}
use Rattle.lnt_ops.specs.OpFaults.{IsOpFault, IsFirstFault}
use Rattle.lnt_ops.specs.OpSteps.{GivesOp}
use Rattle.lnt_header.specs.declared.op.Op.{Op}
use Rattle.lnt_header.specs.Joins.{Each}

-- What a walk is: the numbers of the unit's header, its place in the program, and whether an operation failed.
pub record Walk : Type 0 where
  pub numbers : NumberParts
  pub at : At
  pub failed : Bool

-- the walk has ended: nothing is left, or an operation failed earlier
pub record Ends (old new : Walk) : Type 0 where
  pub ended : (old.failed ≡ true) ⊎ (length old.at.rest ≡ 0)
  pub unchanged : new ≡ old

-- the next operation
pub record GivesOperation (view : OpView) (old new : Walk) : Type 0 where
  pub going : old.failed ≡ false
  pub goes_on : new.failed ≡ false
  pub header_is : new.numbers ≡ old.numbers
  pub gives : GivesOp old.numbers view old.at new.at
  pub shorter : length new.at.rest < length old.at.rest

-- bytes are left, and they don't begin with an operation
pub record Fails (fault : Fault) (old new : Walk) : Type 0 where
  pub going : old.failed ≡ false
  pub failed : new.failed ≡ true
  pub header_is : new.numbers ≡ old.numbers
  pub at_is : new.at ≡ old.at
  pub some : 0 < length old.at.rest
  pub refuses : Refuses (IsOpFault old.numbers.address_size) (OpBytes old.numbers) old.at fault
  pub first : Refuses (IsFirstFault old.numbers) (OpBytes old.numbers) old.at fault

-- one step of a walk
abbrev pub WalkStep : Walk → Option (Result OpView Fault) → Walk → Type 0
WalkStep old None new = Ends old new
WalkStep old (Some (Ok view)) new = GivesOperation view old new
WalkStep old (Some (Err fault)) new = Fails fault old new

-- The walk gives these, one after another, and is then in this state.
abbrev pub GivesEach : List OpView → Walk → Walk → Type 0
GivesEach [] old new = new ≡ old
GivesEach (item ∷ items) old new = (next : Walk) × GivesOperation item old next × GivesEach items next new

-- ---- the remaining operations of a walk over a program, and the places of operations in a program

-- The walk continues, over bytes that encode these operations.
pub record OperationsAreLeft (h : NumberParts) (later : List Op) (walk : Walk) : Type 0 where
  pub header_is : walk.numbers ≡ h
  pub going : walk.failed ≡ false
  pub spelled : Each (OpBytes h) later walk.at.rest

-- This many bytes of the program encode the first of its operations, and the bytes after them encode the later ones.
pub record IsPlace (h : NumberParts) (program : List ℕ) (earlier later : List Op) (place : ℕ) : Type 0 where
  pub prefix : List ℕ
  pub rest : List ℕ
  pub split : program ≡ prefix ++ rest
  pub place_is : place ≡ length prefix
  pub earlier_spelled : Each (OpBytes h) earlier prefix
  pub later_spelled : Each (OpBytes h) later rest
