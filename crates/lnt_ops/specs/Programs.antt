-- Programs: operations one after another (DWARF 5, section 6.2.5).
use Rattle.std.specs.Prelude.{◌≡◌, ℕ, ◌+◌, List, ◌++◌, length}
use Rattle.lnt_wire.specs.declared.fault.Fault.{Fault}
use Rattle.lnt_wire.specs.declared.fault.Reason.{Reason}
use Rattle.lnt_header.specs.declared.numbers.NumberParts.{NumberParts}
use Rattle.lnt_header.specs.declared.op.Op.{Op}
use Rattle.lnt_header.specs.Joins.{Each}
use Rattle.lnt_ops.specs.OpBytes.{OpBytes}
use Rattle.lnt_ops.specs.OpFaults.{IsOpFault, IsFirstFault}

-- The fault is that of an operation that isn't valid, after some that are.
pub record IsFirstIn (h : NumberParts) (reason : Reason) (before left : List ℕ) : Type 0 where
  pub ops : List Op
  pub prefix : List ℕ
  pub fields : List ℕ
  pub sound : Each (OpBytes h) ops prefix
  pub joined : before ≡ prefix ++ fields
  pub fault : IsFirstFault h reason fields left

-- No operations encode the whole program, which is at a place, and the fault says why: its own place is after the bytes `before`.
pub record BrokenProgram (h : NumberParts) (place : ℕ) (program : List ℕ) (fault : Fault) : Type 0 where
  pub before : List ℕ
  pub left : List ℕ
  pub split : program ≡ before ++ left
  pub place_is : fault.place ≡ place + length before
  pub reason : IsOpFault h.address_size fault.reason before left
  pub first : IsFirstIn h fault.reason before left
  pub none : (ops : List Op) → Each (OpBytes h) ops program → ⊥
