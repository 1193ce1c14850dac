-- What the bodies of this crate say of one step. No public contract speaks of it.
use Rattle.std.specs.Prelude.{◌≡◌, ℕ, ◌+◌, List, ◌++◌, length, ◌∷◌, ◌<◌, ◌≤◌, ℤ, pos, neg_ℤ, ◌≤ℤ◌, ◌<ℤ◌, [], get_or, take}
use Rattle.std.specs.List.{AllByRecursion}
use Rattle.lnt_wire.specs.Reading.{At}
use Rattle.lnt_header.specs.declared.numbers.NumberParts.{NumberParts}
use Rattle.lnt_header.specs.declared.op.Op.{Op}
use Rattle.lnt_header.specs.Joins.{Each}
use Rattle.lnt_header.specs.OpRules.{Admits, StandsFor, AreOperands}
use Rattle.lnt_ops.specs.OpBytes.{OpBytes}
use Rattle.lnt_header.specs.declared.op.OpView.{OpView}
use Rattle.lnt_wire.specs.Bytes.{Appends}
use Rattle.lnt_wire.specs.Leb128.{UnsignedLeb, signed_groups}
use Rattle.lnt_header.specs.declared.op.Operands.{Operands}
use Rattle.lnt_ops.specs.OpPuts.{Coded}

-- the operations of the program up to a cursor
pub record OpsSoFar (h : NumberParts) (place : ℕ) (program : List ℕ) (ops : List Op) (at : At) : Type 0 where
  pub prefix : List ℕ
  pub spelled : Each (OpBytes h) ops prefix
  pub admitted : AllByRecursion (Admits h) ops
  pub whole : program ≡ prefix ++ at.rest
  pub place_is : at.place ≡ place + length prefix
  pub order_is : at.order ≡ h.order

-- ---- an operation that is kept

-- the view stands for some operation
pub record StandsForSome (view : OpView) : Type 0 where
  pub op : Op
  pub stands : StandsFor view op

-- ---- operands that are added

-- The numbers that the bytes encode were appended, each in its shortest encoding.
pub record AddsSpelled (bytes old new : List ℕ) : Type 0 where
  pub adds : (numbers : List ℕ) → Each UnsignedLeb numbers bytes → Appends (Each UnsignedLeb) numbers old new

-- The code was added, and after it the numbers that the operands are.
pub record AddsOperands (code : ℕ) (operands : Operands) (old new : List ℕ) : Type 0 where
  pub adds : (numbers : List ℕ) → AreOperands operands numbers → Appends (Coded code (Each UnsignedLeb)) numbers old new

-- ---- operands that aren't short

-- there is no byte, or one that isn't the last of a number
abbrev pub NoByte : List ℕ → Type 0
NoByte operand = 0 < length operand → 128 ≤ get_or operand 0 0

-- neither the first byte nor the second is there as the last of a number
abbrev pub NoTwoBytes : List ℕ → Type 0
NoTwoBytes operand = NoByte operand × (1 < length operand → 128 ≤ get_or operand 1 0)

-- what follows isn't the length 2, the code 4 and a number of one byte
pub record NoDiscriminator (operand : List ℕ) : Type 0 where
  pub none : (n : ℕ) → n < 128 → take 3 operand ≡ 2 ∷ 4 ∷ n ∷ [] → ⊥

-- a byte below 128 in two's complement of seven bits
pub record IsGroup (byte : ℕ) (z : ℤ) : Type 0 where
  pub value : z ≡ signed_groups (byte ∷ [])
  pub least : neg_ℤ (pos 64) ≤ℤ z
  pub most : z <ℤ pos 64
