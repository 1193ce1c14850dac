-- What is written of views of operations.
use Rattle.std.specs.Prelude.{◌≡◌, ℕ, List, [], ◌∷◌, ◌++◌}
use Rattle.lnt_wire.specs.Leb128.{UnsignedLeb}
use Rattle.lnt_ops.specs.OpBytes.{Extended, OpBytes}
use Rattle.lnt_wire.specs.Bytes.{Appends}
use Rattle.lnt_wire.specs.declared.format.Order.{Order}
use Rattle.lnt_header.specs.Conversion.{in_order}
use Rattle.lnt_header.specs.declared.numbers.NumberParts.{NumberParts}
use Rattle.lnt_header.specs.declared.op.Op.{Op}
use Rattle.lnt_header.specs.declared.op.OpView.{OpView}
use Rattle.lnt_header.specs.Joins.{Each}
use Rattle.lnt_header.specs.OpRules.{Admits, StandsFor}

-- ---- the parts of an operation's bytes, by its operand, as they are written one after the other. No public contract speaks of these.

-- a code, and the operand after it
pub record Coded {X : Type 0} (code : ℕ) (Operand : X → List ℕ → Type 0) (x : X) (bytes : List ℕ) : Type 0 where
  pub operand : List ℕ
  pub spelled : Operand x operand
  pub joined : bytes ≡ code ∷ operand

-- an extended operation with this operand
pub record ExtendedCoded {X : Type 0} (code : ℕ) (Operand : X → List ℕ → Type 0) (x : X) (bytes : List ℕ) : Type 0 where
  pub spelled : Extended code (Operand x) bytes

-- what precedes the operand of an extended operation: a zero byte, how many bytes follow, and the code
pub record ExtendedStart (code count : ℕ) (bytes : List ℕ) : Type 0 where
  pub number : List ℕ
  pub spelled : UnsignedLeb count number
  pub joined : bytes ≡ 0 ∷ number ++ code ∷ []

-- ---- what is written

-- The view stands for an operation that some header with addresses of this size admits.
pub record IsOpOf (size : ℕ) (view : OpView) : Type 0 where
  pub numbers : NumberParts
  pub op : Op
  pub size_is : numbers.address_size ≡ size
  pub stands : StandsFor view op
  pub admitted : Admits numbers op

-- The operation that the view stands for was appended in its shortest encoding, as it is in each unit whose numbers have this
-- order, whose addresses have this size, and whose header admits it.
pub record AddsView (order : Order) (size : ℕ) (view : OpView) (old new : List ℕ) : Type 0 where
  pub adds : (h : NumberParts) (op : Op) → h.order ≡ order → h.address_size ≡ size → StandsFor view op → Admits h op
      → Appends (OpBytes h) op old new

-- The operations of the program were added in this order, each in its shortest encoding.
pub record AddsOps (h : NumberParts) (program : List ℕ) (order : Order) (old new : List ℕ) : Type 0 where
  pub ops : List Op
  pub spelled : Each (OpBytes h) ops program
  pub adds : Appends (Each (OpBytes (in_order h order))) ops old new
