-- The frequent operation with a short operand that bytes begin with.
use Rattle.std.specs.Prelude.{◌≡◌, ◌⊎◌, ℕ, ◌≤◌, List, length, take}
use Rattle.lnt_header.specs.declared.numbers.NumberParts.{NumberParts}
use Rattle.lnt_header.specs.declared.op.Op.{Op}
use Rattle.lnt_header.specs.declared.op.OpView.{OpView}
use Rattle.lnt_header.specs.declared.op.OpView.TheVariants.{Special, Copy, AdvancePc, AdvanceLine, SetFile, SetColumn}
use Rattle.lnt_header.specs.declared.op.OpView.TheVariants.{NegateStmt, ConstAddPc, SetDiscriminator}
use Rattle.lnt_header.specs.OpRules.{Admits, StandsFor}
use Rattle.lnt_ops.specs.OpBytes.{OpBytes}

-- This many bytes at the start encode an operation that the header admits and the view stands for.
pub record IsOperationPrefix (h : NumberParts) (view : OpView) (size : ℕ) (bytes : List ℕ) : Type 0 where
  pub op : Op
  pub stands : StandsFor view op
  pub admitted : Admits h op
  pub within : size ≤ length bytes
  pub spelled : OpBytes h op (take size bytes)

-- An operation of a frequent kind whose operand is short takes this many bytes: one for the operand, or two if that is signed.
abbrev pub IsShort : OpView → ℕ → Type 0
IsShort (Special opcode) size = size ≡ 1
IsShort Copy size = size ≡ 1
IsShort (AdvancePc n) size = size ≡ 2
IsShort (AdvanceLine z) size = (size ≡ 2) ⊎ (size ≡ 3)
IsShort (SetFile n) size = size ≡ 2
IsShort (SetColumn n) size = size ≡ 2
IsShort NegateStmt size = size ≡ 1
IsShort ConstAddPc size = size ≡ 1
IsShort (SetDiscriminator n) size = size ≡ 4
IsShort view size = ⊥

-- The bytes don't begin with such an operation.
abbrev pub NoneShort : NumberParts → List ℕ → Type 0
NoneShort h bytes = (view : OpView) (size : ℕ) → IsShort view size → IsOperationPrefix h view size bytes → ⊥
