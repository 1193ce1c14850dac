-- Which values have an encoding in their form, and none shorter (DWARF 5, sections 7.5.6 and 7.6).
use Rattle.std.specs.Prelude.{◌≡◌, ℕ, ◌^◌, ◌<◌, List, length}
use Rattle.lnt_wire.specs.declared.form.FormValue.{FormValue}
use Rattle.lnt_wire.specs.declared.form.FormValue.TheVariants.{LineStrp, Strp, Udata, Data1, Data2, Data4, Data8, Data16, Block}
use Rattle.lnt_wire.specs.Bytes.{IsShortest}

-- the value has a shortest encoding
abbrev pub HasShortest : {X : Type 0} → (X → List ℕ → Type 0) → X → Type 0
HasShortest Spells x = (bytes : List ℕ) × IsShortest Spells x bytes

-- The number in a value, or the number of its bytes, is one that its form can encode in the 64-bit format. A `FormValue` holds no
-- other.
abbrev pub FitsForm : FormValue → Type 0
FitsForm (LineStrp offset) = offset < 2 ^ 64
FitsForm (Strp offset) = offset < 2 ^ 64
FitsForm (Udata n) = n < 2 ^ 64
FitsForm (Data1 n) = n < 2 ^ 8
FitsForm (Data2 n) = n < 2 ^ 16
FitsForm (Data4 n) = n < 2 ^ 32
FitsForm (Data8 n) = n < 2 ^ 64
FitsForm (Data16 bytes) = length bytes ≡ 16
FitsForm (Block block) = length block < 2 ^ 64
FitsForm _ = Unit {0}
