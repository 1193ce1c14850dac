-- What is encoded is read back, whatever follows: in each kind, no encoding is a prefix of another, and each encodes one value.
use Rattle.std.specs.Prelude.{ℕ, ◌^◌, ◌<◌, List, ℤ, FitsSigned}
use Rattle.std.specs.Int.{w64}
use Rattle.lnt_wire.specs.Bytes.{IsCode}
use Rattle.lnt_wire.specs.FormBytes.{FormBytes, HasSpelling, IsTooLarge, ValueBytes, Form, FormValue}
use Rattle.lnt_wire.specs.Leb128.{UnsignedLeb, SignedLeb}
use Rattle.lnt_wire.specs.Numbers.{NumberBytes, OffsetBytes, Order, Format}
use Rattle.lnt_wire.specs.Spelled.{FitsForm, HasShortest}

-- numbers of 1, 2, 4 and 8 bytes, and offsets
pub record OneNumber : Type 0 where
  pub one_byte : (order : Order) → IsCode (NumberBytes order 1)
  pub two_bytes : (order : Order) → IsCode (NumberBytes order 2)
  pub four_bytes : (order : Order) → IsCode (NumberBytes order 4)
  pub eight_bytes : (order : Order) → IsCode (NumberBytes order 8)
  pub offset : (format : Format) (order : Order) → IsCode (OffsetBytes format order)

-- LEB128 numbers, padded or not
pub record OneLeb : Type 0 where
  pub unsigned : IsCode UnsignedLeb
  pub signed : IsCode SignedLeb

-- values of one form
abbrev pub OneValue : Type 0
OneValue = (format : Format) (order : Order) (form : Form) → IsCode (ValueBytes format order form)

-- A LEB128 number has an encoding if it is in range, and a value exactly when the format can encode it in its form.
pub record SpelledValues : Type 0 where
  pub unsigned : (n : ℕ) → n < 2 ^ 64 → HasShortest UnsignedLeb n
  pub signed : (z : ℤ) → FitsSigned w64 z → HasShortest SignedLeb z
  pub value : (format : Format) (order : Order) (value : FormValue) → HasSpelling value → FitsForm value → (IsTooLarge format value → ⊥)
      → HasShortest (FormBytes format order) value
  pub allowed : (format : Format) (order : Order) (value : FormValue) (bytes : List ℕ) → FormBytes format order value bytes
      → HasSpelling value × FitsForm value × (IsTooLarge format value → ⊥)
