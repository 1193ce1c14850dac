-- The bytes of a whole unit around its program (DWARF 5, sections 6.2.4 and 7.4).
use Rattle.std.specs.Prelude.{◌≡◌, ℕ, List, [], ◌∷◌, ◌++◌, length}
use Rattle.lnt_wire.specs.declared.format.Format.{Format}
use Rattle.lnt_wire.specs.declared.format.Order.{Order}
use Rattle.lnt_wire.specs.FormBytes.{BlockBytes}
use Rattle.lnt_wire.specs.Numbers.{OffsetBytes, number_bytes, offset_size}
use Rattle.lnt_header.specs.HeaderRules.{IsAddressSize, AreHeaderNumbers, single_bytes}
use Rattle.lnt_header.specs.Joins.{Both}
use Rattle.lnt_wire.specs.FrameBytes.{version_five, frame_bytes, LengthFits}
use Rattle.lnt_header.specs.Parts.{HeaderParts}
use Rattle.lnt_header_bytes.specs.TableBytes.{TableBytes}

-- ---- the fields of a header after its version up to header_length, with the bytes that this counts, as they are read one after another
-- `HeaderBytes` has the same fields.

-- one byte, of a kind
abbrev pub ByteBytes : (ℕ → Type 0) → ℕ → List ℕ → Type 0
ByteBytes Is n bytes = Is n × (bytes ≡ n ∷ [])

abbrev pub AddressSizeBytes : ℕ → List ℕ → Type 0
AddressSizeBytes = ByteBytes IsAddressSize

abbrev pub SelectorBytes : ℕ → List ℕ → Type 0
SelectorBytes = ByteBytes (λ size. size ≡ 0)

-- header_length, and the bytes that it counts
abbrev pub CountedBytes : Format → Order → List ℕ → List ℕ → Type 0
CountedBytes format order counted bytes = BlockBytes (OffsetBytes format order) counted bytes

abbrev pub AfterSize : Format → Order → ℕ → ℕ × List ℕ → List ℕ → Type 0
AfterSize format order size v bytes = Both SelectorBytes (λ _. CountedBytes format order) v bytes

-- the address size, the segment selector size 0, and the bytes that header_length counts
abbrev pub StartBytes : Format → Order → ℕ × (ℕ × List ℕ) → List ℕ → Type 0
StartBytes format order v bytes = Both AddressSizeBytes (AfterSize format order) v bytes

-- ---- a unit around its program

-- The bytes that header_length counts: fields of one byte, the two tables, and whatever else precedes the program.
pub record HeaderFieldsBytes (h : HeaderParts) (bytes : List ℕ) : Type 0 where
  pub directories : List ℕ
  pub files : List ℕ
  pub numbers : AreHeaderNumbers h.numbers
  pub directory_table : TableBytes h.format h.numbers.order h.directory_format h.directories directories
  pub file_table : TableBytes h.format h.numbers.order h.file_format h.files files
  pub joined : bytes ≡ single_bytes h.numbers ++ directories ++ files ++ h.extra

-- what unit_length counts: the fields after it, and the program
abbrev pub unit_body : HeaderParts → List ℕ → List ℕ → List ℕ
unit_body h fields program =
    version_five h.numbers.order ++ (h.numbers.address_size ∷ 0 ∷ []) ++ number_bytes h.numbers.order (offset_size h.format) (length fields)
    ++ fields ++ program

-- The bytes of a unit with this header and this program.
pub record HeaderBytes (h : HeaderParts) (program bytes : List ℕ) : Type 0 where
  pub fields : List ℕ
  pub counted : HeaderFieldsBytes h fields
  pub fits : LengthFits h.format (length (unit_body h fields program))
  pub joined : bytes ≡ frame_bytes h.numbers.order h.format (unit_body h fields program)

-- a header and a program in this byte order, and the bytes of their unit
pub record HeaderBytesIn (order : Order) (unit : HeaderParts × List ℕ) (bytes : List ℕ) : Type 0 where
  pub order_is : unit.0.numbers.order ≡ order
  pub spelled : HeaderBytes unit.0 unit.1 bytes
