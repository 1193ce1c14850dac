-- Fixed-width numbers in either byte order, and offsets in either format (DWARF 5, sections 7.4 and 7.5.5).
use Rattle.std.specs.Prelude.{◌≡◌, ℕ, ◌^◌, ◌<◌, ◌≤◌, List}
use Rattle.std.specs.Int.{bytes_low_first, bytes_high_first}
pub use Rattle.lnt_wire.specs.declared.format.Order.{Order}
use Rattle.lnt_wire.specs.declared.format.Order.TheVariants.{Little, Big}
pub use Rattle.lnt_wire.specs.declared.format.Format.{Format}
use Rattle.lnt_wire.specs.declared.format.Format.TheVariants.{D32, D64}

-- the size lowest bytes of n, in the order
abbrev pub number_bytes : Order → ℕ → ℕ → List ℕ
number_bytes Little size n = bytes_low_first 0 size n
number_bytes Big size n = bytes_high_first size n

-- The bytes encode the unsigned number in size bytes.
pub record NumberBytes (order : Order) (size n : ℕ) (bytes : List ℕ) : Type 0 where
  pub fits : n < 256 ^ size
  pub spelled : bytes ≡ number_bytes order size n

-- the number of bytes of an offset or a length (DWARF 5, section 7.4)
abbrev pub offset_size : Format → ℕ
offset_size D32 = 4
offset_size D64 = 8

-- The bytes encode the offset in the format.
abbrev pub OffsetBytes : Format → Order → ℕ → List ℕ → Type 0
OffsetBytes format order n bytes = NumberBytes order (offset_size format) n bytes

-- The offset is too large for the format.
abbrev pub IsLargeOffset : Format → ℕ → Type 0
IsLargeOffset D32 n = 2 ^ 32 ≤ n
IsLargeOffset D64 n = ⊥
