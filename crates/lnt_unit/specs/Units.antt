-- Units of a section, each by its bytes alone (DWARF 5, sections 6.2.4 and 7.4).
use Rattle.std.specs.Prelude.{◌≡◌, ℕ, ◌+◌, ◌^◌, ◌<◌, List, length, drop, Option, IfSome}
use Rattle.lnt_wire.specs.declared.format.Order.{Order}
use Rattle.lnt_wire.specs.declared.format.Format.{Format}
use Rattle.lnt_wire.specs.declared.format.Format.TheVariants.{D32, D64}
use Rattle.lnt_wire.specs.declared.fault.Fault.{Fault}
use Rattle.lnt_wire.specs.FrameBytes.{FrameBytes}
use Rattle.lnt_wire.specs.Frames.{EndsBy}
use Rattle.lnt_io.specs.Pulling.{Pulls}

-- The bytes of a unit, the offset in the section of the first of them, and the byte order of its numbers.
pub record BufferedUnit : Type 0 where
  pub offset : ℕ
  pub bytes : List ℕ
  pub order : Order

-- The bytes are one whole frame, and the offset in the section of its end is below 2^64.
pub record IsWholeUnit (unit : BufferedUnit) : Type 0 where
  pub format : Format
  pub body : List ℕ
  pub spelled : FrameBytes unit.order (format, body) unit.bytes
  pub room : unit.offset + length unit.bytes < 2 ^ 64

-- The unit is a whole one at the offset, and its bytes are the next of a source: those of the source before (old) are these and
-- the remaining ones (new).
pub record IsNextUnit (offset : ℕ) (order : Order) (old new : Option (List ℕ)) (unit : BufferedUnit) : Type 0 where
  pub whole : IsWholeUnit unit
  pub offset_is : unit.offset ≡ offset
  pub order_is : unit.order ≡ order
  pub pulls : Pulls old new unit.bytes

-- The section ends at the offset, if the source's bytes are known (remaining): nothing is left; or, with a fault, some bytes
-- that don't begin with a frame, for the fault's reason at its place.
abbrev pub SectionEndsBy : ℕ → Order → Option (List ℕ) → Option Fault → Type 0
SectionEndsBy offset order remaining fault =
    IfSome remaining (λ bytes. EndsBy (record { place = offset; rest = bytes; order = order }) fault)

-- how many bytes an initial length has (DWARF 5, section 7.4)
abbrev pub initial_size : Format → ℕ
initial_size D32 = 4
initial_size D64 = 12

-- The bytes are an initial length of the format and the body that it counts, which are one frame, and the offset in the section of
-- its end is below 2^64.
pub record IsSpelled (offset : ℕ) (order : Order) (format : Format) (bytes : List ℕ) : Type 0 where
  pub spelled : FrameBytes order (format, drop (initial_size format) bytes) bytes
  pub room : offset + length bytes < 2 ^ 64
