-- Rows of older programs that name file 0. No file has that number there: files count from 1 (DWARF 2 to 4, section 6.2.4).
use Rattle.std.specs.Prelude.{◌≡◌, ℕ, ◌<◌, false, List, [], ◌∷◌, ◌++◌, length, Option, Some, None}
use Rattle.lnt_wire.specs.Reading.{At, Reads}
use Rattle.lnt_wire.specs.declared.format.Order.{Order}
use Rattle.lnt_header.specs.Joins.{Each, PlacedFrom}
use Rattle.lnt_header.specs.Parts.{HeaderParts}
use Rattle.lnt_header.specs.declared.numbers.NumberParts.{NumberParts}
use Rattle.lnt_header.specs.declared.op.Op.{Op}
use Rattle.lnt_ops.specs.OpBytes.{OpBytes}
use Rattle.lnt_machine.specs.Matrix.{rows_after}
use Rattle.lnt_machine.specs.declared.row.Row.{Row}
use Rattle.lnt_machine.specs.Walking.{LinesAfter}
use Rattle.lnt_older.specs.OlderBytes.{OlderBytesIn}
use Rattle.lnt_older.specs.OlderUnits.{AnyBytes, AnyParts, OlderUnit, unit_header}

-- ---- the rows of a program, as far as it can be read

-- Operations with which the bytes of a program begin, after those of `back`, and after each of which the line is in range.
pub record BeginsWith (h : NumberParts) (back ops : List Op) (bytes : List ℕ) : Type 0 where
  pub prefix : List ℕ
  pub rest : List ℕ
  pub joined : bytes ≡ prefix ++ rest
  pub spelled : Each (OpBytes h) ops prefix
  pub lines : LinesAfter h back ops

-- The row with this index, of those that such operations make, is no end row and names file 0.
pub record IsZeroRow (h : NumberParts) (back : List Op) (bytes : List ℕ) (index : ℕ) : Type 0 where
  pub ops : List Op
  pub begins : BeginsWith h back ops bytes
  pub before : List Row
  pub row : Row
  pub after : List Row
  pub rows_are : rows_after h back ops ≡ before ++ row ∷ after
  pub index_is : index ≡ length before
  pub no_end : row.end_sequence ≡ false
  pub file_is : row.file ≡ 0

-- ---- units

-- The bytes are an older unit that lists files, whose addresses have this many bytes, and the row with this index names file 0.
pub record HasZeroRow (order : Order) (address_size : ℕ) (bytes : List ℕ) (index : ℕ) : Type 0 where
  pub header : HeaderParts
  pub program : List ℕ
  pub older : OlderBytesIn order address_size (header, program) bytes
  pub some : 0 < length header.files
  pub zero : IsZeroRow header.numbers [] program index

-- No row of the bytes does.
abbrev pub NoZeroRow : Order → ℕ → List ℕ → Type 0
NoZeroRow order address_size bytes = (index : ℕ) → HasZeroRow order address_size bytes index → ⊥

-- This row is the first that does.
pub record HasFirstZeroRow (order : Order) (address_size : ℕ) (bytes : List ℕ) (index : ℕ) : Type 0 where
  pub zero : HasZeroRow order address_size bytes index
  pub first : (earlier : ℕ) → earlier < index → HasZeroRow order address_size bytes earlier → ⊥

-- ---- sections

-- The bytes are those of the unit, and none of its rows names file 0.
pub record NamesFiles (order : Order) (address_size : ℕ) (unit : ℕ × AnyParts) (bytes : List ℕ) : Type 0 where
  pub spelled : AnyBytes order unit.1 bytes
  pub none : NoZeroRow order address_size bytes

-- No row of the section's older units names file 0.
abbrev pub AllNameFiles : Order → ℕ → List ℕ → Type 0
AllNameFiles order address_size section = (units : List (ℕ × AnyParts)) × PlacedFrom (NamesFiles order address_size) 0 units section

-- After units of which no row does comes one at this offset, whose row with this index is the first that does.
pub record IsZeroRowAt (order : Order) (address_size : ℕ) (section : List ℕ) (offset index : ℕ) : Type 0 where
  pub prefix : List ℕ
  pub unit : List ℕ
  pub rest : List ℕ
  pub joined : section ≡ prefix ++ (unit ++ rest)
  pub place : offset ≡ length prefix
  pub before : AllNameFiles order address_size prefix
  pub names : HasFirstZeroRow order address_size unit index

-- ---- what the bodies say of one step. No public contract speaks of it.

-- the numbers of an older unit, whose addresses have this many bytes
abbrev pub numbers_of : OlderUnit → ℕ → NumberParts
numbers_of unit address_size = (unit_header unit address_size [] []).numbers

-- the first of the rows of a program that is no end row and names file 0, if there is one
abbrev pub IsFirstOfProgram : NumberParts → List ℕ → Option ℕ → Type 0
IsFirstOfProgram h program None = (index : ℕ) → IsZeroRow h [] program index → ⊥
IsFirstOfProgram h program (Some index) =
    IsZeroRow h [] program index × ((earlier : ℕ) → earlier < index → IsZeroRow h [] program earlier → ⊥)

-- the same of a unit that was read; one without files has none
abbrev pub IsFirstOfUnit : OlderUnit → ℕ → Option ℕ → Type 0
IsFirstOfUnit unit address_size None =
    0 < unit.header.files.count → IsFirstOfProgram (numbers_of unit address_size) unit.program.now None
IsFirstOfUnit unit address_size (Some index) =
    (0 < unit.header.files.count) × IsFirstOfProgram (numbers_of unit address_size) unit.program.now (Some index)

-- the same of the bytes of a unit
abbrev pub IsFirstOfBytes : Order → ℕ → List ℕ → Option ℕ → Type 0
IsFirstOfBytes order address_size bytes None = NoZeroRow order address_size bytes
IsFirstOfBytes order address_size bytes (Some index) = HasFirstZeroRow order address_size bytes index

-- The unit at a cursor was read, and this is its first row that names file 0, if it has one.
pub record JudgesRows (address_size : ℕ) (found : Option ℕ) (old new : At) : Type 0 where
  pub parts : AnyParts
  pub read : Reads (AnyBytes old.order) parts old new
  pub first : IsFirstOfBytes old.order address_size read.spelling found
