-- What is written of a header.
use Rattle.std.specs.Prelude.{◌≡◌, ℕ, List, [], ◌∷◌, ◌++◌, length}
use Rattle.lnt_wire.specs.FrameBytes.{version_five, frame_bytes, LengthFits}
use Rattle.lnt_wire.specs.Numbers.{number_bytes, offset_size}
use Rattle.lnt_wire.specs.declared.format.Format.{Format}
use Rattle.lnt_wire.specs.declared.format.Order.{Order}
use Rattle.lnt_wire.specs.FormBytes.{FormBytes}
use Rattle.lnt_header.specs.Conversion.{in_order}
use Rattle.lnt_header.specs.HeaderRules.{header_of}
use Rattle.lnt_header.specs.Parts.{HeaderParts}
use Rattle.lnt_header.specs.declared.numbers.NumberParts.{NumberParts}
use Rattle.lnt_header_bytes.specs.declared.encode.TableToPut.{TableToPut}
use Rattle.lnt_header_bytes.specs.declared.encode.TableToPut.TheVariants.{Held, InPlace}
use Rattle.lnt_header.specs.Joins.{Each}
use Rattle.lnt_header.specs.declared.header.Entry.{Entry}
use Rattle.lnt_header.specs.declared.header.Pair.{Pair}

-- what unit_length counts, around these fields and this program
abbrev pub around : Order → Format → ℕ → List ℕ → List ℕ → List ℕ
around order format size fields program =
    version_five order ++ (size ∷ 0 ∷ []) ++ number_bytes order (offset_size format) (length fields) ++ fields ++ program

-- The bytes of a unit of these fields and this program were added.
pub record AddsAround (order : Order) (format : Format) (size : ℕ) (fields program old new : List ℕ) : Type 0 where
  pub fits : LengthFits format (length (around order format size fields program))
  pub joined : new ≡ old ++ frame_bytes order format (around order format size fields program)

-- the values of an entry, one after the other
abbrev pub EntryParts : Format → Order → Entry → List ℕ → Type 0
EntryParts format order entry bytes = Each (FormBytes format order) entry.values bytes

-- the pairs and the entries of a table, wherever these are
abbrev pub table_to_put : TableToPut → List Pair × List Entry
table_to_put (Held pairs entries) = (pairs.now, entries.now)
table_to_put (InPlace table) = (table.now.pairs, table.now.entries)

-- the header of these numbers in this order, and of these tables, in this format
abbrev pub header_to_put : Format → Order → NumberParts → TableToPut → TableToPut → List ℕ → HeaderParts
header_to_put format order numbers directories files extra = header_of format (in_order numbers order) (table_to_put directories).0
    (table_to_put directories).1 (table_to_put files).0 (table_to_put files).1 extra
