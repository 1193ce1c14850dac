-- What the readers of the code do. No public contract speaks of it.
use Rattle.std.specs.Prelude.{ℕ, zero, suc, ◌+◌, ◌%◌, ◌^◌, Bool, true, false, ◌==◌}
use Rattle.std.specs.Prelude.{if◌then◌else◌, List, take, drop, Option, None, Some, unwrap_or, Ok, Err}
use Rattle.lnt_wire.specs.declared.fault.Fault.{Fault}
use Rattle.lnt_wire.specs.declared.fault.Reason.TheVariants.{LebTooLarge}
use Rattle.lnt_wire.specs.declared.fault.Reason.{Reason}
use Rattle.lnt_wire.specs.Reading.{At}
use Rattle.lnt_gsym.specs.GsymInfos.{function_of, LineNumbers, Operation, Part, Row, operation, row_reason, rows_of, tables_from}
use Rattle.lnt_gsym.specs.GsymFields.{fault_of}
use Rattle.lnt_gsym.specs.GsymFiles.{at_place, files_of, Header, numbers_of, Tables}
use Rattle.lnt_wire.specs.FirstValues.{first_number}
use Rattle.lnt_wire.specs.declared.format.Order.{Order}
use Rattle.lnt_gsym.specs.declared.fault.GsymFault.{GsymFault}
use Rattle.lnt_gsym.specs.declared.header.Header.{Header as HeaderRead}
use Rattle.lnt_gsym.specs.declared.part.InfoPart.{InfoPart as PartRead}
use Rattle.lnt_gsym.specs.declared.tables.Tables.{Tables as TablesRead}
use Rattle.lnt_gsym.specs.declared.fault.GsymReason.{GsymReason}
use Rattle.lnt_gsym.specs.declared.fault.GsymReason.TheVariants.{Cut, NumberTooLarge}

-- the reason of a fault of a LEB128 number
abbrev pub named_reason : Reason → GsymReason
named_reason LebTooLarge = NumberTooLarge
named_reason _ = Cut

abbrev pub named_fault : Fault → GsymFault
named_fault fault = record { place = fault.place; reason = named_reason fault.reason }

-- ---- what the values of the code say

abbrev pub header_said : List ℕ → HeaderRead → Header
header_said bytes header = record {
  address_size = header.address_size;
  base = header.base;
  count = header.count;
  strings = take header.strings_size (drop header.strings_place bytes);
}

abbrev pub tables_said : Order → Header → TablesRead → Tables
tables_said order header tables = record {
  starts = numbers_of order header.address_size header.count tables.starts.now;
  infos = numbers_of order 4 header.count tables.infos.now;
  files = files_of order tables.count tables.files.now;
}

-- the bytes of a part
abbrev pub bytes_said : PartRead → At
bytes_said part = record { place = part.place; rest = part.bytes.now; order = part.order }

abbrev pub part_said : PartRead → Part
part_said part = record { kind = part.kind; bytes = bytes_said part }

-- the first fault of the line table that a part is, if it is one
unfoldable pub part_fault : ℕ → ℕ → Part → Option GsymFault
part_fault files start part = if part.kind == 1 then fault_of (rows_of files start part.bytes) else None

-- the first fault of parts
unfoldable pub parts_fault : ℕ → ℕ → ℕ → At → Option GsymFault
parts_fault room files start at = fault_of (tables_from room files start at)

-- the same after a part, if more follow it
abbrev pub then_parts : Bool → ℕ → ℕ → ℕ → At → Option GsymFault
then_parts true room files start at = parts_fault room files start at
then_parts false room files start at = None

-- the first fault of the info of the entry that stands first here
unfoldable pub entry_fault : Order → List ℕ → ℕ → ℕ → ℕ → List ℕ → List ℕ → Option GsymFault
entry_fault order bytes base files size starts infos =
    fault_of (function_of files (base + first_number order size starts) (at_place order bytes (first_number order 4 infos)))

-- ---- the rows of a line table, one after another

-- the row after an operation
abbrev pub moved : Row → Operation → Row
moved row done = record {
  address = row.address + done.advance;
  file = unwrap_or done.file row.file;
  line = (row.line + done.change) % 2 ^ 32;
}

-- the first fault of the operations from here on, after those that led to the row
abbrev pub running : ℕ → ℕ → LineNumbers → Row → At → Option GsymFault
running zero files numbers row at = None
running (suc room) files numbers row at = elim (operation numbers at) [
  | Err fault ↦ Some fault
  | Ok read ↦ elim (read.0) [
    | None ↦ None
    | Some done ↦ elim (done.makes_row) [
      | false ↦ running room files numbers (moved row done) read.1
      | true ↦ elim (row_reason files (moved row done)) [
        | Some reason ↦ Some (record { place = at.place; reason = reason })
        | None ↦ running room files numbers (moved row done) read.1
      ]
    ]
  ]
]

-- the same after a row, or nothing after the end
abbrev pub then_running : ℕ → ℕ → LineNumbers → Option Row → At → Option GsymFault
then_running room files numbers None at = None
then_running room files numbers (Some row) at = running room files numbers row at
