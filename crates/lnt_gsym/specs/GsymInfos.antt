-- The infos of functions in GSYM files, and the rows of their line tables (LLVM, `FunctionInfo` and `LineTable`).
use Rattle.std.specs.Prelude.{ℕ, zero, suc, ◌+◌, ◌-◌, ◌/◌, ◌%◌, ◌^◌, true, false, nat_lt, ◌==◌, ◌&&◌, not, List, [], ◌∷◌, length}
use Rattle.std.specs.Prelude.{ℤ, int_lt, unsigned_abs, ◌-ℤ◌, if◌then◌else◌, Option, None, Some, Result, Ok, Err}
use Rattle.std.specs.Int.{w64, cast_unsigned}
use Rattle.lnt_wire.specs.Reading.{At}
use Rattle.lnt_gsym.specs.GsymFields.{Read, then_read, refused, block, number, unsigned, file_number, signed}
use Rattle.lnt_gsym.specs.declared.fault.GsymFault.{GsymFault}
pub use Rattle.lnt_gsym.specs.declared.line_table.LineNumbers.{LineNumbers}
pub use Rattle.lnt_gsym.specs.declared.line_table.Operation.{Operation}
pub use Rattle.lnt_gsym.specs.declared.line_table.Row.{Row}
use Rattle.lnt_gsym.specs.declared.fault.GsymReason.{GsymReason}
use Rattle.lnt_gsym.specs.declared.fault.GsymReason.TheVariants.{LineRange, NoFile, NumberTooLarge}

-- ---- operations of a line table

-- how many changes of the line special operations can make
abbrev pub range_of : LineNumbers → ℕ
range_of numbers = unsigned_abs (numbers.greatest -ℤ numbers.least) + 1

-- what a change adds to the line, modulo 2^32
abbrev pub added : ℤ → ℕ
added change = cast_unsigned w64 change % 2 ^ 32

-- a special operation
abbrev pub special : LineNumbers → ℕ → Operation
special numbers code = record {
  advance = (code - 4) / range_of numbers;
  change = (added numbers.least + (code - 4) % range_of numbers) % 2 ^ 32;
  file = None;
  makes_row = true;
}

-- an operation, or none if it is the end
abbrev pub operation : LineNumbers → At → Read (Option Operation)
operation numbers at = then_read (number 1 at) (λ code.
    if code.0 == 0 then Ok (None, code.1)
    else if code.0 == 1 then then_read (file_number code.1) (λ file.
    Ok (Some (record { advance = 0; change = 0; file = Some file.0; makes_row = false }), file.1))
    else if code.0 == 2 then then_read (unsigned code.1) (λ advance.
    Ok (Some (record { advance = advance.0; change = 0; file = None; makes_row = true }), advance.1))
    else if code.0 == 3 then then_read (signed code.1) (λ change.
    Ok (Some (record { advance = 0; change = added change.0; file = None; makes_row = false }), change.1))
    else Ok (Some (special numbers code.0), code.1))

-- the head
abbrev pub line_numbers : At → Read LineNumbers
line_numbers at = then_read (signed at) (λ least. then_read (signed least.1) (λ greatest.
    if int_lt greatest.0 least.0 then refused least.1 LineRange
    else then_read (unsigned greatest.1) (λ first.
    Ok (record { least = least.0; greatest = greatest.0; first = first.0 }, first.1))))

-- ---- rows, by looking back at the operations that were done, the latest of which comes first

-- the file that was set last, else file 1
abbrev pub file_after : List Operation → ℕ
file_after [] = 1
file_after (done ∷ back) = elim (done.file) [ None ↦ file_after back | Some file ↦ file ]

-- how far they advance the address
abbrev pub advanced : List Operation → ℕ
advanced [] = 0
advanced (done ∷ back) = done.advance + advanced back

-- what they add to the line
abbrev pub changed : List Operation → ℕ
changed [] = 0
changed (done ∷ back) = done.change + changed back

-- where the operations lead from a start
abbrev pub row_after : ℕ → ℕ → List Operation → Row
row_after start first back = record {
  address = start + advanced back;
  file = file_after back;
  line = (first + changed back) % 2 ^ 32;
}

-- why a row may not be made, if there are so many files
abbrev pub row_reason : ℕ → Row → Option GsymReason
row_reason files row = if not (nat_lt row.address (2 ^ 64)) then Some NumberTooLarge
    else if not (row.file == 0) && not (nat_lt row.file files) then Some (NoFile row.file) else None

-- what a row is put before, if it may be made by the operation here
abbrev pub made : At → Option GsymReason → Row → Result (List Row) GsymFault → Result (List Row) GsymFault
made at (Some reason) row rows = refused at reason
made at None row rows = then_read rows (λ rows. Ok (row ∷ rows))

-- the rows that the operations from here on make, after those that were done
--     room   more than the bytes that are left
abbrev pub rows_from : ℕ → ℕ → ℕ → LineNumbers → List Operation → At → Result (List Row) GsymFault
rows_from zero files start numbers back at = Ok []
rows_from (suc room) files start numbers back at = elim (operation numbers at) [
  | Err fault ↦ Err fault
  | Ok read ↦ elim (read.0) [
    | None ↦ Ok []
    | Some done ↦ elim (done.makes_row) [
      | false ↦ rows_from room files start numbers (done ∷ back) read.1
      | true ↦ made at (row_reason files (row_after start numbers.first (done ∷ back))) (row_after start numbers.first (done ∷ back))
          (rows_from room files start numbers (done ∷ back) read.1)
    ]
  ]
]

-- the rows of the line table that these bytes are
abbrev pub rows_of : ℕ → ℕ → At → Result (List Row) GsymFault
rows_of files start at = then_read (line_numbers at) (λ numbers. rows_from (suc (length numbers.1.rest)) files start numbers.0 [] numbers.1)

-- ---- infos

-- the bytes of a block as a place of their own
abbrev pub within : At → List ℕ → At
within at bytes = record { place = at.place; rest = bytes; order = at.order }

-- a type, and the bytes that stand after it by their length; the place is theirs
pub record Part : Type 0 where
  pub kind : ℕ
  pub bytes : At

abbrev pub part : At → Read Part
part at = then_read (number 4 at) (λ kind. then_read (number 4 kind.1) (λ size. then_read (block size.0 size.1) (λ bytes.
    Ok (record { kind = kind.0; bytes = within size.1 bytes.0 }, bytes.1))))

-- the rows of each line table from here on, up to type 0; other types are passed over
--     room   more than the bytes that are left
abbrev pub tables_from : ℕ → ℕ → ℕ → At → Result (List (List Row)) GsymFault
tables_from zero files start at = Ok []
tables_from (suc room) files start at = elim (part at) [
  | Err fault ↦ Err fault
  | Ok read ↦ elim (read.0.kind == 0) [
    | true ↦ Ok []
    | false ↦ elim (read.0.kind == 1) [
      | false ↦ tables_from room files start read.1
      | true ↦ then_read (rows_of files start read.0.bytes) (λ rows.
          then_read (tables_from room files start read.1) (λ tables. Ok (rows ∷ tables)))
    ]
  ]
]

-- a function: where it starts, its size, where its name is, and the rows of its line tables
pub record Function : Type 0 where
  pub start : ℕ
  pub size : ℕ
  pub name : ℕ
  pub tables : List (List Row)

-- the function of the info here, if it starts there
abbrev pub function_of : ℕ → ℕ → At → Result Function GsymFault
function_of files start at = then_read (number 4 at) (λ size. then_read (number 4 size.1) (λ name.
    then_read (tables_from (suc (length name.1.rest)) files start name.1) (λ tables.
    Ok (record { start = start; size = size.0; name = name.0; tables = tables }))))
