-- The header and the tables of GSYM files (LLVM, `GsymReader`).
use Rattle.std.specs.Prelude.{ℕ, zero, suc, ◌+◌, ◌*◌, ◌/◌, Bool, not, ◌||◌, nat_lt, ◌==◌, List, [], ◌∷◌, length, take, drop}
use Rattle.std.specs.Prelude.{if◌then◌else◌, Option, None, Some, Result, Ok, Err}
use Rattle.lnt_wire.specs.FirstValues.{first_number}
use Rattle.lnt_wire.specs.declared.format.Order.{Order}
use Rattle.lnt_wire.specs.declared.format.Order.TheVariants.{Little, Big}
use Rattle.lnt_wire.specs.Reading.{At}
use Rattle.lnt_gsym.specs.GsymFields.{Read, then_read, refused, block, number}
use Rattle.lnt_gsym.specs.GsymInfos.{Function, function_of}
use Rattle.lnt_gsym.specs.declared.fault.GsymFault.{GsymFault}
use Rattle.lnt_gsym.specs.declared.fault.GsymReason.TheVariants.{Version, AddressSize, UuidSize, Cut, NotInOrder}

-- ---- the header, which has 48 bytes

pub record Header : Type 0 where
  pub address_size : ℕ
  pub base : ℕ
  pub count : ℕ
  pub strings : List ℕ

-- The number 0x4753594d stands first, in the order of the file's numbers.
abbrev pub order_of : List ℕ → Option Order
order_of bytes = if nat_lt (length bytes) 4 then None
    else if first_number Little 4 bytes == 0x4753594d then Some Little
    else if first_number Big 4 bytes == 0x4753594d then Some Big else None

-- the place in a file
abbrev pub at_place : Order → List ℕ → ℕ → At
at_place order bytes place = record { place = place; rest = drop place bytes; order = order }

-- the number of so many bytes at a place of a file
abbrev pub number_at : Order → List ℕ → ℕ → ℕ → ℕ
number_at order bytes place size = first_number order size (drop place bytes)

abbrev pub is_address_size : ℕ → Bool
is_address_size size = size == 1 || (size == 2 || (size == 4 || size == 8))

abbrev pub header_of : Order → List ℕ → Result Header GsymFault
header_of order bytes =
    if nat_lt (length bytes) 48 then refused (at_place order bytes 0) Cut
    else if not (number_at order bytes 4 2 == 1) then refused (at_place order bytes 4) Version
    else if not (is_address_size (number_at order bytes 6 1)) then refused (at_place order bytes 6) AddressSize
    else if nat_lt 20 (number_at order bytes 7 1) then refused (at_place order bytes 7) UuidSize
    else if nat_lt (length bytes) (number_at order bytes 20 4 + number_at order bytes 24 4) then refused (at_place order bytes 20) Cut
    else Ok (record {
      address_size = number_at order bytes 6 1;
      base = number_at order bytes 8 8;
      count = number_at order bytes 16 4;
      strings = take (number_at order bytes 24 4) (drop (number_at order bytes 20 4) bytes);
    })

-- ---- the tables after it

-- so many numbers of a size, one after another
abbrev pub numbers_of : Order → ℕ → ℕ → List ℕ → List ℕ
numbers_of order size zero bytes = []
numbers_of order size (suc count) bytes = first_number order size bytes ∷ numbers_of order size count (drop size bytes)

abbrev pub numbers : ℕ → ℕ → At → Read (List ℕ)
numbers size count at = then_read (block (size * count) at) (λ bytes. Ok (numbers_of at.order size count bytes.0, bytes.1))

-- where the first number is, of those of a size from here on, that is below the one before it
abbrev pub first_lower : ℕ → ℕ → List ℕ → Option ℕ
first_lower size place [] = None
first_lower size place (n ∷ []) = None
first_lower size place (n ∷ m ∷ numbers) = if nat_lt m n then Some (place + size) else first_lower size (place + size) (m ∷ numbers)

-- the offsets, unless one is below the one before it
abbrev pub in_order : List ℕ × At → Option ℕ → Read (List ℕ)
in_order offsets None = Ok offsets
in_order offsets (Some place) = Err (record { place = place; reason = NotInOrder })

-- the offsets of addresses, in order
abbrev pub offsets : ℕ → ℕ → At → Read (List ℕ)
offsets size count at = then_read (numbers size count at) (λ offsets. in_order offsets (first_lower size at.place offsets.0))

-- the next multiple of 4
abbrev pub aligned : ℕ → ℕ
aligned place = (place + 3) / 4 * 4

-- so many files: where the directory of each is in the strings, and where its name is
abbrev pub files_of : Order → ℕ → List ℕ → List (ℕ × ℕ)
files_of order zero bytes = []
files_of order (suc count) bytes = (first_number order 4 bytes, first_number order 4 (drop 4 bytes)) ∷ files_of order count (drop 8 bytes)

abbrev pub files : Order → At → Read (List (ℕ × ℕ))
files order at = then_read (number 4 at) (λ count. then_read (block (8 * count.0) count.1) (λ bytes.
    Ok (files_of order count.0 bytes.0, bytes.1)))

-- the offset of each address from the base, the place of its info, and the files
pub record Tables : Type 0 where
  pub starts : List ℕ
  pub infos : List ℕ
  pub files : List (ℕ × ℕ)

abbrev pub tables_of : Order → List ℕ → Header → Result Tables GsymFault
tables_of order bytes header = then_read (offsets header.address_size header.count (at_place order bytes 48)) (λ offsets.
    then_read (numbers 4 header.count (at_place order bytes (aligned (48 + header.address_size * header.count)))) (λ infos.
    then_read (files order infos.1) (λ files.
    Ok (record { starts = offsets.0; infos = infos.0; files = files.0 }))))

-- ---- the whole

pub record Gsym : Type 0 where
  pub functions : List Function
  pub files : List (ℕ × ℕ)
  pub strings : List ℕ

-- the functions that start so, with these infos
abbrev pub functions_of : Order → List ℕ → ℕ → ℕ → List ℕ → List ℕ → Result (List Function) GsymFault
functions_of order bytes base files [] infos = Ok []
functions_of order bytes base files starts [] = Ok []
functions_of order bytes base files (start ∷ starts) (info ∷ infos) =
    elim (function_of files (base + start) (at_place order bytes info)) [
      | Err fault ↦ Err fault
      | Ok function ↦ then_read (functions_of order bytes base files starts infos) (λ functions. Ok (function ∷ functions))
    ]

abbrev pub gsym_of : Order → List ℕ → Result Gsym GsymFault
gsym_of order bytes = then_read (header_of order bytes) (λ header. then_read (tables_of order bytes header) (λ tables.
    then_read (functions_of order bytes header.base (length tables.files) tables.starts tables.infos) (λ functions.
    Ok (record { functions = functions; files = tables.files; strings = header.strings }))))
