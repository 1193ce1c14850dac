-- The fields of GSYM files (LLVM, `GsymReader`): numbers of a fixed size, and LEB128 numbers.
use Rattle.std.specs.Prelude.{ℕ, ◌+◌, ◌^◌, Bool, not, ◌&&◌, nat_lt, List, length, take, drop, ℤ, pos, neg_ℤ, int_lt, if◌then◌else◌}
use Rattle.std.specs.Prelude.{Option, Some, None, Result, Ok, Err}
use Rattle.std.specs.List.{list_all}
use Rattle.lnt_wire.specs.FirstValues.{first_leb, first_number}
use Rattle.lnt_wire.specs.Leb128.{groups, signed_groups}
use Rattle.lnt_wire.specs.Reading.{At}
use Rattle.lnt_gsym.specs.declared.fault.GsymFault.{GsymFault}
use Rattle.lnt_gsym.specs.declared.fault.GsymReason.{GsymReason}
use Rattle.lnt_gsym.specs.declared.fault.GsymReason.TheVariants.{Cut, NumberTooLarge}

-- a value and what stands after it, or the first fault
abbrev pub Read : Type 0 → Type 0
Read A = Result (A × At) GsymFault

-- the first fault, if there is one
abbrev pub fault_of : {A : Type 0} → Result A GsymFault → Option GsymFault
fault_of (Err fault) = Some fault
fault_of (Ok value) = None

-- what comes of the value, if there is one
abbrev pub then_read : {A B : Type 0} → Result A GsymFault → (A → Result B GsymFault) → Result B GsymFault
then_read (Err fault) f = Err fault
then_read (Ok value) f = f value

-- The field that begins here is at fault.
abbrev pub refused : {A : Type 0} → At → GsymReason → Result A GsymFault
refused at reason = Err (record { place = at.place; reason = reason })

-- the place after so many bytes, and what stands there
abbrev pub after : ℕ → At → At
after n at = record { place = at.place + n; rest = drop n at.rest; order = at.order }

-- A field of so many bytes has this value.
abbrev pub field : {A : Type 0} → ℕ → A → At → Read A
field size value at = if nat_lt (length at.rest) size then refused at Cut else Ok (value, after size at)

-- so many bytes
abbrev pub block : ℕ → At → Read (List ℕ)
block size at = field size (take size at.rest) at

-- a number of so many bytes
abbrev pub number : ℕ → At → Read ℕ
number size at = field size (first_number at.order size at.rest) at

-- A LEB128 number has this value, if it fits.
abbrev pub leb : {A : Type 0} → Bool → A → At → Read A
leb fits value at = if list_all (λ byte. not (nat_lt byte 128)) at.rest then refused at Cut
    else if fits then Ok (value, after (length (first_leb at.rest)) at) else refused at NumberTooLarge

abbrev pub unsigned : At → Read ℕ
unsigned at = leb (nat_lt (groups (first_leb at.rest)) (2 ^ 64)) (groups (first_leb at.rest)) at

-- the number of a file
abbrev pub file_number : At → Read ℕ
file_number at = then_read (unsigned at) (λ n. if nat_lt n.0 (2 ^ 32) then Ok n else refused at NumberTooLarge)

-- whether a number is from -2^63 to 2^63 - 1
abbrev pub fits_signed : ℤ → Bool
fits_signed z = not (int_lt z (neg_ℤ (pos (2 ^ 63)))) && int_lt z (pos (2 ^ 63))

abbrev pub signed : At → Read ℤ
signed at = leb (fits_signed (signed_groups (first_leb at.rest))) (signed_groups (first_leb at.rest)) at
