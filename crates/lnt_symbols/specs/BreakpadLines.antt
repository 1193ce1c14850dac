-- The lines of Breakpad's symbol files, and what each says (Breakpad, docs/symbol_files.md).
use Rattle.std.specs.Prelude.{codes, ℕ, ◌^◌, Bool, true, false, not, ◌&&◌, ◌||◌, ◌==◌, nat_lt, List, [], ◌∷◌, ◌++◌, length, drop}
use Rattle.std.specs.Prelude.{if◌then◌else◌, Option, Some, None, Result, Ok, Err}
use Rattle.std.specs.List.{list_all, list_any, starts_with}
use Rattle.lnt_text.specs.Digits.{digits_value}
pub use Rattle.lnt_symbols.specs.declared.breakpad.record.LineRecord.{LineRecord}
pub use Rattle.lnt_symbols.specs.declared.breakpad.record.Range.{Range}
use Rattle.lnt_symbols.specs.declared.fault.LineReason.{LineReason}
use Rattle.lnt_symbols.specs.declared.fault.LineReason.TheVariants.{NotARecord, NumberTooLarge, ZeroByte}

-- ---- lines

-- A line ends with a line feed, a carriage return or both.
--     returned   whether a carriage return comes right before the bytes
--     line       the bytes of the line before them
abbrev pub lines_from : Bool → List ℕ → List ℕ → List (List ℕ)
lines_from returned line [] = line ∷ []
lines_from returned line (c ∷ bytes) =
    if c == 13 then line ∷ lines_from true [] bytes
    else if c == 10 then (if returned then lines_from false [] bytes else line ∷ lines_from false [] bytes)
    else lines_from false (line ++ c ∷ []) bytes

abbrev pub lines_of : List ℕ → List (List ℕ)
lines_of bytes = lines_from false [] bytes

-- ---- fields

-- a value that is said, or why none is
abbrev pub Said : Type 0 → Type 0
Said A = Result A LineReason

-- what comes of the value, if there is one
abbrev pub then_say : {A B : Type 0} → Said A → (A → Said B) → Said B
then_say (Err reason) f = Err reason
then_say (Ok value) f = f value

-- the bytes up to the first blank, and those after it
abbrev pub cut : List ℕ → Option (List ℕ × List ℕ)
cut [] = None
cut (c ∷ text) = if c == 32 then Some ([], text) else elim (cut text) [ None ↦ None | Some parts ↦ Some (c ∷ parts.0, parts.1) ]

abbrev pub is_decimal_digit : ℕ → Bool
is_decimal_digit c = nat_lt 47 c && nat_lt c 58

abbrev pub is_hexadecimal_digit : ℕ → Bool
is_hexadecimal_digit c = is_decimal_digit c || ((nat_lt 64 c && nat_lt c 71) || (nat_lt 96 c && nat_lt c 103))

-- one or more bytes that are all digits
abbrev pub are_digits : (ℕ → Bool) → List ℕ → Bool
are_digits is_digit text = nat_lt 0 (length text) && list_all is_digit text

-- 1 to 16 hexadecimal digits of either case
abbrev pub hexadecimal : List ℕ → Said ℕ
hexadecimal text = if not (are_digits is_hexadecimal_digit text) then Err NotARecord
    else if nat_lt 16 (length text) then Err NumberTooLarge else Ok (digits_value 16 0 text)

-- decimal digits of a number below 2^31
abbrev pub decimal : List ℕ → Said ℕ
decimal text = if not (are_digits is_decimal_digit text) then Err NotARecord
    else if nat_lt (digits_value 10 0 text) (2 ^ 31) then Ok (digits_value 10 0 text) else Err NumberTooLarge

-- a number, a blank, and what is left
abbrev pub field : (List ℕ → Said ℕ) → List ℕ → Said (ℕ × List ℕ)
field number text = elim (cut text) [
  | None ↦ Err NotARecord
  | Some parts ↦ then_say (number parts.0) (λ n. Ok (n, parts.1))
]

-- ---- records

-- what a line says: the name of a file; a function; a line record of the last function; that no function goes on; nothing for a table
pub data RecordSaid : Type 0 where
  file_said : ℕ → List ℕ → RecordSaid
  function_said : Range → RecordSaid
  line_said : LineRecord → RecordSaid
  public_said : RecordSaid
  nothing_said : RecordSaid

abbrev pub begins : List ℕ → List ℕ → Bool
begins word line = starts_with (λ a b. a == b) line word

-- FILE N NAME
abbrev pub file_of : List ℕ → Said RecordSaid
file_of text = then_say (field decimal text) (λ n. if nat_lt 0 (length n.1) then Ok (file_said n.0 n.1) else Err NotARecord)

-- ADDRESS SIZE and what is left
abbrev pub range_of : List ℕ → Said (Range × List ℕ)
range_of text = then_say (field hexadecimal text) (λ address. then_say (field hexadecimal address.1) (λ size.
    Ok (record { address = address.0; size = size.0 }, size.1)))

-- FUNC [m ]ADDRESS SIZE PARAMETERS NAME
abbrev pub function_of : List ℕ → Said RecordSaid
function_of text = then_say (range_of (if begins (codes "m ") text then drop 2 text else text)) (λ range.
    then_say (field hexadecimal range.1) (λ parameters.
    if nat_lt 0 (length parameters.1) then Ok (function_said range.0) else Err NotARecord))

-- ADDRESS SIZE LINE N
abbrev pub line_record_of : List ℕ → Said RecordSaid
line_record_of text = then_say (range_of text) (λ range. then_say (field decimal range.1) (λ line. then_say (decimal line.1) (λ file.
    Ok (line_said (record { range = range.0; line = line.0; file = file })))))

-- whether a line is empty or says nothing for a table
abbrev pub is_passed : List ℕ → Bool
is_passed line = length line == 0 || (begins (codes "MODULE ") line || (begins (codes "INFO ") line
    || (begins (codes "STACK ") line || (begins (codes "INLINE ") line || begins (codes "INLINE_ORIGIN ") line))))

-- what a line says
abbrev pub record_of : List ℕ → Said RecordSaid
record_of line = if list_any (λ c. c == 0) line then Err ZeroByte
    else if begins (codes "FILE ") line then file_of (drop 5 line)
    else if begins (codes "FUNC ") line then function_of (drop 5 line)
    else if begins (codes "PUBLIC ") line then Ok public_said
    else if is_passed line then Ok nothing_said else line_record_of line
