-- What a symbol file of Breakpad answers, as its `BasicSourceLineResolver` does, and what is wrong with a file that isn't one.
use Rattle.std.specs.Prelude.{codes, ℕ, ◌+◌, ◌^◌, Bool, true, false, not, ◌&&◌, ◌==◌, nat_lt, List, [], ◌∷◌, ◌++◌, if◌then◌else◌, Option}
use Rattle.std.specs.Prelude.{None, Result, Ok, Err}
use Rattle.std.specs.List.{find, list_any}
use Rattle.std.specs.Option.{option_map, option_and_then}
use Rattle.lnt_records.specs.PathSpans.{PathAnswer}
use Rattle.lnt_symbols.specs.BreakpadLines.{begins, lines_of, record_of, LineRecord, Range, RecordSaid, file_said, function_said}
use Rattle.lnt_symbols.specs.BreakpadLines.{line_said, public_said, nothing_said}
use Rattle.lnt_symbols.specs.declared.fault.LineReason.TheVariants.{NoFunction, NotASymbolFile, ZeroByte}
use Rattle.lnt_symbols.specs.declared.fault.SymbolFault.{SymbolFault}
use Rattle.lnt_symbols.specs.declared.fault.SymbolFault.TheVariants.{Line}

-- ---- a file

-- a function, and its line records in their order
pub record FunctionSaid : Type 0 where
  pub range : Range
  pub lines : List LineRecord

-- the line records up to the next function, or up to a PUBLIC
abbrev pub lines_before : List RecordSaid → List LineRecord
lines_before [] = []
lines_before (line_said line ∷ records) = line ∷ lines_before records
lines_before (function_said range ∷ records) = []
lines_before (public_said ∷ records) = []
lines_before (file_said n name ∷ records) = lines_before records
lines_before (nothing_said ∷ records) = lines_before records

abbrev pub functions_of : List RecordSaid → List FunctionSaid
functions_of [] = []
functions_of (function_said range ∷ records) = record { range = range; lines = lines_before records } ∷ functions_of records
functions_of (line_said line ∷ records) = functions_of records
functions_of (public_said ∷ records) = functions_of records
functions_of (file_said n name ∷ records) = functions_of records
functions_of (nothing_said ∷ records) = functions_of records

-- the name of the first file with a number, else nothing
abbrev pub name_in : List RecordSaid → ℕ → List ℕ
name_in [] number = []
name_in (file_said n name ∷ records) number = if n == number then name else name_in records number
name_in (function_said range ∷ records) number = name_in records number
name_in (line_said line ∷ records) number = name_in records number
name_in (public_said ∷ records) number = name_in records number
name_in (nothing_said ∷ records) number = name_in records number

-- ---- kept ranges

abbrev pub end_of : Range → ℕ
end_of range = range.address + range.size

-- not empty, and its last address isn't above 2^64 - 1
abbrev pub is_sound : Range → Bool
is_sound range = nat_lt 0 range.size && not (nat_lt (2 ^ 64) (end_of range))

-- whether two ranges that aren't empty have an address in common
abbrev pub meet : Range → Range → Bool
meet one other = nat_lt one.address (end_of other) && nat_lt other.address (end_of one)

-- whether a range is kept after those that are
abbrev pub is_kept : {X : Type 0} → (X → Range) → List X → X → Bool
is_kept range before x = is_sound (range x) && not (list_any (λ y. meet (range y) (range x)) before)

-- The kept ones: those before, and then each that is sound and meets no kept one before it.
abbrev pub kept_after : {X : Type 0} → (X → Range) → List X → List X → List X
kept_after range before [] = before
kept_after range before (x ∷ xs) = kept_after range (if is_kept range before x then before ++ x ∷ [] else before) xs

abbrev pub kept : {X : Type 0} → (X → Range) → List X → List X
kept range xs = kept_after range [] xs

-- ---- answers

abbrev pub holds : ℕ → Range → Bool
holds a range = nat_lt a (end_of range) && not (nat_lt a range.address)

-- What records answer at an address: the kept line record that holds it, in the kept function that holds it.
abbrev pub answer_at : List RecordSaid → ℕ → Option PathAnswer
answer_at records a = option_and_then
    (λ (function : FunctionSaid). option_map
    (λ (line : LineRecord). record { path = name_in records line.file; line = line.line; column = None })
    (find (λ line. holds a line.range) (kept (λ line. line.range) function.lines)))
    (find (λ function. holds a function.range) (kept (λ function. function.range) (functions_of records)))

-- ---- the records of a file, or its first fault

-- whether a line record may stand before the record, and after it
abbrev pub may_follow : Bool → RecordSaid → Bool
may_follow inside (line_said line) = inside
may_follow inside _ = true

abbrev pub is_inside : Bool → RecordSaid → Bool
is_inside inside (function_said range) = true
is_inside inside public_said = false
is_inside inside _ = inside

-- The records of lines, the first of which has this number, or what is wrong with the first that says nothing where it stands.
--     inside   whether a function goes on
abbrev pub records_from : ℕ → Bool → List (List ℕ) → Result (List RecordSaid) SymbolFault
records_from number inside [] = Ok []
records_from number inside (line ∷ lines) = elim (record_of line) [
  | Err reason ↦ Err (Line number reason)
  | Ok said ↦ if not (may_follow inside said) then Err (Line number NoFunction)
      else elim (records_from (number + 1) (is_inside inside said) lines) [ Err fault ↦ Err fault | Ok records ↦ Ok (said ∷ records) ]
]

-- The first line begins with MODULE.
abbrev pub records_of_lines : List (List ℕ) → Result (List RecordSaid) SymbolFault
records_of_lines [] = Err (Line 1 NotASymbolFile)
records_of_lines (line ∷ lines) = if not (begins (codes "MODULE ") line) then Err (Line 1 NotASymbolFile)
    else if list_any (λ c. c == 0) line then Err (Line 1 ZeroByte) else records_from 2 false lines

abbrev pub records_of : List ℕ → Result (List RecordSaid) SymbolFault
records_of bytes = records_of_lines (lines_of bytes)
