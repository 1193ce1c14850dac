-- What a GSYM file answers at an address, as LLVM's reader does (`GsymReader`, `FunctionInfo::lookup`).
use Rattle.std.specs.Prelude.{ℕ, zero, suc, ◌+◌, ◌^◌, Bool, not, ◌&&◌, ◌||◌, nat_lt, ◌==◌, List, [], ◌∷◌, ◌++◌, drop}
use Rattle.std.specs.Prelude.{if◌then◌else◌, Option, None, Some}
use Rattle.std.specs.List.{find, list_all, list_any, take_while}
use Rattle.std.specs.Option.{option_and_then}
use Rattle.lnt_records.specs.PathSpans.{PathAnswer}
use Rattle.lnt_wire.specs.FirstValues.{first_text}
use Rattle.lnt_gsym.specs.GsymFiles.{Gsym}
use Rattle.lnt_gsym.specs.GsymInfos.{Function, Row}

-- ---- the function at an address

-- whether no function starts between a function and an address that isn't below it
abbrev pub is_nearest : List Function → ℕ → Function → Bool
is_nearest functions a f = not (nat_lt a f.start) && list_all (λ other. nat_lt a other.start || not (nat_lt f.start other.start)) functions

-- whether a function that starts at or below an address holds it: without a size it does; else its end is above, and below 2^64
abbrev pub holds : ℕ → Function → Bool
holds a f = f.size == 0 || (nat_lt a (f.start + f.size) && nat_lt (f.start + f.size) (2 ^ 64))

-- the first function of those with the greatest start that holds an address
abbrev pub function_at : List Function → ℕ → Option Function
function_at functions a = find (λ f. is_nearest functions a f && holds a f) functions

-- ---- its row

abbrev pub last_of : List Row → Option Row
last_of [] = None
last_of (row ∷ []) = Some row
last_of (row ∷ next ∷ rows) = last_of (next ∷ rows)

-- the last row made before the first that lies above an address
abbrev pub row_at : ℕ → List Row → Option Row
row_at a rows = last_of (take_while (λ row. not (nat_lt a row.address)) rows)

-- The last line table answers; none does if one before it has no row there, or one of file 0.
abbrev pub row_in : ℕ → List (List Row) → Option Row
row_in a [] = None
row_in a (rows ∷ []) = row_at a rows
row_in a (rows ∷ next ∷ tables) = option_and_then (λ row. if row.file == 0 then None else row_in a (next ∷ tables)) (row_at a rows)

-- ---- its path

-- the text at an offset of the strings: up to a zero byte, or to their end; none outside of them
abbrev pub text_at : List ℕ → ℕ → List ℕ
text_at strings offset = first_text (drop offset strings)

abbrev pub has : ℕ → List ℕ → Bool
has byte text = list_any (λ c. c == byte) text

-- a slash; or a backslash where the directory has one, and no slash
abbrev pub separator : List ℕ → ℕ
separator directory = if has 92 directory && not (has 47 directory) then 92 else 47

abbrev pub joined : List ℕ → List ℕ → List ℕ
joined [] name = name
joined (c ∷ directory) name = (c ∷ directory) ++ (separator (c ∷ directory) ∷ name)

-- the path of the file with a number
abbrev pub path_in : List ℕ → List (ℕ × ℕ) → ℕ → List ℕ
path_in strings [] number = []
path_in strings (file ∷ files) zero = joined (text_at strings file.0) (text_at strings file.1)
path_in strings (file ∷ files) (suc number) = path_in strings files number

-- ---- its answer

-- the answer with this path and line, unless the path is empty
abbrev pub told : List ℕ → ℕ → Option PathAnswer
told [] line = None
told (c ∷ path) line = Some (record { path = c ∷ path; line = line; column = None })

-- what a row answers: nothing if it has file 0
abbrev pub row_answer : Gsym → Row → Option PathAnswer
row_answer gsym row = if row.file == 0 then None else told (path_in gsym.strings gsym.files row.file) row.line

-- what a file answers at an address: that of the row of the function there, if this has a name
abbrev pub gsym_answer : Gsym → ℕ → Option PathAnswer
gsym_answer gsym a = option_and_then (λ (f : Function). if f.name == 0 then None
    else option_and_then (row_answer gsym) (row_in a f.tables)) (function_at gsym.functions a)
